use Rattle.std.proofs.Common.{◌+◌, rules}
use Rattle.fort_files.proofs.KnownBytes.{appends_next, appends_front, after_error}
use Rattle.fort_files.proofs.transfer.write_whole.Goals as goal

pub returns-in_err-count-clause-front_appended : goal.returns-in_err-count-clause-front_appended
returns-in_err-count-clause-front_appended g c =
    after_error c.from_residual.result _ (appends_front _ (c.loop-done.done + 0) _ _ (appends_next _ _ 0 _ _ _ c.loop-done.invariant.written c.in_err-count.ensures.none_appended))

pub returns-then-count-eq0-clause-front_appended :
    goal.returns-then-count-eq0-clause-front_appended
returns-then-count-eq0-clause-front_appended g c =
    appends_front _ (c.loop-done.done + c.in_ok-count.count) _ _ (appends_next _ _ _ _ _ _ c.loop-done.invariant.written c.in_ok-count.ensures.appended)

pub loop-done-preserved : goal.loop-done-preserved
loop-done-preserved g c = record {
  within = search rules;
  written = appends_next _ _ _ _ _ _ c.loop-done.invariant.written c.in_ok-count.ensures.appended;
}
