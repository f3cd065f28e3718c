use Rattle.std.proofs.Common.{◌+◌, ◌∷◌, [], ◌++◌, refl}
use Rattle.std.specs.Prelude.{slice_range}
use Rattle.run_meaning.proofs.Moved.{appends-append, rose-later}
use Rattle.library_meaning.specs.Rows.{Count}
use Rattle.library_meaning.specs.Table.{int_of}
use Rattle.fd_chk.proofs.Written.{writes_all, writes_some, puts_shows, front_of_first, front_of_second, behind_some}
use Rattle.fd_chk.proofs.writing.puts_c.Goals as goal

pub returns-in-Err-clause-row : goal.returns-in-Err-clause-row
returns-in-Err-clause-row g c =
    let m = c.args.mem.now in
    let text = c.in_ok-text.text in
    let piece = slice_range m c.args.s (c.args.s + text.len) in
    writes_some (c.args.s ∷ []) m _ 1 (piece ++ 10 ∷ []) (Count (int_of (text.len + 1))) _ _
    (puts_shows m c.args.s text.len _ c.in_ok-text.ensures.found c.in_ok-text.ensures.lies.long)
    (behind_some piece 10) (front_of_first piece (10 ∷ []) _ _ c.in-Err.ensures.front_appended) c.in-Err.ensures.failed

pub returns-in-Ok-write-clause-row : goal.returns-in-Ok-write-clause-row
returns-in-Ok-write-clause-row g c =
    let m = c.args.mem.now in
    let text = c.in_ok-text.text in
    let piece = slice_range m c.args.s (c.args.s + text.len) in
    writes_all (c.args.s ∷ []) m _ 1 _ (piece ++ 10 ∷ []) (Count (int_of (text.len + 1))) _ _
    (puts_shows m c.args.s text.len _ c.in_ok-text.ensures.found c.in_ok-text.ensures.lies.long) refl
    (appends-append piece (10 ∷ []) _ _ _ c.in-Ok.ensures.appended c.in-Ok-write.ensures.appended)

pub returns-in-Err-write-clause-row : goal.returns-in-Err-write-clause-row
returns-in-Err-write-clause-row g c =
    let m = c.args.mem.now in
    let text = c.in_ok-text.text in
    let piece = slice_range m c.args.s (c.args.s + text.len) in
    writes_some (c.args.s ∷ []) m _ 1 (piece ++ 10 ∷ []) (Count (int_of (text.len + 1))) _ _
    (puts_shows m c.args.s text.len _ c.in_ok-text.ensures.found c.in_ok-text.ensures.lies.long)
    (behind_some piece 10) (front_of_second piece (10 ∷ []) _ _ _ c.in-Ok.ensures.appended c.in-Err-write.ensures.front_appended)
    (rose-later _ _ _ c.in-Ok.ensures.counts.0 c.in-Err-write.ensures.failed)
