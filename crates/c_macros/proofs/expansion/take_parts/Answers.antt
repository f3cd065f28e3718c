use Rattle.std.proofs.Common.{◌+◌, arith, drop}
use Rattle.std.proofs.lemmas.Result.{err_from_is_err_and}
use Rattle.std.proofs.lemmas.List.{drop-drop, length-drop}
use Rattle.c_macros.proofs.Carried.{carried, stopped, finished, text_rest, line_rest}
use Rattle.c_macros.proofs.expansion.take_parts.Goals as goal

pub returns-in-Nothing : goal.returns-in-Nothing
returns-in-Nothing c =
    let f = rw c.after-rest.ensures at c.in-Nothing.ensures.is in
    let e = rw c.deref.ensures.value at c.finish.ensures in
    finished _ _ _ _ _ _ _ c.parts.invariant.owed c.finish.result f e

pub returns-in_err-count-in-Text : goal.returns-in_err-count-in-Text
returns-in_err-count-in-Text c =
    let p = err_from_is_err_and c.from_residual.result c.from_residual.ensures.1 in
    rw (p.1, p.2) (stopped _ _ _ _ _ _ _ c.parts.invariant.owed c.in_err-count-in-Text.field-0.0 _ _
    (rw c.after-rest.ensures at c.in_err-count-in-Text.ensures))

pub parts-preserved-in-Text : goal.parts-preserved-in-Text
parts-preserved-in-Text c =
    let f = rw c.after-rest.ensures at c.in-Text.ensures.is in
    let k = carried _ _ _ _ _ _ _ c.parts.invariant.owed _ _ _ (rw c.after-rest.ensures at c.in_ok-count-in-Text.ensures) in record {
      within = omega (arith, f.2, length-drop c.parts.at c.args.source.now);
      owed = rw (← drop-drop c.in-Text.n c.parts.at c.args.source.now)
          (rw (text_rest (drop c.parts.at c.args.source.now) c.in-Text.n f) at k);
    }

pub returns-in_err-count-in-Line : goal.returns-in_err-count-in-Line
returns-in_err-count-in-Line c =
    let p = err_from_is_err_and c.from_residual-in_err-count-in-Line.result c.from_residual-in_err-count-in-Line.ensures.1 in
    rw (p.1, p.2) (stopped _ _ _ _ _ _ _ c.parts.invariant.owed c.in_err-count-in-Line.field-0.0 _ _
    (rw c.after-rest.ensures at c.in_err-count-in-Line.ensures))

pub parts-preserved : goal.parts-preserved
parts-preserved c =
    let f = rw c.after-rest.ensures at c.in-Line.ensures.is in
    let k = carried _ _ _ _ _ _ _ c.parts.invariant.owed _ _ _ (rw c.after-rest.ensures at c.in_ok-count-in-Line.ensures) in record {
      within = omega (arith, f.3, length-drop c.parts.at c.args.source.now);
      owed = rw (← drop-drop (c.in-Line.n + 1) c.parts.at c.args.source.now)
          (rw (line_rest (drop c.parts.at c.args.source.now) c.in-Line.n f) at k);
    }
