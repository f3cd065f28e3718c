use Rattle.std.proofs.Common.{◌+◌, ◌++◌, replicate, Ok, Err, refl, sym, subst, ap, ◌∙◌}
use Rattle.library_meaning.specs.Scan.{and_then}
use Rattle.object_meaning.specs.Touches.{reads, tested, cells_at, put_at}
use Rattle.object_meaning.specs.declared.values.Cell.TheVariants.{Byte}
use Rattle.src_values.specs.Numbers.{Changes}
use Rattle.src_lib.specs.Reaches.{apart_tests}
use Rattle.src_lib.specs.Stores.{read_at, written_at}
use Rattle.src_lib.specs.Texts.{cells_of}
use Rattle.src_lib.proofs.Tests.{tested_then}
use Rattle.src_lib.proofs.strings.put_text.Goals as goal

pub returns-in-Err-clause-changes : goal.returns-in-Err-clause-changes
returns-in-Err-clause-changes c =
    let objs = c.args.memory.now in
    let to = written_at c.args.to c.args.offset (c.args.text.len + c.args.zeros) in
    let new = put_at objs c.args.to c.args.offset (cells_at objs (reads c.args.from c.args.text.len) ++ replicate c.args.zeros (Byte 0)) in
    let stop = ap (λ n. tested (apart_tests objs to (read_at c.args.from n)) (Ok tt)) (sym c.cells.ensures.is) ∙ sym c.apart.ensures ∙ c.in-Err.is in
    subst (λ r. Changes r objs objs (Err c.in-Err.kind))
    (sym (tested_then (apart_tests objs to (read_at c.args.from (cells_of c.args.text))) new ∙ ap (λ r. and_then r (λ u. Ok new)) stop)) (refl, refl)
