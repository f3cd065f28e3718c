use Rattle.std.proofs.Common.{set, sym, ap, ◌∙◌, arith}
use Rattle.object_meaning.specs.declared.values.Cell.TheVariants as cell
use Rattle.src_values.specs.View.{marked}
use Rattle.src_values.specs.declared.cells.Mark.TheVariants as mark
use Rattle.src_values.proofs.Marked.{mark_there, marked-set, marked-with}
use Rattle.src_values.proofs.cells.Cells.set.Goals as goal

pub index_mut-requires : goal.index_mut-requires
index_mut-requires c = mark_there c.self.inside c.args.self.now c.args.at c.self.view_is c.requires

pub index_mut-requires-in-Uninit : goal.index_mut-requires-in-Uninit
index_mut-requires-in-Uninit c = mark_there c.self.inside c.args.self.now c.args.at c.self.view_is c.requires

pub index_mut-requires-in-Part : goal.index_mut-requires-in-Part
index_mut-requires-in-Part c = mark_there c.self.inside c.args.self.now c.args.at c.self.view_is c.requires

pub put_pointer-requires : goal.put_pointer-requires
put_pointer-requires c =
    let there = mark_there c.self.inside c.args.self.now c.args.at c.self.view_is c.requires in
    omega (arith, there, c.self.invariant)

pub returns-in-Byte : goal.returns-in-Byte
returns-in-Byte c =
    marked-set c.self.inside.marks.items c.self.inside.pointers.items c.args.at (mark.Byte c.in-Byte.byte)
    ∙ ap (λ cs. set cs c.args.at (cell.Byte c.in-Byte.byte)) c.self.view_is ∙ ap (set c.args.self.now c.args.at) (sym c.in-Byte.is)

pub returns-in-Uninit : goal.returns-in-Uninit
returns-in-Uninit c =
    marked-set c.self.inside.marks.items c.self.inside.pointers.items c.args.at mark.Uninit
    ∙ ap (λ cs. set cs c.args.at cell.Uninit) c.self.view_is ∙ ap (set c.args.self.now c.args.at) (sym c.in-Uninit.is)

pub returns-in-Part : goal.returns-in-Part
returns-in-Part c =
    ap (λ ps. marked (set c.self.inside.marks.items c.args.at (mark.Part c.in-Part.k)) ps) c.put_pointer.ensures.items
    ∙ marked-with c.self.inside.marks.items c.self.inside.pointers.items c.args.at (mark.Part c.in-Part.k) c.in-Part.of
    ∙ ap (λ cs. set cs c.args.at (cell.Part c.in-Part.of c.in-Part.k)) c.self.view_is
    ∙ ap (set c.args.self.now c.args.at) (sym c.in-Part.is)
