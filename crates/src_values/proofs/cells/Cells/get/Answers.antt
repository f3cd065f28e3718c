use Rattle.std.proofs.Common.{get_or, sym, ap, ◌∙◌}
use Rattle.object_meaning.specs.declared.values.Cell.TheVariants as cell
use Rattle.src_values.specs.View.{nowhere, cell_of}
use Rattle.src_values.proofs.Marked.{cell_is, mark_there}
use Rattle.src_values.proofs.cells.Cells.get.Goals as goal

pub index-requires : goal.index-requires
index-requires c = mark_there c.self.inside c.args.self.now c.args.at c.self.view_is c.requires

pub returns-in-Byte : goal.returns-in-Byte
returns-in-Byte c = sym (cell_is c.self.inside.marks.items c.self.inside.pointers.items c.args.self.now c.args.at c.index.result.now
    c.self.view_is c.requires c.index.ensures ∙ ap (λ m. cell_of m (get_or c.self.inside.pointers.items c.args.at nowhere)) c.in-Byte.is)

pub returns-in-Uninit : goal.returns-in-Uninit
returns-in-Uninit c = sym (cell_is c.self.inside.marks.items c.self.inside.pointers.items c.args.self.now c.args.at c.index.result.now
    c.self.view_is c.requires c.index.ensures ∙ ap (λ m. cell_of m (get_or c.self.inside.pointers.items c.args.at nowhere)) c.in-Uninit.is)

pub returns-in-Part : goal.returns-in-Part
returns-in-Part c = sym (cell_is c.self.inside.marks.items c.self.inside.pointers.items c.args.self.now c.args.at c.index.result.now
    c.self.view_is c.requires c.index.ensures ∙ ap (λ m. cell_of m (get_or c.self.inside.pointers.items c.args.at nowhere)) c.in-Part.is
    ∙ ap (λ p. cell.Part p c.in-Part.k) (ap (λ ps. get_or ps c.args.at nowhere) (sym c.deref.ensures.value) ∙ sym c.pointer_at.ensures))
