use Rattle.std.proofs.Common.{length, sym, ap, ◌∙◌}
use Rattle.src_values.proofs.Marked.{length-marked}
use Rattle.src_values.proofs.cells.Cells.len.Goals as goal

pub returns : goal.returns
returns c = c.len.ensures ∙ c.self.inside.marks.ok.0 ∙ sym (length-marked c.self.inside.marks.items c.self.inside.pointers.items)
    ∙ ap length c.self.view_is
