use Rattle.std.proofs.Common.{sym}
use Rattle.c_layout.proofs.Placements.{has_layouts}
use Rattle.c_layout.proofs.tags.Tags.layouts_law.Goals as goal

pub returns : goal.returns
returns c = rw (sym c.self.view_is) (has_layouts _ c.self.invariant.sized)
