use Rattle.c_layout.proofs.Placements.{places_members}
use Rattle.c_layout.proofs.laws.placement_law.Goals as goal

pub returns : goal.returns
returns c = places_members
