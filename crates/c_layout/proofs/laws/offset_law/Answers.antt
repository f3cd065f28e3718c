use Rattle.c_layout.proofs.Offsets.{places_offsets}
use Rattle.c_layout.proofs.laws.offset_law.Goals as goal

pub returns : goal.returns
returns c = places_offsets
