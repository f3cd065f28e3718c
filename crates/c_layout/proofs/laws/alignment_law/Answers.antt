use Rattle.c_layout.proofs.Placements.{small_alignments}
use Rattle.c_layout.proofs.laws.alignment_law.Goals as goal

pub returns : goal.returns
returns c = small_alignments
