use Rattle.src_values.proofs.parts.+are_zero.Given as goal

abbrev pub decreases-are_zero : goal.decreases-are_zero
decreases-are_zero l = l.count
