use Rattle.src_values.proofs.parts.+any_uninit.Given as goal

abbrev pub decreases-any_uninit : goal.decreases-any_uninit
decreases-any_uninit l = l.count
