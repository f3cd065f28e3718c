use Rattle.parse_initialisers.proofs.initialisers.+initialiser.Given as goal

abbrev pub decreases-initialiser : goal.decreases-initialiser
decreases-initialiser l = l.depth
