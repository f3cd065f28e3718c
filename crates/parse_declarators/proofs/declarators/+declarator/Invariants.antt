use Rattle.parse_declarators.proofs.declarators.+declarator.Given as goal

abbrev pub decreases-declarator : goal.decreases-declarator
decreases-declarator l = l.depth
