use Rattle.parse_aggregates.proofs.specifiers.+outer_spec.Given as goal

abbrev pub decreases-outer_spec : goal.decreases-outer_spec
decreases-outer_spec l = l.depth
