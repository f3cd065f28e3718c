use Rattle.src_values.proofs.stores.+store_parts.Given as goal

abbrev pub decreases-store_parts : goal.decreases-store_parts
decreases-store_parts l = l.count
