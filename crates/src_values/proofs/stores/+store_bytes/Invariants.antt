use Rattle.src_values.proofs.stores.+store_bytes.Given as goal

abbrev pub decreases-store_bytes : goal.decreases-store_bytes
decreases-store_bytes l = l.count
