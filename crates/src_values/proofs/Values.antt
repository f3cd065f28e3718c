-- How much few bytes hold.
use Rattle.std.proofs.Common.{◌≡◌, ℕ, zero, suc, ◌≤◌, arith}
use Rattle.src_values.specs.Numbers.{values_of}

pub values_more : (i j : ℕ) → i ≤ j → values_of i ≤ values_of j
values_more i zero l = let e : i ≡ 0 = omega arith in rw e (omega arith)
values_more zero (suc j) l = let r = values_more zero j (omega arith) in omega (arith, r)
values_more (suc i) (suc j) l = let r = values_more i j (omega arith) in omega (arith, r)
