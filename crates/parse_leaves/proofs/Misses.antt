-- Something is not nothing.
use Rattle.std.proofs.Common.{◌≡◌, Option, Some, None}

pub nothing_found : {A : Type 0} {x : A} → ◌≡◌ {A = Option A} None (Some x) → ⊥
nothing_found e = cc

pub found_nothing : {A : Type 0} {x : A} → ◌≡◌ {A = Option A} (Some x) None → ⊥
found_nothing e = cc

pub some_same : {A : Type 0} {x y : A} → ◌≡◌ {A = Option A} (Some x) (Some y) → x ≡ y
some_same e = cc
