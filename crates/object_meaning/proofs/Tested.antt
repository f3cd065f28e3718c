-- Tests that none fails.
use Rattle.std.proofs.Common.{◌≡◌, Bool, true, false, ◌||◌, List, [], ◌∷◌, Result, Err, refl}
use Rattle.std.specs.Prelude.{if◌then◌else◌, IfOk}
use Rattle.fc_base.specs.declared.undefined.UndefKind.{UndefKind}
use Rattle.object_meaning.specs.Touches.{Test, tested}

-- what tests say of a result where none fails
abbrev pub AllPass : List Test → Type 0
AllPass [] = Unit {0}
AllPass (t ∷ ts) = (t.fails ≡ false) × AllPass ts

pub tested_ok : {X : Type 0} (P : X → Type 0) (ts : List Test) (r : Result X UndefKind) → (AllPass ts → IfOk r P) → IfOk (tested ts r) P
tested_ok P [] r h = h tt
tested_ok P (t ∷ ts) r h = go t.fails refl (tested_ok P ts r)
  where
    go : (b : Bool) → t.fails ≡ b → ((AllPass ts → IfOk r P) → IfOk (tested ts r) P) → IfOk (if b then Err t.kind else tested ts r) P
    go true e more = tt
    go false e more = more (λ a. h (e, a))

pub or_left : (a b : Bool) → a || b ≡ false → a ≡ false
or_left false b h = refl
or_left true b h = h

pub or_right : (a b : Bool) → a || b ≡ false → b ≡ false
or_right false b h = h
or_right true b h = absurd (cc)
