-- Parameters of a list, those so far in front.
use Rattle.std.proofs.Common.{◌≡◌, ℕ, ◌+◌, List, [], ◌∷◌, ◌++◌, Result, Ok, Err, refl, sym, ap, append_assoc}
use Rattle.fc_base.specs.declared.refusals.Refusal.{Refusal}
use Rattle.elab_meaning.specs.Typing.{State, Typing, goes_on, pure, ◌>>=◌}
use Rattle.elab_meaning.specs.Parts.{Parameter, ReadParam}
use Rattle.elab_meaning.specs.Declarations.{params_from}

-- these, and then those of a list
abbrev pub params_onto : List Parameter → ℕ → ℕ → List ReadParam → Typing (List Parameter)
params_onto before start number ps = do
  more ← params_from start number ps
  pure (before ++ more)

all_of : (r : Result (List Parameter × State) Refusal) → goes_on r (λ more. pure ([] ++ more)) ≡ r
all_of (Ok (more, u)) = refl
all_of (Err e) = refl

pub params_all : (start : ℕ) (ps : List ReadParam) (s : State) → params_onto [] start 0 ps s ≡ params_from start 0 ps s
params_all start ps s = all_of (params_from start 0 ps s)

one_more : (before : List Parameter) (a : Parameter) (r : Result (List Parameter × State) Refusal)
    → goes_on (goes_on r (λ more. pure (a ∷ more))) (λ more. pure (before ++ more)) ≡ goes_on r (λ more. pure ((before ++ a ∷ []) ++ more))
one_more before a (Ok (more, u)) = ap (λ (xs : List Parameter). Ok (xs, u)) (sym (append_assoc before (a ∷ []) more))
one_more before a (Err e) = refl

pub params_more : (before : List Parameter) (start number : ℕ) (p : ReadParam) (ps : List ReadParam) (s u : State) (a : Parameter)
    → p start number s ≡ Ok (a, u) → params_onto before start number (p ∷ ps) s ≡ params_onto (before ++ a ∷ []) start (number + 1) ps u
params_more before start number p ps s u a e = rw e (one_more before a (params_from start (number + 1) ps u))

pub params_stop : (before : List Parameter) (start number : ℕ) (p : ReadParam) (ps : List ReadParam) (s : State) (r : Refusal)
    → p start number s ≡ Err r → params_onto before start number (p ∷ ps) s ≡ Err r
params_stop before start number p ps s r e = rw e refl
