-- How often a name is in a list of names to which one is added.
use Rattle.std.proofs.Common.{◌≡◌, ◌≢◌, ℕ, ◌+◌, false, cond, List, [], ◌∷◌, ◌++◌, ap, ◌∙◌, sym, refl, add-zero}
use Rattle.std.proofs.Common.{◌⊎◌, inl, inr, Result, Ok, Err}
use Rattle.std.proofs.lemmas.Bool.{false_from_ne_true}
use Rattle.std.proofs.lemmas.List.Sums.{sum_by_push}
use Rattle.std.proofs.lemmas.Slice.Eq.{bytes_eq-Decides}
use Rattle.std.specs.Str.{bytes_eq}
use Rattle.fc_base.specs.declared.faults.FetchFault.{FetchFault}
use Rattle.fc_base.specs.declared.faults.FetchFault.TheVariants as fetch_faults
use Rattle.fc_base.specs.declared.faults.KeepFault.{KeepFault}
use Rattle.fc_base.specs.declared.faults.KeepFault.TheVariants as keep_faults
use Rattle.fort_files.specs.Failures.{times}

-- the name that is added is there once more
pub times_of_added : (names : List (List ℕ)) (name : List ℕ) → times (names ++ name ∷ []) name ≡ times names name + 1
times_of_added names name =
    sum_by_push (λ other. cond (bytes_eq other name) 1 0) names name ∙ ap (λ b. times names name + cond b 1 0) ((bytes_eq-Decides name name).1 refl)

-- another name is there as often
pub times_of_others : (names : List (List ℕ)) (name other : List ℕ) → other ≢ name → times (names ++ name ∷ []) other ≡ times names other
times_of_others names name other differs =
    let false_there : bytes_eq name other ≡ false = false_from_ne_true _ (λ same. differs (sym ((bytes_eq-Decides name other).0 same))) in
    sum_by_push (λ each. cond (bytes_eq each other) 1 0) names name ∙ ap (λ b. times names other + cond b 1 0) false_there ∙ add-zero (times names other)

-- a list that has the name added or not has another name as often
pub times_elsewhere : {P : Type 0} (names new : List (List ℕ)) (name other : List ℕ) → P ⊎ (P → ⊥) → (P → new ≡ names ++ name ∷ []) → ((P → ⊥) → new ≡ names) → other ≢ name → times new other ≡ times names other
times_elsewhere names new name other (inl p) added same differs = rw (added p) (times_of_others names name other differs)
times_elsewhere names new name other (inr p) added same differs = rw (same p) refl

-- a fetch failed or not
pub fetch_failed : {A : Type 0} (r : Result A FetchFault) → (r ≡ Err fetch_faults.Failed) ⊎ (r ≢ Err fetch_faults.Failed)
fetch_failed (Ok x) = inr (λ h. cc)
fetch_failed (Err fetch_faults.Failed) = inl refl
fetch_failed (Err fetch_faults.TooLong) = inr (λ h. cc)
fetch_failed (Err fetch_faults.NoMemory) = inr (λ h. cc)

-- a keep failed or not
pub keep_failed : {A : Type 0} (r : Result A KeepFault) → (r ≡ Err keep_faults.Failed) ⊎ (r ≢ Err keep_faults.Failed)
keep_failed (Ok x) = inr (λ h. cc)
keep_failed (Err keep_faults.Failed) = inl refl
keep_failed (Err keep_faults.NoMemory) = inr (λ h. cc)
