-- The turns of a loop over a list, each item of which tells by what stands behind it whether it is the last.
use Rattle.std.proofs.Common.{◌≡◌, ℕ, zero, suc, ◌+◌, ◌-◌, ◌<◌, ◌≤◌, max, List, [], ◌∷◌, ◌++◌, Option, Some, None, Bool, true, false, ap, ◌∙◌}
use Rattle.std.specs.Prelude.{if◌then◌else◌}
use Rattle.parse_meaning.specs.Terminals.{Lexeme}
use Rattle.parse_reading.specs.Reading.{Read, ◌>>=◌, found, prepended}
use Rattle.parse_tokens.proofs.Turns.{one_more, no_more, prepended-prepended}

-- an item, by what stands behind it
abbrev pub ended : {A : Type 0} → (List Lexeme → Option (Read (List A))) → Read A → Bool × List Lexeme → Option (Read (List A))
ended later x r = if r.0 then Some (found (x.tree ∷ []) x.height r.1) else prepended (x.tree ∷ []) x.height (later r.1)

pub record ListOf {A : Type 0} (one : List Lexeme → Option (Read A)) (ends : List Lexeme → Option (Bool × List Lexeme))
    (items : ℕ → List Lexeme → Option (Read (List A))) : Type 0 where
  pub step : (m : ℕ) (s : List Lexeme) → items (suc m) s ≡ (one s >>= λ x. ends x.rest >>= ended (items m) x)
  pub last : (s : List Lexeme) → items zero s ≡ None

module _ {A : Type 0} {one : List Lexeme → Option (Read A)} {ends : List Lexeme → Option (Bool × List Lexeme)}
    {items : ℕ → List Lexeme → Option (Read (List A))}
    (list : ListOf one ends items) {read : Option (Read (List A))} (xs : List A) (h turns at : ℕ) (s : List Lexeme) where
  one_turn : at < turns → read ≡ prepended xs h (items (turns - at) s) →
      read ≡ prepended xs h (one s >>= λ x. ends x.rest >>= ended (items (turns - (at + 1))) x)
  one_turn below same =
      one_more (λ m. prepended xs h (items m s)) turns at below same ∙ ap (prepended xs h) (list.step (turns - (at + 1)) s)

  item_turn : at < turns → read ≡ prepended xs h (items (turns - at) s) → (x : Read A) → one s ≡ Some x →
      read ≡ prepended xs h (ends x.rest >>= ended (items (turns - (at + 1))) x)
  item_turn below same x some =
      one_turn below same ∙ ap (λ r. prepended xs h (r >>= λ x. ends x.rest >>= ended (items (turns - (at + 1))) x)) some

  pub item_fails : at < turns → read ≡ prepended xs h (items (turns - at) s) → one s ≡ None → read ≡ None
  item_fails below same none =
      one_turn below same ∙ ap (λ r. prepended xs h (r >>= λ x. ends x.rest >>= ended (items (turns - (at + 1))) x)) none

  pub end_fails : at < turns → read ≡ prepended xs h (items (turns - at) s) → (x : Read A) → one s ≡ Some x →
      ends x.rest ≡ None → read ≡ None
  end_fails below same x some none = item_turn below same x some ∙ ap (λ r. prepended xs h (r >>= ended (items (turns - (at + 1))) x)) none

  pub turn_ends : at < turns → read ≡ prepended xs h (items (turns - at) s) → (x : Read A) → one s ≡ Some x → (b : Bool) (t : List Lexeme) →
      ends x.rest ≡ Some (b, t) → b ≡ true →
      read ≡ Some (found (xs ++ x.tree ∷ []) (max h x.height) t)
  turn_ends below same x some b t end is_last =
      item_turn below same x some ∙ ap (λ r. prepended xs h (r >>= ended (items (turns - (at + 1))) x)) end
      ∙ ap (λ b. prepended xs h (ended (items (turns - (at + 1))) x (b, t))) is_last

  pub turn_goes : at < turns → read ≡ prepended xs h (items (turns - at) s) → (x : Read A) → one s ≡ Some x → (b : Bool) (t : List Lexeme) →
      ends x.rest ≡ Some (b, t) → b ≡ false →
      read ≡ prepended (xs ++ x.tree ∷ []) (max h x.height) (items (turns - (at + 1)) t)
  turn_goes below same x some b t end not_last =
      item_turn below same x some ∙ ap (λ r. prepended xs h (r >>= ended (items (turns - (at + 1))) x)) end
      ∙ ap (λ b. prepended xs h (ended (items (turns - (at + 1))) x (b, t))) not_last
      ∙ prepended-prepended xs (x.tree ∷ []) h x.height (items (turns - (at + 1)) t)

  pub turns_over : turns ≤ at → read ≡ prepended xs h (items (turns - at) s) → read ≡ None
  turns_over done same = no_more (λ m. prepended xs h (items m s)) turns at done same ∙ ap (prepended xs h) (list.last s)
