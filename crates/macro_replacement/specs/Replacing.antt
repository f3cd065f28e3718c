-- What the functions of the code give, as plain data.
use Rattle.std.specs.Prelude.{◌≡◌, ℕ, Bool, true, false, List, ◌∷◌, ◌++◌, map, Result, Ok, Err}
use Rattle.fc_base.specs.Answers.{Fails}
use Rattle.fc_base.specs.declared.Fault.{Fault}
use Rattle.c_tokens.specs.declared.Token.{Token}
use Rattle.macro_meaning.specs.Macros.{Item, token, Macros}
use Rattle.macro_meaning.specs.Replacement.{ReplacedList, Expands}
use Rattle.macro_meaning.specs.Turns.{stays, turn}
use Rattle.macro_items.specs.declared.Item.{Item as Held}
use Rattle.macro_items.specs.Views.{views}

-- the tokens that a function gave stand behind those from before, and have the property with the count after them
abbrev pub GivesAs : Result ℕ Fault → List Held → List Held → (ReplacedList → Type 0) → Type 0
GivesAs (Ok count) before after P = (xs : List Item) × (views after ≡ views before ++ xs) × P (Ok (xs, count))
GivesAs (Err e) before after P = Fails e P

-- whether the token t stays, where old was left after it and new is left now: else new expands to what t and old expand to
abbrev pub StaysAs : Macros → ℕ → Item → ℕ → List Item → Result Bool Fault → ℕ → List Item → Type 0
StaysAs ms depth t count old (Ok true) count' new = (turn ms depth t old ≡ stays) × (count' ≡ count) × (new ≡ old)
StaysAs ms depth t count old (Ok false) count' new = (out : ReplacedList) → Expands ms depth count' new out
    → Expands ms depth count (t ∷ old) out
StaysAs ms depth t count old (Err e) count' new = Fails e (Expands ms depth count (t ∷ old))

-- the tokens of an expanded list stand behind those from before
abbrev pub AddsAs : Result ℕ Fault → Macros → ℕ → List Item → List Token → List Token → Type 0
AddsAs (Ok count') ms count ts before after = (xs : List Item) × (after ≡ before ++ map token xs) × Expands ms 0 count ts (Ok (xs, count'))
AddsAs (Err e) ms count ts before after = Fails e (Expands ms 0 count ts)
