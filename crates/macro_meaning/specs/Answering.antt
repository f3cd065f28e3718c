-- The line of a condition, read once from its front: what `IsAnswered` says, as a function. No public contract names this.
use Rattle.std.specs.Prelude.{ℕ, zero, suc, if◌then◌else◌, List, [], ◌∷◌, Option, Some, None, option_map}
use Rattle.c_tokens.specs.declared.Token.{Token}
use Rattle.macro_meaning.specs.Macros.{Name, Macros, opens, closes}
use Rattle.macro_meaning.specs.Definitions.{name_of}
use Rattle.macro_meaning.specs.Conditions.{asks_defined, answer}

abbrev pub asked_in_brackets : List Token → Option (Name × ℕ)
asked_in_brackets (t ∷ u ∷ us) = if closes u.kind then option_map (λ name. (name, 3)) (name_of t.kind) else None
asked_in_brackets _ = None

-- the name that `defined` asks for, by the tokens after it, and how many of these belong to it
abbrev pub asked : List Token → Option (Name × ℕ)
asked [] = None
asked (t ∷ ts) = if opens t.kind then asked_in_brackets ts else option_map (λ name. (name, 1)) (name_of t.kind)

abbrev pub before : Token → Option (List Token) → Option (List Token)
before t = option_map (λ ts. t ∷ ts)

abbrev pub answered : Macros → Token → Option (Name × ℕ) → (ℕ → Option (List Token)) → Option (List Token)
answered ms t None more = None
answered ms t (Some (name, used)) more = before (answer ms t name) (more used)

-- the line behind so many tokens that are passed over, none where a `defined` has no name
unfoldable pub with_answers : Macros → ℕ → List Token → Option (List Token)
with_answers ms n [] = Some []
with_answers ms (suc n) (t ∷ ts) = with_answers ms n ts
with_answers ms zero (t ∷ ts) = if asks_defined t.kind then answered ms t (asked ts) (λ n. with_answers ms n ts) else before t
    (with_answers ms 0 ts)
