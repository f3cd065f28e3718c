-- The operator `defined` in the line of a condition (C11 6.10.1p1).
use Rattle.std.specs.Prelude.{◌≡◌, Bool, true, false, if◌then◌else◌, List, [], ◌∷◌, Some, is_some}
use Rattle.c_tokens.specs.declared.TokenKind.{TokenKind}
use Rattle.c_tokens.specs.declared.TokenKind.TheVariants as kind
use Rattle.c_tokens.specs.declared.Token.{Token}
use Rattle.macro_meaning.specs.Macros.{Name, Macros, opens, closes}
use Rattle.macro_meaning.specs.Definitions.{name_of, is_defined_word, number_token}

abbrev pub asks_defined : TokenKind → Bool
asks_defined (kind.Name name) = is_defined_word name
asks_defined _ = false

-- 1 or 0, where `defined` stood
abbrev pub answer : Macros → Token → Name → Token
answer ms t name = record t { kind = number_token (if is_some (ms name) then 1 else 0) }

-- IsAnswered ms line new: each `defined NAME` and each `defined ( NAME )` of the line is 1 or 0 in the new one. Where a `defined` has no
-- name, no new line is.
pub data IsAnswered (ms : Macros) : List Token → List Token → Type 0 where
  end : IsAnswered ms [] []
  another : {t : Token} {ts new : List Token} → asks_defined t.kind ≡ false → IsAnswered ms ts new → IsAnswered ms (t ∷ ts) (t ∷ new)
  named : {t n : Token} {ts new : List Token} {name : Name} → asks_defined t.kind ≡ true → name_of n.kind ≡ Some name
      → IsAnswered ms ts new → IsAnswered ms (t ∷ n ∷ ts) (answer ms t name ∷ new)
  bracketed : {t lp n rp : Token} {ts new : List Token} {name : Name} → asks_defined t.kind ≡ true → opens lp.kind ≡ true
      → name_of n.kind ≡ Some name → closes rp.kind ≡ true
      → IsAnswered ms ts new → IsAnswered ms (t ∷ lp ∷ n ∷ rp ∷ ts) (answer ms t name ∷ new)
