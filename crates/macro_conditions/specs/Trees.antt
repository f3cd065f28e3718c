-- The constant expressions of conditions (C11 6.6 and 6.10.1), cut down to integers, and their values.
use Rattle.std.specs.Prelude.{◌≡◌, ℕ, suc, Bool, true, false, not, ◌&&◌, if◌then◌else◌, List, ◌∷◌, Option, Some, None, option_and_then}
use Rattle.c_tokens.specs.declared.Punct.{Punct}
use Rattle.c_tokens.specs.declared.Punct.TheVariants.{LeftParen, RightParen, Star, Slash, Percent, Plus, Minus, ShiftLeft, ShiftRight, Less, Greater, LessEqual, GreaterEqual, EqualEqual, NotEqual, Ampersand, Caret, Bar, AndAnd, OrOr, Tilde, Exclamation, Question, Colon, Comma}
use Rattle.c_tokens.specs.declared.NumberKind.{NumberKind}
use Rattle.c_tokens.specs.declared.TokenKind.{TokenKind}
use Rattle.c_tokens.specs.declared.TokenKind.TheVariants as token
use Rattle.macro_conditions.specs.declared.values.Value.{Value}
use Rattle.macro_conditions.specs.Values.{is_true, truth, literal_value, character_value, combined, evaluates_right, prefixed, chosen}

pub data Tree : Type 0 where
  leaf : Value → Tree
  unary : Punct → Tree → Tree
  binary : Punct → Tree → Tree → Tree
  choice : Tree → Tree → Tree → Tree
  sequence : Tree → Tree → Tree

-- ---- grammar

-- the levels by the names of their productions, from the loosest on (C11 6.5 and 6.6)
abbrev pub expression : ℕ
expression = 0

abbrev pub conditional : ℕ
conditional = 1

abbrev pub logical_or : ℕ
logical_or = 2

abbrev pub logical_and : ℕ
logical_and = 3

abbrev pub bit_or : ℕ
bit_or = 4

abbrev pub bit_xor : ℕ
bit_xor = 5

abbrev pub bit_and : ℕ
bit_and = 6

abbrev pub equality : ℕ
equality = 7

abbrev pub relational : ℕ
relational = 8

abbrev pub shift : ℕ
shift = 9

abbrev pub additive : ℕ
additive = 10

abbrev pub multiplicative : ℕ
multiplicative = 11

abbrev pub prefix : ℕ
prefix = 12

abbrev pub primary : ℕ
primary = 13

-- the level of a binary operator (C11 6.5.5 to 6.5.14)
abbrev pub level_of : Punct → Option ℕ
level_of Star = Some multiplicative
level_of Slash = Some multiplicative
level_of Percent = Some multiplicative
level_of Plus = Some additive
level_of Minus = Some additive
level_of ShiftLeft = Some shift
level_of ShiftRight = Some shift
level_of Less = Some relational
level_of Greater = Some relational
level_of LessEqual = Some relational
level_of GreaterEqual = Some relational
level_of EqualEqual = Some equality
level_of NotEqual = Some equality
level_of Ampersand = Some bit_and
level_of Caret = Some bit_xor
level_of Bar = Some bit_or
level_of AndAnd = Some logical_and
level_of OrOr = Some logical_or
level_of _ = None

abbrev pub is_prefix : Punct → Bool
is_prefix Plus = true
is_prefix Minus = true
is_prefix Tilde = true
is_prefix Exclamation = true
is_prefix _ = false

-- Reads level s x t: the tokens of s before t are the expression x of this level (C11 6.5). A name counts as 0, and
-- brackets make no node.
pub data Reads : ℕ → List TokenKind → Tree → List TokenKind → Type 0 where
  tighter : {l : ℕ} {s t : List TokenKind} {x : Tree} → Reads (suc l) s x t → Reads l s x t
  number : {n : ℕ} {k : NumberKind} {t : List TokenKind} → Reads primary (token.Number n k ∷ t) (leaf (literal_value n k.unsigned)) t
  constant : {byte : ℕ} {t : List TokenKind} → Reads primary (token.CharConst byte ∷ t) (leaf (character_value byte)) t
  name : {n : List ℕ} {t : List TokenKind} → Reads primary (token.Name n ∷ t) (leaf (truth false)) t
  brackets : {s t : List TokenKind} {x : Tree} → Reads expression s x (token.Punct RightParen ∷ t)
      → Reads primary (token.Punct LeftParen ∷ s) x t
  operand : {p : Punct} {s t : List TokenKind} {x : Tree} → is_prefix p ≡ true → Reads prefix s x t → Reads prefix (token.Punct p ∷ s) (unary p x) t
  operation : {l : ℕ} {p : Punct} {s t u : List TokenKind} {x y : Tree} → level_of p ≡ Some l
      → Reads l s x (token.Punct p ∷ t) → Reads (suc l) t y u → Reads l s (binary p x y) u
  conditional_of : {s t u v : List TokenKind} {c x y : Tree}
      → Reads logical_or s c (token.Punct Question ∷ t) → Reads expression t x (token.Punct Colon ∷ u) → Reads conditional u y v
      → Reads conditional s (choice c x y) v
  comma : {s t u : List TokenKind} {x y : Tree} → Reads expression s x (token.Punct Comma ∷ t) → Reads conditional t y u
      → Reads expression s (sequence x y) u

-- ---- values

-- The value of an expression. What is evaluated has none where it has a comma (C11 6.6p3), or where an operation has no
-- value (6.6p4): a bad division (6.5.5p5 and p6), or a shift by no 0 to 63 places.
abbrev pub value : Bool → Tree → Option Value
value evaluated (leaf v) = Some v
value evaluated (unary p x) = option_and_then (λ a. Some (prefixed p a)) (value evaluated x)
value evaluated (binary p x y) =
    option_and_then (λ a. option_and_then (λ b. combined evaluated p a b) (value (evaluates_right evaluated p a) y)) (value evaluated x)
value evaluated (choice c x y) =
    option_and_then
    (λ v. option_and_then (λ a. option_and_then (λ b. Some (chosen v a b)) (value (evaluated && not (is_true v)) y))
    (value (evaluated && is_true v) x))
    (value evaluated c)
value evaluated (sequence x y) = if evaluated then None else option_and_then (λ a. value false y) (value false x)
