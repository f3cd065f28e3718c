-- Whether a condition holds (C11 6.10.1).
use Rattle.std.specs.Prelude.{◌≡◌, true, List, [], map, Option, Some, None, option_map, Bool}
use Rattle.std.specs.Borrow.{Bor}
use Rattle.c_tokens.specs.declared.TokenKind.{TokenKind}
use Rattle.macro_conditions.specs.Values.{is_true}
use Rattle.macro_conditions.specs.Trees.{Tree, Reads, conditional, value}

-- the tokens behind these references
abbrev pub now : List (Bor TokenKind) → List TokenKind
now = map (λ k. k.now)

-- The tokens behind `if` or `elif`, expanded, against a constant expression (C11 6.6). Decides line (Some true): they are
-- one whose value is not 0. Decides line (Some false): they are one whose value is 0. Decides line None: they are none, or
-- one that has no value.
pub data Decides : List TokenKind → Option Bool → Type 0 where
  decided : {line : List TokenKind} {x : Tree} {holds : Bool} → Reads conditional line x []
      → option_map is_true (value true x) ≡ Some holds → Decides line (Some holds)
  bad : {line : List TokenKind} → ((x : Tree) → Reads conditional line x [] → value true x ≡ None) → Decides line None
