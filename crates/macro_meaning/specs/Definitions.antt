-- What a `define` line defines (C11 6.10.3), and the macros that are there from the start or come with a header.
use Rattle.std.specs.Prelude.{◌≡◌, ℕ, ◌==◌, Bool, true, false, not, ◌&&◌, if◌then◌else◌, List, [], ◌∷◌, map, Option, Some, None, option_map, option_and_then, codes}
use Rattle.std.specs.List.{position}
use Rattle.fc_base.specs.declared.Level.{Level}
use Rattle.fc_base.specs.declared.Level.TheVariants.{Zero, Three}
use Rattle.c_headers.specs.declared.headers.HeaderId.{HeaderId}
use Rattle.c_headers.specs.declared.headers.MacroValue.{MacroValue}
use Rattle.c_headers.specs.declared.headers.MacroValue.TheVariants as value
use Rattle.c_headers.specs.Headers.{MacroName, header_row}
use Rattle.c_tokens.specs.declared.Punct.{Punct}
use Rattle.c_tokens.specs.declared.Punct.TheVariants as punct
use Rattle.c_tokens.specs.declared.TokenKind.{TokenKind}
use Rattle.c_tokens.specs.declared.TokenKind.TheVariants as kind
use Rattle.c_tokens.specs.declared.Token.{Token}
use Rattle.macro_meaning.specs.Macros.{Name, same_name, has, BodyPart, plain, parameter, Meaning, opens, closes, is_comma}

-- ---- a `define` line

abbrev pub name_of : TokenKind → Option Name
name_of (kind.Name name) = Some name
name_of _ = None

abbrev pub is_defined_word : Name → Bool
is_defined_word name = same_name name (codes "defined")

-- A name that a `define` line may define: any but `defined`. C11 6.10.8p2 forbids `#undef defined` too, which breaks no rule here.
abbrev pub macro_name : TokenKind → Option Name
macro_name (kind.Name name) = if is_defined_word name then None else Some name
macro_name _ = None

-- HasNames tokens names rest: names with commas between them and a closing bracket behind the last, and the tokens after it
pub data HasNames : List Token → List Name → List Token → Type 0 where
  last : {t u : Token} {name : Name} {rest : List Token} → name_of t.kind ≡ Some name → closes u.kind ≡ true
      → HasNames (t ∷ u ∷ rest) (name ∷ []) rest
  another : {t u : Token} {name : Name} {ts rest : List Token} {names : List Name} → name_of t.kind ≡ Some name → is_comma u.kind ≡ true
      → HasNames ts names rest → HasNames (t ∷ u ∷ ts) (name ∷ names) rest

-- AreParameters tokens names rest: the parameters behind an opening bracket, with their closing bracket, and the tokens after it
pub data AreParameters : List Token → List Name → List Token → Type 0 where
  none : {t : Token} {rest : List Token} → closes t.kind ≡ true → AreParameters (t ∷ rest) [] rest
  some : {ts rest : List Token} {names : List Name} → HasNames ts names rest → AreParameters ts names rest

-- The relation as functions: `parameters` of src/laws.rt says that they are one.
pub record Parameters : Type 0 where
  pub names : List Name
  pub rest : List Token

abbrev pub with_parameter : Name → Option Parameters → Option Parameters
with_parameter name = option_map (λ p. record { names = name ∷ p.names; rest = p.rest })

-- behind a name: a closing bracket, or a comma and more names
abbrev pub behind_name : Name → TokenKind → List Token → Option Parameters → Option Parameters
behind_name name k ts more =
    if closes k then Some (record { names = name ∷ []; rest = ts }) else (
    if is_comma k then with_parameter name more else None)

unfoldable pub some_parameters : List Token → Option Parameters
some_parameters [] = None
some_parameters (t ∷ []) = None
some_parameters (t ∷ u ∷ us) = option_and_then (λ name. behind_name name u.kind us (some_parameters us)) (name_of t.kind)

abbrev pub parameters_of : List Token → Option Parameters
parameters_of [] = None
parameters_of (t ∷ ts) = if closes t.kind then Some (record { names = []; rest = ts }) else some_parameters (t ∷ ts)

-- no name stands twice (C11 6.10.3p6)
abbrev pub are_distinct : List Name → Bool
are_distinct [] = true
are_distinct (name ∷ names) = not (has names name) && are_distinct names

-- the parameters, none where a name stands twice
abbrev pub distinct : Option Parameters → Option Parameters
distinct None = None
distinct (Some p) = if are_distinct p.names then Some p else None

pub record Definition : Type 0 where
  pub name : Name
  pub parameters : Option (List Name)
  pub body : List Token

abbrev pub with_parameters : Name → Parameters → Definition
with_parameters name p = record { name = name; parameters = Some p.names; body = p.rest }

abbrev pub opens_at_once : Token → Bool
opens_at_once t = opens t.kind && not t.spaced

-- the macro has parameters where an opening bracket follows its name at once
abbrev pub defined_as : Name → List Token → Option Definition
defined_as name [] = Some (record { name = name; parameters = None; body = [] })
defined_as name (t ∷ ts) =
    if opens_at_once t then option_map (with_parameters name) (distinct (parameters_of ts))
    else Some (record { name = name; parameters = None; body = t ∷ ts })

-- The definition of the tokens after `define`: none where they begin with no name, or with `defined`, or have a bad or repeated parameter.
abbrev pub definition : List Token → Option Definition
definition [] = None
definition (t ∷ ts) = option_and_then (λ name. defined_as name ts) (macro_name t.kind)

abbrev pub numbered : TokenKind → Bool → Option ℕ → BodyPart
numbered k spaced None = plain k spaced
numbered k spaced (Some n) = parameter n

abbrev pub named_part : List Name → TokenKind → Bool → BodyPart
named_part names (kind.Name name) spaced = numbered (kind.Name name) spaced (position (same_name name) names)
named_part names k spaced = plain k spaced

-- a token of a replacement list, or a parameter by its number
abbrev pub body_part : Option (List Name) → Token → BodyPart
body_part None t = plain t.kind t.spaced
body_part (Some names) t = named_part names t.kind t.spaced

-- what a macro of these parameters and these tokens stands for
abbrev pub meaning : Option (List Name) → List Token → Meaning
meaning parameters body = record { parameters = parameters; body = map (body_part parameters) body }

-- `#` and `##` are operators in a replacement list (C11 6.10.3.2 and 6.10.3.3)
abbrev pub is_operator : TokenKind → Bool
is_operator (kind.Punct punct.Hash) = true
is_operator (kind.Punct punct.HashHash) = true
is_operator _ = false

-- ---- the macros that no line defines. Their tokens are not spaced.

-- The token that the spelling of a number without a suffix is lexed to: `0` is an octal literal, each other number a
-- decimal one (C11 6.4.4.1p1). So a line `#define EXIT_SUCCESS 0` defines what the header defines.
abbrev pub number_token : ℕ → TokenKind
number_token n = kind.Number n (record { decimal = not (n == 0); unsigned = false; longs = 0 })

abbrev pub digit : ℕ → BodyPart
digit n = plain (number_token n) false

abbrev pub mark : Punct → BodyPart
mark p = plain (kind.Punct p) false

abbrev pub plain_macro : List BodyPart → Meaning
plain_macro body = record { parameters = None; body = body }

-- the tokens of a value that a macro of a header stands for
abbrev pub value_tokens : MacroValue → List BodyPart
value_tokens value.NullPointer =
    mark punct.LeftParen ∷ mark punct.LeftParen ∷ plain (kind.Name (codes "void")) false ∷ mark punct.Star ∷ mark punct.RightParen ∷ digit 0
    ∷ mark punct.RightParen ∷ []
value_tokens value.MinusOne = mark punct.LeftParen ∷ mark punct.Minus ∷ digit 1 ∷ mark punct.RightParen ∷ []
value_tokens value.Zero = digit 0 ∷ []
value_tokens value.One = digit 1 ∷ []
value_tokens value.Two = digit 2 ∷ []

abbrev pub header_macro : MacroName → Name × Meaning
header_macro m = (m.name, plain_macro (value_tokens m.value))

-- the macros of a header
abbrev pub header_macros : HeaderId → List (Name × Meaning)
header_macros h = map header_macro (header_row h).macros

abbrev pub level_digit : Level → ℕ
level_digit Zero = 0
level_digit Three = 3

-- the feature test macro, which is defined before the first line
abbrev pub fortify_source : Level → Name × Meaning
fortify_source level = (codes "_FORTIFY_SOURCE", plain_macro (digit (level_digit level) ∷ []))
