-- When two definitions of a macro are the same (C11 6.10.3p2). White space is not compared.
use Rattle.std.specs.Prelude.{◌==◌, Bool, true, false, not, ◌&&◌, if◌then◌else◌, List, Option, Some, None}
use Rattle.std.specs.Cmp.Lexicographic.{pointwise}
use Rattle.c_headers.specs.declared.headers.HeaderId.{HeaderId}
use Rattle.c_headers.specs.Headers.{header_number}
use Rattle.c_tokens.specs.declared.NumberKind.{NumberKind}
use Rattle.c_tokens.specs.declared.TokenKind.{TokenKind}
use Rattle.c_tokens.specs.declared.TokenKind.TheVariants as kind
use Rattle.c_tokens.specs.Puncts.{same_punct}
use Rattle.macro_meaning.specs.Macros.{Name, same_name, BodyPart, plain, parameter, Meaning}

abbrev pub same_header : HeaderId → HeaderId → Bool
same_header a b = header_number a == header_number b

abbrev pub same_bool : Bool → Bool → Bool
same_bool a b = if a then b else not b

-- integer literals are the same where their values and kinds are: 0xA is 012, and not 10
abbrev pub same_number : NumberKind → NumberKind → Bool
same_number a b = same_bool a.decimal b.decimal && (same_bool a.unsigned b.unsigned && a.longs == b.longs)

abbrev pub same_kind : TokenKind → TokenKind → Bool
same_kind (kind.Name a) (kind.Name b) = same_name a b
same_kind (kind.Number v a) (kind.Number w b) = v == w && same_number a b
same_kind (kind.CharConst a) (kind.CharConst b) = a == b
same_kind (kind.Str a) (kind.Str b) = same_name a b
same_kind (kind.Punct p) (kind.Punct q) = same_punct p q
same_kind (kind.HeaderName a) (kind.HeaderName b) = same_name a b
same_kind (kind.Header a) (kind.Header b) = same_header a b
same_kind _ _ = false

abbrev pub same_part : BodyPart → BodyPart → Bool
same_part (plain a _) (plain b _) = same_kind a b
same_part (parameter k) (parameter l) = k == l
same_part _ _ = false

abbrev pub same_parameters : Option (List Name) → Option (List Name) → Bool
same_parameters None None = true
same_parameters (Some a) (Some b) = pointwise same_name a b
same_parameters _ _ = false

-- a plain macro and one with an empty list of parameters differ
abbrev pub same_meaning : Meaning → Meaning → Bool
same_meaning a b = same_parameters a.parameters b.parameters && pointwise same_part a.body b.body
