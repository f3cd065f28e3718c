-- Tokens under expansion, and macros (C11 6.10.3), as plain data.
use Rattle.std.specs.Prelude.{ℕ, nat_eq, Bool, true, false, if◌then◌else◌, List, Option, None, map}
use Rattle.std.specs.Cmp.Lexicographic.{pointwise}
use Rattle.std.specs.List.{list_any}
use Rattle.fc_base.specs.declared.Place.{Place}
use Rattle.c_tokens.specs.declared.Punct.TheVariants.{LeftParen, RightParen, Comma}
use Rattle.c_tokens.specs.declared.Token.{Token}
use Rattle.c_tokens.specs.declared.TokenKind.{TokenKind}
use Rattle.c_tokens.specs.declared.TokenKind.TheVariants as kind

-- the bytes of a name
abbrev pub Name : Type 0
Name = List ℕ

abbrev pub same_name : Name → Name → Bool
same_name = pointwise nat_eq

-- the name is one of these
abbrev pub has : List Name → Name → Bool
has names = λ name. list_any (same_name name) names

abbrev pub opens : TokenKind → Bool
opens (kind.Punct LeftParen) = true
opens _ = false

abbrev pub closes : TokenKind → Bool
closes (kind.Punct RightParen) = true
closes _ = false

abbrev pub is_comma : TokenKind → Bool
is_comma (kind.Punct Comma) = true
is_comma _ = false

-- a hide set: the names that are not replaced in a token (Prosser's algorithm for C11 6.10.3.4)
abbrev pub HideSet : Type 0
HideSet = Name → Bool

abbrev pub no_names : HideSet
no_names name = false

-- a token with its hide set
pub record Item : Type 0 where
  pub kind : TokenKind
  pub place : Place
  pub starts_line : Bool
  pub spaced : Bool
  pub hide : HideSet

-- a token of the source, in which no name is hidden
abbrev pub item : Token → Item
item t = record { kind = t.kind; place = t.place; starts_line = t.starts_line; spaced = t.spaced; hide = no_names }

abbrev pub items : List Token → List Item
items = map item

-- the token alone
abbrev pub token : Item → Token
token t = record { kind = t.kind; place = t.place; starts_line = t.starts_line; spaced = t.spaced }

-- a part of a replacement list: a token, with whether it is spaced, or a parameter by its number from 0
pub data BodyPart : Type 0 where
  plain : TokenKind → Bool → BodyPart
  parameter : ℕ → BodyPart

-- what a macro stands for: its parameters, where it has a list of them, and its replacement list
pub record Meaning : Type 0 where
  pub parameters : Option (List Name)
  pub body : List BodyPart

-- what each name stands for, none where it is no macro
abbrev pub Macros : Type 0
Macros = Name → Option Meaning

abbrev pub no_macros : Macros
no_macros name = None

abbrev pub with_macro : Name → Option Meaning → Macros → Macros
with_macro name meaning ms = λ other. if same_name name other then meaning else ms other

-- an argument of a call as it was written, or expanded
pub data Argument : Type 0 where
  written : List Item → Argument
  expanded : List Item → Argument

-- so many arguments are expanded one inside another at most
abbrev pub nesting_limit : ℕ
nesting_limit = 200
