-- Where the tokens of an expanded list come from. Nothing spells a token anew: each is of a kind that was lexed, or that a
-- header brings.
use Rattle.std.specs.Prelude.{◌≡◌, Bool, List, map, Some}
use Rattle.std.specs.List.{Contains}
use Rattle.fc_base.specs.declared.Level.{Level}
use Rattle.c_headers.specs.declared.headers.HeaderId.{HeaderId}
use Rattle.c_tokens.specs.declared.TokenKind.{TokenKind}
use Rattle.c_tokens.specs.declared.TokenKind.TheVariants.{Header}
use Rattle.c_tokens.specs.declared.Token.{Token}
use Rattle.macro_meaning.specs.Macros.{Name, Item, plain, Meaning, Macros}
use Rattle.macro_meaning.specs.Definitions.{header_macros, fortify_source}

abbrev pub kinds : List Token → List TokenKind
kinds = map (λ t. t.kind)

abbrev pub item_kinds : List Item → List TokenKind
item_kinds = map (λ t. t.kind)

-- a token of this kind, and no parameter, stands in the replacement list
abbrev pub IsReplacedBy : Meaning → TokenKind → Type 0
IsReplacedBy m kind = (spaced : Bool) × Contains m.body (plain kind spaced)

-- a token of the list is of this kind, or one in a replacement list of the macros
pub data ReplacedFrom (ms : Macros) (ts : List Item) : TokenKind → Type 0 where
  of_list : {kind : TokenKind} → Contains (item_kinds ts) kind → ReplacedFrom ms ts kind
  of_macro : {kind : TokenKind} (name : Name) (m : Meaning) → ms name ≡ Some m → IsReplacedBy m kind → ReplacedFrom ms ts kind

-- a token of the source is of this kind, or one in a replacement list that no line defines; or it is an inclusion
pub data ExpandedFrom (level : Level) (ts : List Token) : TokenKind → Type 0 where
  of_source : {kind : TokenKind} → Contains (kinds ts) kind → ExpandedFrom level ts kind
  of_header : {kind : TokenKind} (h : HeaderId) (d : Name × Meaning) → Contains (header_macros h) d → IsReplacedBy d.1 kind
      → ExpandedFrom level ts kind
  of_level : {kind : TokenKind} → IsReplacedBy (fortify_source level).1 kind → ExpandedFrom level ts kind
  inclusion : (h : HeaderId) → ExpandedFrom level ts (Header h)
