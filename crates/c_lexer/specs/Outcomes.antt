-- Where a header name may stand, and what tokens and a refusal come to.
use Rattle.std.specs.Prelude.{◌&&◌, Bool, true, false, List, [], ◌∷◌, codes, slice_get, Option, Some, None, Result, Ok, Err}
use Rattle.std.specs.Str.{bytes_eq}
use Rattle.fc_base.specs.declared.refusals.Place.{Place}
use Rattle.fc_base.specs.declared.refusals.Refusal.{Refusal}
use Rattle.fc_base.specs.declared.rules.Rule.TheVariants.{LimitTokens}
use Rattle.c_tokens.specs.declared.tokens.Token.{Token}
use Rattle.c_tokens.specs.declared.tokens.TokenKind.{TokenKind}
use Rattle.c_tokens.specs.declared.tokens.TokenKind.TheVariants as k
use Rattle.c_tokens.specs.Tokens.{token_limit, is_hash}

-- ---- header names

abbrev pub is_include : TokenKind → Bool
is_include (k.Name name) = bytes_eq name (codes "include")
is_include other = false

-- The tokens on the line before, the last one first, are `#` and `include`: here a `<` opens a header name (C11 6.4p4).
abbrev pub opens_header : List TokenKind → Bool
opens_header [] = false
opens_header (a ∷ []) = false
opens_header (a ∷ b ∷ []) = is_include a && is_hash b
opens_header (a ∷ b ∷ c ∷ cs) = false

abbrev pub is_first : List TokenKind → Bool
is_first [] = true
is_first (a ∷ rest) = false

-- ---- tokens

abbrev pub token_at : Place → Bool → Bool → TokenKind → Token
token_at place starts_line spaced kind = record { kind = kind; place = place; starts_line = starts_line; spaced = spaced }

-- the tokens up to the end or the first refusal
pub record Scanned : Type 0 where
  pub tokens : List Token
  pub refusal : Option Refusal

-- ---- the outcome

abbrev pub unless_refused : List Token → Option Refusal → Result (List Token) Refusal
unless_refused tokens None = Ok tokens
unless_refused tokens (Some refusal) = Err refusal

abbrev pub unless_over : Option Token → Result (List Token) Refusal → Result (List Token) Refusal
unless_over None outcome = outcome
unless_over (Some t) outcome = Err (record { rule = LimitTokens; place = t.place })

-- the first refusal, one token over the limit among them, or else the tokens
abbrev pub outcome_of : Scanned → Result (List Token) Refusal
outcome_of c = unless_over (slice_get c.tokens token_limit) (unless_refused c.tokens c.refusal)
