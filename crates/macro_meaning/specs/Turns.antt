-- What the first token of a list does (C11 6.10.3): it stays, or it and the arguments after it are replaced.
use Rattle.std.specs.Prelude.{ℕ, ◌+◌, ◌-◌, ◌==◌, nat_lt, Bool, true, false, ◌&&◌, ◌||◌, if◌then◌else◌, List, [], ◌∷◌, length, drop, Option, Some, None, option_map}
use Rattle.c_tokens.specs.declared.TokenKind.{TokenKind}
use Rattle.c_tokens.specs.declared.TokenKind.TheVariants as kind
use Rattle.macro_meaning.specs.Macros.{Name, same_name, HideSet, Item, BodyPart, Meaning, Macros, Argument, written, nesting_limit, opens, closes, is_comma}

-- ---- hide sets

-- What replaces a plain name has the name's own hide set and the name. What replaces a call has the names that are in the hide sets of both
-- the macro's name and the closing bracket, and the macro's name: a call that begins in one replacement list and ends behind it is in
-- neither alone (Prosser's algorithm; C11 6.10.3.4p4 leaves open whether such a call is nested).

abbrev pub intersection : HideSet → HideSet → HideSet
intersection a b = λ name. a name && b name

abbrev pub union : HideSet → HideSet → HideSet
union a b = λ name. a name || b name

-- the set and the name of a token
abbrev pub with_name : TokenKind → HideSet → HideSet
with_name (kind.Name name) hide = λ other. same_name name other || hide other
with_name _ hide = hide

-- ---- the macro that a token names

abbrev pub unhidden : Macros → HideSet → TokenKind → Option Meaning
unhidden ms hide (kind.Name name) = if hide name then None else ms name
unhidden ms hide _ = None

-- none where the name is in the token's own hide set
abbrev pub meaning_of : Macros → Item → Option Meaning
meaning_of ms t = unhidden ms t.hide t.kind

-- ---- the arguments of a call

-- The tokens up to the closing bracket, parted at the commas outside of inner brackets; the hide set of that bracket; the tokens after it.
pub record Call : Type 0 where
  pub first : List Item
  pub others : List Argument
  pub close : HideSet
  pub rest : List Item

abbrev pub longer : Item → Option Call → Option Call
longer t = option_map (λ c. record { first = t ∷ c.first; others = c.others; close = c.close; rest = c.rest })

abbrev pub another : Option Call → Option Call
another = option_map (λ c. record { first = []; others = written c.first ∷ c.others; close = c.close; rest = c.rest })

abbrev pub ends_call : Item → List Item → Option Call
ends_call t ts = Some (record { first = []; others = []; close = t.hide; rest = ts })

-- how many inner brackets are open behind a token
abbrev pub nest_after : ℕ → TokenKind → ℕ
nest_after nest kind = if opens kind then nest + 1 else (if closes kind then nest - 1 else nest)

-- The call whose opening bracket stands before the list, where so many inner brackets are open. Outside of these a closing bracket ends
-- it and a comma parts two arguments; each other token is taken. None where the closing bracket is missing.
unfoldable pub call : ℕ → List Item → Option Call
call nest [] = None
call nest (t ∷ ts) =
    if nest == 0 && closes t.kind then ends_call t ts else (
    if nest == 0 && is_comma t.kind then another (call 0 ts)
    else longer t (call (nest_after nest t.kind) ts))

abbrev pub arguments : Call → List Argument
arguments c = written c.first ∷ c.others

abbrev pub is_empty : List Argument → Bool
is_empty (written [] ∷ []) = true
is_empty _ = false

-- empty brackets hold one empty argument, or none
abbrev pub right_number : ℕ → List Argument → Bool
right_number n args = if n == 0 then is_empty args else n == length args

-- ---- the turn of a token

-- what replaces a name or a call: the replacement list, the hide set of its tokens, and the arguments; and the tokens after it
pub record Change : Type 0 where
  pub body : List BodyPart
  pub hide : HideSet
  pub arguments : List Argument
  pub rest : List Item

pub data Turn : Type 0 where
  stays : Turn
  -- a call without its closing bracket, with another number of arguments, or too deep
  bad_call : Turn
  becomes : Change → Turn

abbrev pub called_with : Item → ℕ → List BodyPart → Option Call → Turn
called_with t n body None = bad_call
called_with t n body (Some c) =
    if right_number n (arguments c)
    then becomes (record { body = body; hide = with_name t.kind (intersection t.hide c.close); arguments = arguments c; rest = c.rest })
    else bad_call

abbrev pub called : ℕ → Item → ℕ → List BodyPart → List Item → Turn
called depth t n body ts = if nat_lt depth nesting_limit then called_with t n body (call 0 ts) else bad_call

abbrev pub opens_next : List Item → Bool
opens_next [] = false
opens_next (u ∷ us) = opens u.kind

-- a macro with parameters is replaced only where an opening bracket is the next token of the list
abbrev pub by_parameters : ℕ → Item → List Item → List BodyPart → Option (List Name) → Turn
by_parameters depth t ts body None = becomes (record { body = body; hide = with_name t.kind t.hide; arguments = []; rest = ts })
by_parameters depth t ts body (Some names) = if opens_next ts then called depth t (length names) body (drop 1 ts) else stays

abbrev pub by_meaning : ℕ → Item → List Item → Option Meaning → Turn
by_meaning depth t ts None = stays
by_meaning depth t ts (Some m) = by_parameters depth t ts m.body m.parameters

-- the first token t and the tokens after it, while `depth` arguments are being expanded
abbrev pub turn : Macros → ℕ → Item → List Item → Turn
turn ms depth t ts = by_meaning depth t ts (meaning_of ms t)
