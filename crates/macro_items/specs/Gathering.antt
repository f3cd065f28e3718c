-- What the functions that gather a call give, as plain data.
use Rattle.std.specs.Prelude.{◌≡◌, ℕ, ◌+◌, ◌≤◌, ◌==◌, ◌&&◌, if◌then◌else◌, List, [], ◌∷◌, ◌++◌, Option, Some, None}
use Rattle.c_tokens.specs.declared.TokenKind.{TokenKind}
use Rattle.macro_meaning.specs.Macros.{Name, HideSet, has, Item, Argument, written, closes, is_comma}
use Rattle.macro_meaning.specs.Turns.{Call, arguments, nest_after}
use Rattle.macro_items.specs.declared.calls.Step.{Step}
use Rattle.macro_items.specs.declared.calls.Step.TheVariants.{Ends, Parts, Goes}
use Rattle.macro_items.specs.declared.calls.Call.{Call as Gathered}
use Rattle.macro_items.specs.Views.{argument_views}

-- What a token does within a call where so many inner brackets are open. No public contract names this.
abbrev pub step : ℕ → TokenKind → Step
step nest kind =
    if nest == 0 && closes kind then Ends else (
    if nest == 0 && is_comma kind then Parts else Goes (nest_after nest kind))

-- a call of these arguments up to its closing bracket, where these tokens are left
abbrev pub IsCall : List Argument → HideSet → List Item → Option Call → Type 0
IsCall args close rest None = ⊥
IsCall args close rest (Some c) = (arguments c ≡ args) × (c.close ≡ close) × (c.rest ≡ rest)

-- a call whose last argument has these tokens, by the hide set of its closing bracket
abbrev pub ClosesAs : Option (List Name) → List Argument → List Item → List Item → Option Call → Type 0
ClosesAs None args last rest c = c ≡ None
ClosesAs (Some close) args last rest c = IsCall (args ++ written last ∷ []) (has close) rest c

abbrev pub GathersAs : Option Gathered → List Item → Option Call → Type 0
GathersAs None rest c = c ≡ None
GathersAs (Some g) rest c = IsCall (argument_views g.args.items) (has g.close) rest c

-- at most one more bracket is open
abbrev pub IsNear : ℕ → Step → Type 0
IsNear nest (Goes now) = now ≤ nest + 1
IsNear nest _ = Unit {0}
