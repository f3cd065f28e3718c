-- Macro replacement on whole lists (C11 6.10.3.1 and 6.10.3.4), by hide sets (Prosser's algorithm).
use Rattle.std.specs.Prelude.{◌≡◌, ℕ, ◌+◌, ◌≤◌, ◌<◌, Bool, false, List, [], ◌∷◌, ◌++◌, length, map, Option, Some, None, Result, Ok, Err, slice_set}
use Rattle.std.specs.List.{slice_get}
use Rattle.fc_base.specs.declared.Place.{Place}
use Rattle.fc_base.specs.declared.Refusal.{Refusal}
use Rattle.fc_base.specs.declared.Rule.TheVariants.{LimitTokens, MacroArguments}
use Rattle.c_tokens.specs.declared.TokenKind.{TokenKind}
use Rattle.c_tokens.specs.Tokens.{token_limit}
use Rattle.macro_meaning.specs.Macros.{HideSet, Item, BodyPart, plain, parameter, Macros, Argument, written, expanded}
use Rattle.macro_meaning.specs.Turns.{union, Change, turn, stays, bad_call, becomes}

-- a list with its macros replaced and the count of tokens after it, or the first refusal
abbrev pub ReplacedList : Type 0
ReplacedList = Result (List Item × ℕ) Refusal

abbrev pub behind : List Item → ReplacedList → ReplacedList
behind front (Ok r) = Ok (front ++ r.0, r.1)
behind front (Err e) = Err e

-- a token of a replacement list stands at the place of the name that was replaced, and starts no line
abbrev pub replacing : Place → HideSet → TokenKind → Bool → Item
replacing place hide kind spaced = record { kind = kind; place = place; starts_line = false; spaced = spaced; hide = hide }

-- an argument's token keeps its place and flags, and its own hide set beside the new one
abbrev pub hidden : HideSet → Item → Item
hidden hide t = record t { hide = union t.hide hide }

abbrev pub argument_text : Option Argument → List Item
argument_text (Some (expanded ts)) = ts
argument_text _ = []

abbrev pub too_many_at : Place → Refusal
too_many_at place = record { rule = LimitTokens; place = place }

abbrev pub bad_call_at : Place → Refusal
bad_call_at place = record { rule = MacroArguments; place = place }

mutual
  -- Expands ms depth count tokens out: while `depth` arguments are being expanded, and after `count` tokens
  pub data Expands (ms : Macros) : ℕ → ℕ → List Item → ReplacedList → Type 0 where
    over : {depth count : ℕ} → Expands ms depth count [] (Ok ([], count))
    kept : {depth count : ℕ} {t : Item} {ts : List Item} {out : ReplacedList} → turn ms depth t ts ≡ stays → Expands ms depth count ts out
        → Expands ms depth count (t ∷ ts) (behind (t ∷ []) out)
    refused_call : {depth count : ℕ} {t : Item} {ts : List Item} → turn ms depth t ts ≡ bad_call
        → Expands ms depth count (t ∷ ts) (Err (bad_call_at t.place))
    refused_argument : {depth count : ℕ} {t : Item} {ts : List Item} {c : Change} {e : Refusal} → turn ms depth t ts ≡ becomes c
        → Substitutes ms depth count t.place c.hide c.arguments c.body (Err e) → Expands ms depth count (t ∷ ts) (Err e)
    too_many : {depth count : ℕ} {t : Item} {ts : List Item} {c : Change} {new : List Item} {count' : ℕ} → turn ms depth t ts ≡ becomes c
        → Substitutes ms depth count t.place c.hide c.arguments c.body (Ok (new, count')) → token_limit < count' + length new
        → Expands ms depth count (t ∷ ts) (Err (too_many_at t.place))
    -- the result is put back in front of the rest, and the whole list is looked at again
    replaced : {depth count : ℕ} {t : Item} {ts : List Item} {c : Change} {new : List Item} {count' : ℕ} {out : ReplacedList}
        → turn ms depth t ts ≡ becomes c
        → Substitutes ms depth count t.place c.hide c.arguments c.body (Ok (new, count')) → count' + length new ≤ token_limit
        → Expands ms depth (count' + length new) (new ++ c.rest) out → Expands ms depth count (t ∷ ts) out

  -- Substitutes ms depth count place hide args body out: the replacement list with the arguments in the places of the parameters
  pub data Substitutes (ms : Macros) : ℕ → ℕ → Place → HideSet → List Argument → List BodyPart → ReplacedList → Type 0 where
    whole : {depth count : ℕ} {place : Place} {hide : HideSet} {args : List Argument}
        → Substitutes ms depth count place hide args [] (Ok ([], count))
    own : {depth count : ℕ} {place : Place} {hide : HideSet} {args : List Argument} {kind : TokenKind} {spaced : Bool}
        {body : List BodyPart} {out : ReplacedList}
        → Substitutes ms depth count place hide args body out
        → Substitutes ms depth count place hide args (plain kind spaced ∷ body) (behind (replacing place hide kind spaced ∷ []) out)
    refused : {depth count : ℕ} {place : Place} {hide : HideSet} {args : List Argument} {k : ℕ} {body : List BodyPart} {e : Refusal}
        → Readies ms depth count args k (Err e) → Substitutes ms depth count place hide args (parameter k ∷ body) (Err e)
    of_argument : {depth count : ℕ} {place : Place} {hide : HideSet} {args : List Argument} {k : ℕ} {body : List BodyPart}
        {args' : List Argument} {count' : ℕ} {out : ReplacedList}
        → Readies ms depth count args k (Ok (args', count')) → Substitutes ms depth count' place hide args' body out
        → Substitutes ms depth count place hide args (parameter k ∷ body)
        (behind (map (hidden hide) (argument_text (slice_get args' k))) out)

  -- Readies ms depth count args k out: an argument is expanded by itself, where its parameter occurs first
  pub data Readies (ms : Macros) : ℕ → ℕ → List Argument → ℕ → Result (List Argument × ℕ) Refusal → Type 0 where
    -- A parameter beyond the arguments gives nothing. No macro of a `define` line or of a header has one, since `body_part` numbers the
    -- names of its list and a call has as many arguments: the case only gives each list of any macros an outcome.
    absent : {depth count : ℕ} {args : List Argument} {k : ℕ} → slice_get args k ≡ None → Readies ms depth count args k (Ok (args, count))
    again : {depth count : ℕ} {args : List Argument} {k : ℕ} {ts : List Item} → slice_get args k ≡ Some (expanded ts)
        → Readies ms depth count args k (Ok (args, count))
    fails : {depth count : ℕ} {args : List Argument} {k : ℕ} {ts : List Item} {e : Refusal} → slice_get args k ≡ Some (written ts)
        → Expands ms (depth + 1) count ts (Err e) → Readies ms depth count args k (Err e)
    first : {depth count : ℕ} {args : List Argument} {k : ℕ} {ts : List Item} {x : List Item} {count' : ℕ}
        → slice_get args k ≡ Some (written ts)
        → Expands ms (depth + 1) count ts (Ok (x, count')) → Readies ms depth count args k (Ok (slice_set args k (expanded x), count'))
