-- Preprocessing of a whole list of tokens (C11 6.10).
use Rattle.std.specs.Prelude.{◌≡◌, ℕ, Bool, List, [], ◌++◌, length, map, Option, Result, Ok, Err}
use Rattle.fc_base.specs.declared.Level.{Level}
use Rattle.fc_base.specs.declared.Place.{Place}
use Rattle.fc_base.specs.declared.Refusal.{Refusal}
use Rattle.fc_base.specs.declared.Rule.TheVariants.{BadCondition}
use Rattle.c_tokens.specs.declared.Token.{Token}
use Rattle.macro_conditions.specs.Conditions.{Decides}
use Rattle.macro_meaning.specs.declared.words.Group.{Group}
use Rattle.macro_meaning.specs.Macros.{Item, items, token}
use Rattle.macro_meaning.specs.Replacement.{Expands}
use Rattle.macro_meaning.specs.Lines.{part_of, rest_of}
use Rattle.macro_meaning.specs.Conditions.{IsAnswered}
use Rattle.macro_meaning.specs.Moves.{State, start, Next, refuses, refused, goes, Move, over, moves, expands, decides, decided, move}

-- the expanded list, or the first refusal
abbrev pub Expanded : Type 0
Expanded = Result (List Token) Refusal

abbrev pub behind : List Token → Expanded → Expanded
behind front (Ok ts) = Ok (front ++ ts)
behind front (Err e) = Err e

-- Comes st count m n c: after `count` tokens the move m comes to n, after c tokens
pub data Comes (st : State) (count : ℕ) : Move → Next → ℕ → Type 0 where
  at_once : {n : Next} → Comes st count (moves n) n count
  text : {now : List Token} {xs : List Item} {c : ℕ} → Expands st.macros 0 count (items now) (Ok (xs, c))
      → Comes st count (expands now) (goes st (map token xs)) c
  refused_text : {now : List Token} {e : Refusal} → Expands st.macros 0 count (items now) (Err e)
      → Comes st count (expands now) (refuses e) count
  condition : {place : Place} {line new : List Token} {g : Group} {gs : List Group} {xs : List Item} {d : Option Bool} {c : ℕ}
      → IsAnswered st.macros line new → Expands st.macros 0 count (items new) (Ok (xs, c)) → Decides (map (λ x. x.kind) xs) d
      → Comes st count (decides place line g gs) (decided st place g gs d) c
  refused_condition : {place : Place} {line new : List Token} {g : Group} {gs : List Group} {e : Refusal}
      → IsAnswered st.macros line new → Expands st.macros 0 count (items new) (Err e)
      → Comes st count (decides place line g gs) (refuses e) count
  -- a `defined` has no name
  unanswered : {place : Place} {line : List Token} {g : Group} {gs : List Group} → ((new : List Token) → IsAnswered st.macros line new → ⊥)
      → Comes st count (decides place line g gs) (refused BadCondition place) count

mutual
  -- Moved state count tokens out: by what the list does first, after `count` tokens
  pub data Moved : State → ℕ → List Token → Expanded → Type 0 where
    ends : {st : State} {count : ℕ} {ts : List Token} → move st ts ≡ over → Moved st count ts (Ok [])
    moved : {st : State} {count c : ℕ} {ts : List Token} {n : Next} {out : Expanded} → Comes st count (move st ts) n c
        → Follows n c (rest_of (part_of ts)) out → Moved st count ts out

  -- Follows next count rest out: where these tokens are left
  pub data Follows : Next → ℕ → List Token → Expanded → Type 0 where
    stops : {e : Refusal} {count : ℕ} {rest : List Token} → Follows (refuses e) count rest (Err e)
    goes_on : {st : State} {xs rest : List Token} {count : ℕ} {out : Expanded} → Moved st count rest out
        → Follows (goes st xs) count rest (behind xs out)

-- The whole file: the macros begin with `_FORTIFY_SOURCE`, and the count of tokens with those that were lexed.
abbrev pub IsExpanded : Level → List Token → Expanded → Type 0
IsExpanded level ts out = Moved (start level) (length ts) ts out
