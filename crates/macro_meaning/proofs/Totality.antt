-- Every list has an outcome of replacement. A replacement takes away the name and adds counted tokens, so the tokens that may come still,
-- taken twice, and those of the list fall in sum.
use Rattle.std.proofs.Common.{◌≡◌, ℕ, zero, suc, ◌-◌, ◌+◌, ◌*◌, ◌≤◌, ◌<◌, ◌==◌, Bool, true, false, ◌&&◌, nat_le, nat_lt, if◌then◌else◌, List, [], ◌∷◌, ◌++◌, map, length, drop, Option, Some, None, Result, Ok, Err, refl, arith, length-append, length-drop}
use Rattle.std.specs.List.{slice_get}
use Rattle.std.specs.Prelude.{slice_set}
use Rattle.std.proofs.lemmas.List.{length-set}
use Rattle.std.proofs.lemmas.Option.{slice_get_within}
use Rattle.std.proofs.lemmas.Bool.Decides.{nat_tests}
use Rattle.fc_base.specs.declared.Place.{Place}
use Rattle.fc_base.specs.declared.Refusal.{Refusal}
use Rattle.c_tokens.specs.Tokens.{token_limit}
use Rattle.macro_meaning.specs.Macros.{Name, HideSet, Item, BodyPart, plain, parameter, Meaning, Macros, Argument, written, expanded, nesting_limit, closes, is_comma}
use Rattle.macro_meaning.specs.Turns.{Call, longer, another, ends_call, nest_after, call, arguments, right_number, Change, Turn, stays, bad_call, becomes, called_with, called, opens_next, by_parameters, by_meaning, meaning_of, turn, with_name, intersection}
use Rattle.macro_meaning.specs.Replacement.{ReplacedList, behind, replacing, hidden, argument_text, too_many_at, bad_call_at, Expands, over, kept, refused_call, refused_argument, too_many, replaced, Substitutes, whole, own, refused, of_argument, Readies, absent, again, fails, first}

-- ---- a call leaves no more than there was

rest_of : Option Call → List Item
rest_of None = []
rest_of (Some c) = c.rest

rest_longer : (t : Item) (o : Option Call) → rest_of (longer t o) ≡ rest_of o
unfolding rest_of
rest_longer t None = refl
rest_longer t (Some c) = refl

rest_another : (o : Option Call) → rest_of (another o) ≡ rest_of o
unfolding rest_of
rest_another None = refl
rest_another (Some c) = refl

shorter_if : (n : ℕ) (v : Bool) (a b : Option Call) → length (rest_of a) ≤ n → length (rest_of b) ≤ n
    → length (rest_of (if v then a else b)) ≤ n
shorter_if n true a b f g = f
shorter_if n false a b f g = g

shorter : (ts : List Item) (nest : ℕ) → length (rest_of (call nest ts)) ≤ length ts
unfolding call rest_of
shorter [] nest = omega arith
shorter (t ∷ ts) nest =
    let part = shorter ts 0 in
    let whole = shorter ts (nest_after nest t.kind) in
    shorter_if (length (t ∷ ts)) (nest == 0 && closes t.kind) (ends_call t ts)
    (if nest == 0 && is_comma t.kind then another (call 0 ts) else longer t (call (nest_after nest t.kind) ts)) (omega arith)
    (shorter_if (length (t ∷ ts)) (nest == 0 && is_comma t.kind) (another (call 0 ts)) (longer t (call (nest_after nest t.kind) ts))
    (rw (rest_another (call 0 ts)) (omega arith)) (rw (rest_longer t (call (nest_after nest t.kind) ts)) (omega arith)))

abbrev IsBounded : ℕ → ℕ → Turn → Type 0
IsBounded depth n stays = Unit {0}
IsBounded depth n bad_call = Unit {0}
IsBounded depth n (becomes c) = (length c.rest ≤ n) × (0 < length c.arguments → depth < nesting_limit)

bounded_if : (depth n : ℕ) (v : Bool) (a b : Turn) → (v ≡ true → IsBounded depth n a) → IsBounded depth n b
    → IsBounded depth n (if v then a else b)
bounded_if depth n true a b f g = f refl
bounded_if depth n false a b f g = g

bounded_call : (depth n : ℕ) (t : Item) (k : ℕ) (body : List BodyPart) (o : Option Call) → length (rest_of o) ≤ n → depth < nesting_limit
    → IsBounded depth n (called_with t k body o)
unfolding rest_of
bounded_call depth n t k body None le lt = tt
bounded_call depth n t k body (Some c) le lt =
    bounded_if depth n (right_number k (arguments c))
    (becomes (record { body = body; hide = with_name t.kind (intersection t.hide c.close); arguments = arguments c; rest = c.rest }))
    bad_call
    (λ e. (le, λ h. lt)) tt

bounded_params : (depth : ℕ) (t : Item) (ts : List Item) (body : List BodyPart) (p : Option (List Name))
    → IsBounded depth (length ts) (by_parameters depth t ts body p)
bounded_params depth t ts body None = (omega arith, λ h. absurd (omega arith))
bounded_params depth t ts body (Some names) =
    bounded_if depth (length ts) (opens_next ts) (called depth t (length names) body (drop 1 ts)) stays
    (λ e. bounded_if depth (length ts) (nat_lt depth nesting_limit) (called_with t (length names) body (call 0 (drop 1 ts))) bad_call
    (λ f. bounded_call depth (length ts) t (length names) body (call 0 (drop 1 ts))
    (let s = shorter (drop 1 ts) 0 in omega (arith, length-drop 1 ts)) (below depth f)) tt) tt
  where
    below : (depth : ℕ) → nat_lt depth nesting_limit ≡ true → depth < nesting_limit
    below depth f = grind (arith, nat_tests)

bounded : (depth : ℕ) (t : Item) (ts : List Item) (o : Option Meaning) → IsBounded depth (length ts) (by_meaning depth t ts o)
bounded depth t ts None = tt
bounded depth t ts (Some m) = bounded_params depth t ts m.body m.parameters

-- ---- outcomes, whose counts do not fall

abbrev Grows : ℕ → ReplacedList → Type 0
Grows count (Ok r) = count ≤ r.1
Grows count (Err e) = Unit {0}

grows_behind : (count : ℕ) (front : List Item) (out : ReplacedList) → Grows count out → Grows count (behind front out)
grows_behind count front (Ok r) g = g
grows_behind count front (Err e) g = g

grows_from : (count count' : ℕ) (out : ReplacedList) → count ≤ count' → Grows count' out → Grows count out
grows_from count count' (Ok r) le g = omega arith
grows_from count count' (Err e) le g = tt

abbrev Has : Macros → ℕ → ℕ → List Item → Type 0
Has ms depth count ts = (out : ReplacedList) × Expands ms depth count ts out × Grows count out

abbrev Deeper : Macros → ℕ → Type 0
Deeper ms depth = (count : ℕ) (ts : List Item) → Has ms (depth + 1) count ts

abbrev GrowsReady : ℕ → ℕ → Result (List Argument × ℕ) Refusal → Type 0
GrowsReady count n (Ok r) = (count ≤ r.1) × (length r.0 ≡ n)
GrowsReady count n (Err e) = Unit {0}

module _ (ms : Macros) (depth : ℕ) where
  ready_by : (count : ℕ) (args : List Argument) (k : ℕ) (ts : List Item) → slice_get args k ≡ Some (written ts) → (out : ReplacedList)
      → Expands ms (depth + 1) count ts out → Grows count out
      → (o : Result (List Argument × ℕ) Refusal) × Readies ms depth count args k o × GrowsReady count (length args) o
  ready_by count args k ts e (Ok r) x g = (Ok (slice_set args k (expanded r.0), r.1), first e x, (g, length-set args k (expanded r.0)))
  ready_by count args k ts e (Err f) x g = (Err f, fails e x, tt)

  ready_at : (count : ℕ) (args : List Argument) (k : ℕ) → (0 < length args → Deeper ms depth) → (a : Option Argument) → slice_get args k ≡ a
      → (o : Result (List Argument × ℕ) Refusal) × Readies ms depth count args k o × GrowsReady count (length args) o
  ready_at count args k deeper None e = (Ok (args, count), absent e, (omega arith, refl))
  ready_at count args k deeper (Some (expanded ts)) e = (Ok (args, count), again e, (omega arith, refl))
  ready_at count args k deeper (Some (written ts)) e =
      let within = slice_get_within args k (written ts) e in
      let so = deeper (omega arith) count ts in
      ready_by count args k ts e so.0 so.1 so.2

  abbrev HasResult : ℕ → Place → HideSet → List Argument → List BodyPart → Type 0
  HasResult count place hide args body = (out : ReplacedList) × Substitutes ms depth count place hide args body out × Grows count out

  result_by : (count : ℕ) (place : Place) (hide : HideSet) (args : List Argument) (k : ℕ) (body : List BodyPart)
      → (o : Result (List Argument × ℕ) Refusal) → Readies ms depth count args k o → GrowsReady count (length args) o
      → ((count' : ℕ) (args' : List Argument) → length args' ≡ length args → HasResult count' place hide args' body)
      → HasResult count place hide args (parameter k ∷ body)
  result_by count place hide args k body (Ok r) x g more =
      let so = more r.1 r.0 g.1 in (
        behind (map (hidden hide) (argument_text (slice_get r.0 k))) so.0,
        of_argument x so.1,
        grows_behind count (map (hidden hide) (argument_text (slice_get r.0 k))) so.0 (grows_from count r.1 so.0 g.0 so.2),
      )
  result_by count place hide args k body (Err e) x g more = (Err e, refused x, tt)

  result : (body : List BodyPart) (count : ℕ) (place : Place) (hide : HideSet) (args : List Argument) → (0 < length args → Deeper ms depth)
      → HasResult count place hide args body
  result [] count place hide args deeper = (Ok ([], count), whole, omega arith)
  result (plain kind spaced ∷ body) count place hide args deeper =
      let so = result body count place hide args deeper in
      (behind (replacing place hide kind spaced ∷ []) so.0, own so.1, grows_behind count (replacing place hide kind spaced ∷ []) so.0 so.2)
  result (parameter k ∷ body) count place hide args deeper =
      let so = ready_at count args k deeper (slice_get args k) refl in
      result_by count place hide args k body so.0 so.1 so.2
      (λ count' args' same. result body count' place hide args' (λ h. deeper (omega arith)))

-- ---- a list, by the depth that is left and the tokens that may come

fits : (m : ℕ) → nat_le m token_limit ≡ true → m ≤ token_limit
fits m e = grind (arith, nat_tests)

passes : (m : ℕ) → nat_le m token_limit ≡ false → token_limit < m
passes m e = grind (arith, nat_tests)

abbrev Enough : Macros → ℕ → ℕ → Type 0
Enough ms depth n = (count : ℕ) (ts : List Item) → 2 * (token_limit - count) + length ts < n → Has ms depth count ts

module _ (ms : Macros) (depth n count : ℕ) (t : Item) (ts : List Item) (lt : 2 * (token_limit - count) + length (t ∷ ts) < suc n)
    (less : Enough ms depth n) where
  total_new : (c : Change) → turn ms depth t ts ≡ becomes c → length c.rest ≤ length ts → (r : List Item × ℕ)
      → Substitutes ms depth count t.place c.hide c.arguments c.body (Ok r) → count ≤ r.1 → (v : Bool)
      → nat_le (r.1 + length r.0) token_limit ≡ v
      → Has ms depth count (t ∷ ts)
  total_new c e short r s from true f =
      let m = fits (r.1 + length r.0) f in
      let so = less (r.1 + length r.0) (r.0 ++ c.rest) (omega (arith, length-append r.0 c.rest)) in
      (so.0, replaced e s m so.1, grows_from count (r.1 + length r.0) so.0 (omega arith) so.2)
  total_new c e short r s from false f = (Err (too_many_at t.place), too_many e s (passes (r.1 + length r.0) f), tt)

  total_made : (c : Change) → turn ms depth t ts ≡ becomes c → length c.rest ≤ length ts → (out : ReplacedList)
      → Substitutes ms depth count t.place c.hide c.arguments c.body out → Grows count out → Has ms depth count (t ∷ ts)
  total_made c e short (Ok r) s g = total_new c e short r s g (nat_le (r.1 + length r.0) token_limit) refl
  total_made c e short (Err q) s g = (Err q, refused_argument e s, tt)

  total_turn : (depth < nesting_limit → Deeper ms depth) → (u : Turn) → turn ms depth t ts ≡ u → IsBounded depth (length ts) u
      → Has ms depth count (t ∷ ts)
  total_turn deeper stays e b = let so = less count ts (omega arith) in
      (behind (t ∷ []) so.0, kept e so.1, grows_behind count (t ∷ []) so.0 so.2)
  total_turn deeper bad_call e b = (Err (bad_call_at t.place), refused_call e, tt)
  total_turn deeper (becomes c) e b =
      let so = result ms depth c.body count t.place c.hide c.arguments (λ h. deeper (b.1 h)) in
      total_made c e b.0 so.0 so.1 so.2

total_at : (ms : Macros) (depth : ℕ) → (depth < nesting_limit → Deeper ms depth) → (n : ℕ) → Enough ms depth n
total_at ms depth deeper zero count ts lt = absurd (omega arith)
total_at ms depth deeper (suc n) count [] lt = (Ok ([], count), over, omega arith)
total_at ms depth deeper (suc n) count (t ∷ ts) lt =
    total_turn ms depth n count t ts lt (total_at ms depth deeper n) deeper (turn ms depth t ts) refl (bounded depth t ts (meaning_of ms t))

total_by : (ms : Macros) (room depth : ℕ) → nesting_limit ≤ depth + room → (n : ℕ) → Enough ms depth n
total_by ms zero depth le = total_at ms depth (λ h. absurd (omega arith))
total_by ms (suc room) depth le =
    total_at ms depth (λ h count ts. total_by ms room (depth + 1) (omega arith) (suc (2 * (token_limit - count) + length ts)) count ts
    (omega arith))

pub total : (ms : Macros) (depth count : ℕ) (ts : List Item) → (out : ReplacedList) × Expands ms depth count ts out
total ms depth count ts =
    let so : Has ms depth count ts = total_by ms nesting_limit depth (omega arith) (suc (2 * (token_limit - count) + length ts)) count ts
    (omega arith) in
    (so.0, so.1)
