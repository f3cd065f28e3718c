-- What holds of each kind in a list and in the replacement lists of the macros holds of each kind that the list expands to.
use Rattle.std.proofs.Common.{◌≡◌, ℕ, zero, suc, ◌==◌, Bool, true, false, ◌&&◌, if◌then◌else◌, List, [], ◌∷◌, map, length, drop, Option, Some, None, Result, Ok, Err, refl}
use Rattle.std.specs.Prelude.{nat_lt}
use Rattle.std.specs.List.{All, slice_get}
use Rattle.std.proofs.lemmas.List.Elements.{All-nil, All-cons, All-head, All-tail, All-append, All-map, All-drop, All-set}
use Rattle.fc_base.specs.declared.Place.{Place}
use Rattle.fc_base.specs.declared.Refusal.{Refusal}
use Rattle.c_tokens.specs.declared.TokenKind.{TokenKind}
use Rattle.c_tokens.specs.declared.TokenKind.TheVariants as kind
use Rattle.macro_meaning.specs.Macros.{Name, HideSet, Item, BodyPart, plain, parameter, Meaning, Macros, Argument, written, expanded, nesting_limit, closes, is_comma}
use Rattle.macro_meaning.specs.Turns.{Call, longer, another, ends_call, nest_after, call, arguments, right_number, Turn, stays, bad_call, becomes, called_with, called, opens_next, by_parameters, by_meaning, unhidden, meaning_of, turn, with_name, intersection}
use Rattle.macro_meaning.specs.Replacement.{ReplacedList, behind, replacing, hidden, argument_text, Expands, over, kept, refused_call, refused_argument, too_many, replaced, Substitutes, whole, own, refused, of_argument, Readies, absent, again, fails, first}

module _ (P : TokenKind → Type 0) where
  abbrev pub ItemHolds : Item → Type 0
  ItemHolds t = P t.kind

  abbrev pub BodyPartHolds : BodyPart → Type 0
  BodyPartHolds (plain k spaced) = P k
  BodyPartHolds (parameter n) = Unit {0}

  abbrev pub MacrosHold : Macros → Type 0
  MacrosHold ms = (name : Name) (m : Meaning) → ms name ≡ Some m → All BodyPartHolds m.body

  abbrev ArgumentHolds : Argument → Type 0
  ArgumentHolds (written ts) = All ItemHolds ts
  ArgumentHolds (expanded ts) = All ItemHolds ts

  abbrev pub Holds : ReplacedList → Type 0
  Holds (Ok r) = All ItemHolds r.0
  Holds (Err e) = Unit {0}

  abbrev CallHolds : Option Call → Type 0
  CallHolds None = Unit {0}
  CallHolds (Some c) = All ItemHolds c.first × All ArgumentHolds c.others × All ItemHolds c.rest

  abbrev TurnHolds : Turn → Type 0
  TurnHolds stays = Unit {0}
  TurnHolds bad_call = Unit {0}
  TurnHolds (becomes c) = All BodyPartHolds c.body × All ArgumentHolds c.arguments × All ItemHolds c.rest

  abbrev MeaningHolds : Option Meaning → Type 0
  MeaningHolds None = Unit {0}
  MeaningHolds (Some m) = All BodyPartHolds m.body

  -- ---- a call

  longer_holds : (t : Item) (o : Option Call) → P t.kind → CallHolds o → CallHolds (longer t o)
  longer_holds t None p h = tt
  longer_holds t (Some c) p h = (All-cons ItemHolds t c.first p h.0, h.1, h.2)

  another_holds : (o : Option Call) → CallHolds o → CallHolds (another o)
  another_holds None h = tt
  another_holds (Some c) h = (All-nil ItemHolds, All-cons ArgumentHolds (written c.first) c.others h.0 h.1, h.2)

  call_if : (v : Bool) (a b : Option Call) → CallHolds a → CallHolds b → CallHolds (if v then a else b)
  call_if true a b f g = f
  call_if false a b f g = g

  call_holds : (ts : List Item) (nest : ℕ) → All ItemHolds ts → CallHolds (call nest ts)
  unfolding call
  call_holds [] nest h = tt
  call_holds (t ∷ ts) nest h =
      let p : P t.kind = All-head ItemHolds t ts h in
      let rest : All ItemHolds ts = All-tail ItemHolds t ts h in
      call_if (nest == 0 && closes t.kind) (ends_call t ts)
      (if nest == 0 && is_comma t.kind then another (call 0 ts) else longer t (call (nest_after nest t.kind) ts))
      (All-nil ItemHolds, All-nil ArgumentHolds, rest)
      (call_if (nest == 0 && is_comma t.kind) (another (call 0 ts)) (longer t (call (nest_after nest t.kind) ts))
      (another_holds (call 0 ts) (call_holds ts 0 rest))
      (longer_holds t (call (nest_after nest t.kind) ts) p (call_holds ts (nest_after nest t.kind) rest)))

  -- ---- a turn

  turn_if : (v : Bool) (a b : Turn) → TurnHolds a → TurnHolds b → TurnHolds (if v then a else b)
  turn_if true a b f g = f
  turn_if false a b f g = g

  called_holds : (t : Item) (n : ℕ) (body : List BodyPart) (o : Option Call) → All BodyPartHolds body → CallHolds o
      → TurnHolds (called_with t n body o)
  called_holds t n body None b h = tt
  called_holds t n body (Some c) b h =
      turn_if (right_number n (arguments c))
      (becomes (record { body = body; hide = with_name t.kind (intersection t.hide c.close); arguments = arguments c; rest = c.rest }))
      bad_call
      (b, All-cons ArgumentHolds (written c.first) c.others h.0 h.1, h.2) tt

  parameters_hold : (depth : ℕ) (t : Item) (ts : List Item) (body : List BodyPart) (o : Option (List Name)) → All BodyPartHolds body
      → All ItemHolds ts → TurnHolds (by_parameters depth t ts body o)
  parameters_hold depth t ts body None b h = (b, All-nil ArgumentHolds, h)
  parameters_hold depth t ts body (Some names) b h =
      turn_if (opens_next ts) (called depth t (length names) body (drop 1 ts)) stays
      (turn_if (nat_lt depth nesting_limit) (called_with t (length names) body (call 0 (drop 1 ts))) bad_call
      (called_holds t (length names) body (call 0 (drop 1 ts)) b (call_holds (drop 1 ts) 0 (All-drop ItemHolds 1 ts h))) tt) tt

  by_meaning_holds : (depth : ℕ) (t : Item) (ts : List Item) (o : Option Meaning) → MeaningHolds o → All ItemHolds ts
      → TurnHolds (by_meaning depth t ts o)
  by_meaning_holds depth t ts None m h = tt
  by_meaning_holds depth t ts (Some m) b h = parameters_hold depth t ts m.body m.parameters b h

  meaning_if : (v : Bool) (o : Option Meaning) → MeaningHolds o → MeaningHolds (if v then None else o)
  meaning_if true o h = tt
  meaning_if false o h = h

  looked_up : (ms : Macros) → MacrosHold ms → (name : Name) (o : Option Meaning) → ms name ≡ o → MeaningHolds o
  looked_up ms h name None e = tt
  looked_up ms h name (Some m) e = h name m e

  unhidden_holds : (ms : Macros) → MacrosHold ms → (hide : HideSet) (k : TokenKind) → MeaningHolds (unhidden ms hide k)
  unhidden_holds ms h hide (kind.Name name) = meaning_if (hide name) (ms name) (looked_up ms h name (ms name) refl)
  unhidden_holds ms h hide (kind.Number v k) = tt
  unhidden_holds ms h hide (kind.CharConst b) = tt
  unhidden_holds ms h hide (kind.Str text) = tt
  unhidden_holds ms h hide (kind.Punct p) = tt
  unhidden_holds ms h hide (kind.HeaderName name) = tt
  unhidden_holds ms h hide (kind.Header id) = tt

  turn_holds : (ms : Macros) → MacrosHold ms → (depth : ℕ) (t : Item) (ts : List Item) → All ItemHolds ts → (u : Turn)
      → turn ms depth t ts ≡ u → TurnHolds u
  turn_holds ms m depth t ts h u e = rw (← e) (by_meaning_holds depth t ts (meaning_of ms t) (unhidden_holds ms m t.hide t.kind) h)

  -- ---- lists

  behind_holds : (front : List Item) (out : ReplacedList) → All ItemHolds front → Holds out → Holds (behind front out)
  behind_holds front (Ok r) f h = All-append ItemHolds front r.0 f h
  behind_holds front (Err e) f h = tt

  one_holds : (t : Item) → P t.kind → All ItemHolds (t ∷ [])
  one_holds t p = All-cons ItemHolds t [] p (All-nil ItemHolds)

  hidden_hold : (hide : HideSet) (ts : List Item) → All ItemHolds ts → All ItemHolds (map (hidden hide) ts)
  hidden_hold hide ts h = All-map ItemHolds (hidden hide) ts h

  argument_at : (args : List Argument) (k : ℕ) (a : Argument) → All ArgumentHolds args → slice_get args k ≡ Some a → ArgumentHolds a
  argument_at [] k a h e = cc
  argument_at (b ∷ bs) zero a h e =
      let same : b ≡ a = cc in
      rw (← same) (All-head ArgumentHolds b bs h)
  argument_at (b ∷ bs) (suc k) a h e = argument_at bs k a (All-tail ArgumentHolds b bs h) e

  text_holds : (args : List Argument) (k : ℕ) (o : Option Argument) → All ArgumentHolds args → slice_get args k ≡ o
      → All ItemHolds (argument_text o)
  text_holds args k None h e = All-nil ItemHolds
  text_holds args k (Some (written ts)) h e = All-nil ItemHolds
  text_holds args k (Some (expanded ts)) h e = argument_at args k (expanded ts) h e

  abbrev ReadyHolds : Result (List Argument × ℕ) Refusal → Type 0
  ReadyHolds (Ok r) = All ArgumentHolds r.0
  ReadyHolds (Err e) = Unit {0}

  module _ (ms : Macros) (m : MacrosHold ms) where
    mutual
      pub expanded_hold : {depth count : ℕ} {ts : List Item} {out : ReplacedList} → Expands ms depth count ts out → All ItemHolds ts
          → Holds out
      expanded_hold over h = All-nil ItemHolds
      expanded_hold (kept {t = t} {ts = ts} {out = out} e r) h =
          behind_holds (t ∷ []) out (one_holds t (All-head ItemHolds t ts h)) (expanded_hold r (All-tail ItemHolds t ts h))
      expanded_hold (refused_call e) h = tt
      expanded_hold (refused_argument e s) h = tt
      expanded_hold (too_many e s lt) h = tt
      expanded_hold (replaced {depth = depth} {t = t} {ts = ts} {c = c} {new = new} e s le r) h =
          let b = turn_holds ms m depth t ts (All-tail ItemHolds t ts h) (becomes c) e in
          expanded_hold r (All-append ItemHolds new c.rest (substituted_hold s b.0 b.1) b.2)

      substituted_hold : {depth count : ℕ} {place : Place} {hide : HideSet} {args : List Argument} {body : List BodyPart}
          {out : ReplacedList}
          → Substitutes ms depth count place hide args body out → All BodyPartHolds body → All ArgumentHolds args → Holds out
      substituted_hold whole b h = All-nil ItemHolds
      substituted_hold (own {place = place} {hide = hide} {kind = k} {spaced = spaced} {body = body} {out = out} s) b h =
          behind_holds (replacing place hide k spaced ∷ []) out
          (one_holds (replacing place hide k spaced) (All-head BodyPartHolds (plain k spaced) body b))
          (substituted_hold s (All-tail BodyPartHolds (plain k spaced) body b) h)
      substituted_hold (refused r) b h = tt
      substituted_hold (of_argument {hide = hide} {k = k} {body = body} {args' = args'} {out = out} r s) b h =
          let ready : All ArgumentHolds args' = ready_hold r h in
          behind_holds (map (hidden hide) (argument_text (slice_get args' k))) out
          (hidden_hold hide (argument_text (slice_get args' k)) (text_holds args' k (slice_get args' k) ready refl))
          (substituted_hold s (All-tail BodyPartHolds (parameter k) body b) ready)

      ready_hold : {depth count : ℕ} {args : List Argument} {k : ℕ} {out : Result (List Argument × ℕ) Refusal}
          → Readies ms depth count args k out → All ArgumentHolds args → ReadyHolds out
      ready_hold (absent e) h = h
      ready_hold (again e) h = h
      ready_hold (fails e r) h = tt
      ready_hold (first {args = args} {k = k} {ts = ts} {x = x} e r) h =
          All-set ArgumentHolds args k (expanded x) (expanded_hold r (argument_at args k (written ts) h e)) h
