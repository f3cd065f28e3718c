-- A list has one outcome of replacement.
use Rattle.std.proofs.Common.{◌≡◌, ℕ, ◌+◌, ◌≤◌, ◌<◌, List, [], ◌∷◌, ◌++◌, map, length, Option, Some, Result, Ok, Err, refl, sym, ap, ◌∙◌, arith}
use Rattle.std.specs.List.{slice_get}
use Rattle.fc_base.specs.declared.Place.{Place}
use Rattle.fc_base.specs.declared.Refusal.{Refusal}
use Rattle.fc_base.specs.declared.Fault.{Fault}
use Rattle.fc_base.specs.declared.Fault.TheVariants.{Refused, NoMemory}
use Rattle.fc_base.specs.Answers.{Answers}
use Rattle.c_tokens.specs.Tokens.{token_limit}
use Rattle.macro_meaning.specs.Macros.{HideSet, Item, BodyPart, Macros, Argument, written}
use Rattle.macro_meaning.specs.Turns.{Change, Turn, becomes}
use Rattle.macro_meaning.specs.Replacement.{ReplacedList, behind, replacing, hidden, argument_text, Expands, over, kept, refused_call, refused_argument, too_many, replaced, Substitutes, whole, own, refused, of_argument, Readies, absent, again, fails, first}

-- `cc` takes no pair apart
pub parts : {X : Type 0} {x x' : X} {c c' : ℕ} → ◌≡◌ {A = Result (X × ℕ) Refusal} (Ok (x, c)) (Ok (x', c')) → (x' ≡ x) × (c' ≡ c)
parts {X} {x} {x'} {c} {c'} g =
    let same : ◌≡◌ {A = X × ℕ} (x', c') (x, c) = cc in
    (ap (λ (p : X × ℕ). p.0) same, ap (λ (p : X × ℕ). p.1) same)

-- a turn makes one change
moved_result : {ms : Macros} {depth count : ℕ} {place : Place} {t : Turn} {c c' : Change} {o : ReplacedList} → t ≡ becomes c
    → t ≡ becomes c'
    → Substitutes ms depth count place c'.hide c'.arguments c'.body o → Substitutes ms depth count place c.hide c.arguments c.body o
moved_result {c = c} {c' = c'} e f s = let same : c' ≡ c = cc in rw (← same) s

moved_on : {ms : Macros} {depth : ℕ} {t : Turn} {c c' : Change} {new new' : List Item} {n n' : ℕ} {o : ReplacedList} → t ≡ becomes c
    → t ≡ becomes c'
    → ◌≡◌ {A = ReplacedList} (Ok (new, n)) (Ok (new', n'))
    → Expands ms depth (n' + length new') (new' ++ c'.rest) o → Expands ms depth (n + length new) (new ++ c.rest) o
moved_on {c = c} {c' = c'} {new = new} {new' = new'} {n = n} {n' = n'} e f g s =
    let same : c' ≡ c = cc in
    let same_new : new' ≡ new = (parts g).0 in
    let same_count : n' ≡ n = (parts g).1 in
    rw (← same, ← same_new, ← same_count) s

moved_rest : {ms : Macros} {depth : ℕ} {place : Place} {hide : HideSet} {b : List BodyPart} {a a' : List Argument} {c c' : ℕ}
    {o : ReplacedList}
    → ◌≡◌ {A = Result (List Argument × ℕ) Refusal} (Ok (a, c)) (Ok (a', c')) → Substitutes ms depth c' place hide a' b o
    → Substitutes ms depth c place hide a b o
moved_rest {ms} {depth} {place} {hide} {b} {a} {a'} {c} {c'} {o} g s =
    let same_a : a' ≡ a = (parts g).0 in
    let same_c : c' ≡ c = (parts g).1 in
    rw (← same_a, ← same_c) s

moved_argument : {ms : Macros} {depth count : ℕ} {a : Option Argument} {ts ts' : List Item} {o : ReplacedList}
    → a ≡ Some (written ts) → a ≡ Some (written ts') → Expands ms depth count ts' o → Expands ms depth count ts o
moved_argument {a = a} {ts = ts} {ts' = ts'} e f s =
    let same : ts' ≡ ts = cc in
    rw (← same) s

past_limit : {new new' : List Item} {c c' : ℕ} → ◌≡◌ {A = ReplacedList} (Ok (new, c)) (Ok (new', c')) → token_limit < c + length new
    → c' + length new' ≤ token_limit → ⊥
past_limit {new} {new'} {c} {c'} g lt le =
    let same_new : new' ≡ new = (parts g).0 in
    let same_c : c' ≡ c = (parts g).1 in
    omega (arith, ap length same_new)

mutual
  pub one_outcome : {ms : Macros} {depth count : ℕ} {ts : List Item} {a b : ReplacedList} → Expands ms depth count ts a
      → Expands ms depth count ts b → a ≡ b
  one_outcome over over = refl
  one_outcome (kept {t = t} e r) (kept f s) = ap (behind (t ∷ [])) (one_outcome r s)
  one_outcome (kept e r) (refused_call f) = cc
  one_outcome (kept e r) (refused_argument f s) = cc
  one_outcome (kept e r) (too_many f s lt) = cc
  one_outcome (kept e r) (replaced f s le u) = cc
  one_outcome (refused_call e) (kept f s) = cc
  one_outcome (refused_call e) (refused_call f) = refl
  one_outcome (refused_call e) (refused_argument f s) = cc
  one_outcome (refused_call e) (too_many f s lt) = cc
  one_outcome (refused_call e) (replaced f s le u) = cc
  one_outcome (refused_argument e r) (kept f s) = cc
  one_outcome (refused_argument e r) (refused_call f) = cc
  one_outcome (refused_argument e r) (refused_argument f s) = let same = one_result r (moved_result e f s) in cc
  one_outcome (refused_argument e r) (too_many f s lt) = let same = one_result r (moved_result e f s) in cc
  one_outcome (refused_argument e r) (replaced f s le u) = let same = one_result r (moved_result e f s) in cc
  one_outcome (too_many e r lt) (kept f s) = cc
  one_outcome (too_many e r lt) (refused_call f) = cc
  one_outcome (too_many e r lt) (refused_argument f s) = let same = one_result r (moved_result e f s) in cc
  one_outcome (too_many e r lt) (too_many f s lt') = refl
  one_outcome (too_many e r lt) (replaced f s le u) = absurd (past_limit (one_result r (moved_result e f s)) lt le)
  one_outcome (replaced e r le q) (kept f s) = cc
  one_outcome (replaced e r le q) (refused_call f) = cc
  one_outcome (replaced e r le q) (refused_argument f s) = let same = one_result r (moved_result e f s) in cc
  one_outcome (replaced e r le q) (too_many f s lt) = absurd (past_limit (sym (one_result r (moved_result e f s))) lt le)
  one_outcome (replaced e r le q) (replaced f s le' u) = one_outcome q (moved_on e f (one_result r (moved_result e f s)) u)

  pub one_result : {ms : Macros} {depth count : ℕ} {place : Place} {hide : HideSet} {args : List Argument} {body : List BodyPart}
      {a b : ReplacedList}
      → Substitutes ms depth count place hide args body a → Substitutes ms depth count place hide args body b → a ≡ b
  one_result whole whole = refl
  one_result (own {place = place} {hide = hide} {kind = kind} {spaced = spaced} r) (own s) = ap
      (behind (replacing place hide kind spaced ∷ [])) (one_result r s)
  one_result (refused r) (refused s) = let same = one_ready r s in cc
  one_result (refused r) (of_argument s u) = let same = one_ready r s in cc
  one_result (of_argument r q) (refused s) = let same = one_ready r s in cc
  one_result (of_argument {hide = hide} {k = k} {args' = args'} r q) (of_argument {args' = args''} {out = out} s u) =
      let same = one_ready r s in
      let same_args : args' ≡ args'' = sym (parts same).0 in
      ap (behind (map (hidden hide) (argument_text (slice_get args' k)))) (one_result q (moved_rest same u))
      ∙ ap (λ (xs : List Argument). behind (map (hidden hide) (argument_text (slice_get xs k))) out) same_args

  pub one_ready : {ms : Macros} {depth count : ℕ} {args : List Argument} {k : ℕ} {a b : Result (List Argument × ℕ) Refusal}
      → Readies ms depth count args k a → Readies ms depth count args k b → a ≡ b
  one_ready (absent e) (absent f) = refl
  one_ready (absent e) (again f) = cc
  one_ready (absent e) (fails f s) = cc
  one_ready (absent e) (first f s) = cc
  one_ready (again e) (absent f) = refl
  one_ready (again e) (again f) = refl
  one_ready (again e) (fails f s) = cc
  one_ready (again e) (first f s) = cc
  one_ready (fails e r) (absent f) = cc
  one_ready (fails e r) (again f) = cc
  one_ready (fails e r) (fails f s) = let same = one_outcome r (moved_argument e f s) in cc
  one_ready (fails e r) (first f s) = let same = one_outcome r (moved_argument e f s) in cc
  one_ready (first e r) (absent f) = cc
  one_ready (first e r) (again f) = cc
  one_ready (first e r) (fails f s) = let same = one_outcome r (moved_argument e f s) in cc
  one_ready (first {args = args} {k = k} {x = x} {count' = c} e r) (first {x = y} {count' = d} f s) =
      let same = one_outcome r (moved_argument e f s) in
      let same_x : x ≡ y = sym (parts same).0 in
      let same_c : c ≡ d = sym (parts same).1 in
      rw (same_x, same_c) refl

pub only_outcome : {X : Type 0} (ms : Macros) (depth count : ℕ) (ts : List Item) (see : X → List Item × ℕ) (r : Result X Fault)
    → Answers see r (Expands ms depth count ts)
    → Answers see r (λ out. (other : ReplacedList) → Expands ms depth count ts other → other ≡ out)
only_outcome ms depth count ts see (Ok x) is = λ other o. one_outcome o is
only_outcome ms depth count ts see (Err NoMemory) is = tt
only_outcome ms depth count ts see (Err (Refused r)) is = λ other o. one_outcome o is
