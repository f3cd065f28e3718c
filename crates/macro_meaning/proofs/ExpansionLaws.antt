-- A list has one outcome of preprocessing.
use Rattle.std.proofs.Common.{◌≡◌, ℕ, zero, suc, ◌+◌, ◌≤◌, ◌<◌, Bool, true, false, List, [], ◌∷◌, map, length, Option, Some, None, Result, Ok, Err, refl, sym, ap, subst, arith, length-drop}
use Rattle.std.specs.List.{prefix_len}
use Rattle.fc_base.specs.declared.Place.{Place}
use Rattle.fc_base.specs.declared.Refusal.{Refusal}
use Rattle.fc_base.specs.declared.Rule.TheVariants.{OpenConditional}
use Rattle.fc_base.specs.declared.Fault.{Fault}
use Rattle.fc_base.specs.declared.Fault.TheVariants.{Refused, NoMemory}
use Rattle.c_tokens.specs.declared.Token.{Token}
use Rattle.macro_conditions.specs.Conditions.{Decides}
use Rattle.macro_conditions.proofs.Decisions as decisions
use Rattle.macro_meaning.specs.declared.words.Group.{Group}
use Rattle.fc_base.specs.Answers.{Answers}
use Rattle.macro_meaning.specs.Macros.{Macros, Item, items, token}
use Rattle.macro_meaning.specs.Replacement.{ReplacedList, Expands}
use Rattle.macro_meaning.specs.Lines.{part_of, rest_of, text_or_directive, is_directive, in_text, in_line}
use Rattle.macro_meaning.specs.Answering.{with_answers}
use Rattle.macro_meaning.specs.Conditions.{IsAnswered}
use Rattle.macro_meaning.specs.Moves.{State, Next, refuses, goes, Move, over, moves, expands, decides, decided, move, outermost, at_end}
use Rattle.macro_meaning.specs.Expansion.{Expanded, behind, Comes, at_once, text, refused_text, condition, refused_condition, unanswered, Moved, ends, moved, Follows, stops, goes_on}
use Rattle.macro_meaning.proofs.Answering.{one_answer, no_answer, is_answered}
use Rattle.macro_meaning.proofs.ReplacementLaws.{parts, one_outcome}
use Rattle.macro_meaning.proofs.Totality.{total}

-- ---- one outcome

same_line : {ms : Macros} {count : ℕ} {line new new' : List Token} {r : ReplacedList} → IsAnswered ms line new → IsAnswered ms line new'
    → Expands ms 0 count (items new') r → Expands ms 0 count (items new) r
same_line {ms = ms} {new = new} {new' = new'} a b x = let same : new' ≡ new = one_answer ms b a in rw (← same) x

same_decision : {xs xs' : List Item} {c c' : ℕ} {d d' : Option Bool} → ◌≡◌ {A = ReplacedList} (Ok (xs, c)) (Ok (xs', c'))
    → Decides (map (λ x. x.kind) xs) d → Decides (map (λ x. x.kind) xs') d' → d ≡ d'
same_decision {xs = xs} {xs' = xs'} {d' = d'} g p q =
    let same_xs : xs' ≡ xs = (parts g).0 in
    decisions.one p (subst (λ (ys : List Item). Decides (map (λ x. x.kind) ys) d') same_xs q)

-- a move comes to one next, after one count
one_next : {st : State} {count c c' : ℕ} {m : Move} {n n' : Next} → Comes st count m n c → Comes st count m n' c' → (n' ≡ n) × (c' ≡ c)
one_next at_once at_once = (refl, refl)
one_next {st = st} (text x) (text y) =
    let same = parts (one_outcome x y) in (ap (λ (xs : List Item). goes st (map token xs)) same.0, same.1)
one_next (text x) (refused_text y) = let same = one_outcome x y in cc
one_next (refused_text x) (text y) = let same = one_outcome x y in cc
one_next (refused_text x) (refused_text y) = let same = one_outcome x y in (cc, refl)
one_next {st = st} (condition {place = place} {g = g} {gs = gs} a x d) (condition b y e) =
    let same = one_outcome x (same_line a b y) in
    (ap (decided st place g gs) (sym (same_decision same d e)), (parts same).1)
one_next (condition a x d) (refused_condition b y) = let same = one_outcome x (same_line a b y) in cc
one_next (condition {new = new} a x d) (unanswered none) = absurd (none new a)
one_next (refused_condition a x) (condition b y e) = let same = one_outcome x (same_line a b y) in cc
one_next (refused_condition a x) (refused_condition b y) = let same = one_outcome x (same_line a b y) in (cc, refl)
one_next (refused_condition {new = new} a x) (unanswered none) = absurd (none new a)
one_next (unanswered none) (condition {new = new} b y e) = absurd (none new b)
one_next (unanswered none) (refused_condition {new = new} b y) = absurd (none new b)
one_next (unanswered none) (unanswered other) = (refl, refl)

not_over : {st : State} {count c : ℕ} {m : Move} {n : Next} → Comes st count m n c → m ≡ over → ⊥
not_over at_once e = cc
not_over (text x) e = cc
not_over (refused_text x) e = cc
not_over (condition a x d) e = cc
not_over (refused_condition a x) e = cc
not_over (unanswered none) e = cc

same_rest : {n n' : Next} {c c' : ℕ} {rest : List Token} {out : Expanded} → (n' ≡ n) × (c' ≡ c) → Follows n' c' rest out
    → Follows n c rest out
same_rest {n} {n'} {c} {c'} e f =
    let same_next : n' ≡ n = e.0 in
    let same_count : c' ≡ c = e.1 in
    rw (← same_next, ← same_count) f

mutual
  pub one : {st : State} {count : ℕ} {ts : List Token} {a b : Expanded} → Moved st count ts a → Moved st count ts b → a ≡ b
  one (ends e) (ends f) = refl
  one (ends e) (moved x f) = absurd (not_over x e)
  one (moved x f) (ends e) = absurd (not_over x e)
  one (moved x f) (moved y g) = one_rest f (same_rest (one_next x y) g)

  one_rest : {n : Next} {count : ℕ} {rest : List Token} {a b : Expanded} → Follows n count rest a → Follows n count rest b → a ≡ b
  one_rest stops stops = refl
  one_rest (goes_on {xs = xs} r) (goes_on s) = ap (behind xs) (one r s)

pub only_expanded : {X : Type 0} (st : State) (count : ℕ) (ts : List Token) (see : X → List Token) (r : Result X Fault)
    → Answers see r (Moved st count ts) → Answers see r (λ out. (other : Expanded) → Moved st count ts other → other ≡ out)
only_expanded st count ts see (Ok x) is = λ other o. one o is
only_expanded st count ts see (Err NoMemory) is = tt
only_expanded st count ts see (Err (Refused r)) is = λ other o. one o is

-- ---- some outcome

abbrev Has : State → ℕ → List Token → Type 0
Has st count ts = (out : Expanded) × Moved st count ts out

abbrev Rest : List Token → Type 0
Rest rest = (st : State) (count : ℕ) → Has st count rest

followed : (n : Next) (count : ℕ) (rest : List Token) → Rest rest → (out : Expanded) × Follows n count rest out
followed (refuses e) count rest go = (Err e, stops)
followed (goes st xs) count rest go = let so = go st count in (behind xs so.0, goes_on so.1)

abbrev ComesOn : State → ℕ → Move → Type 0
ComesOn st count m = (n : Next) × (c : ℕ) × Comes st count m n c

module _ (st : State) (count : ℕ) where
  by_text : (now : List Token) (r : ReplacedList) → Expands st.macros 0 count (items now) r → ComesOn st count (expands now)
  by_text now (Ok r) x = (goes st (map token r.0), r.1, text x)
  by_text now (Err q) x = (refuses q, count, refused_text x)

  by_line : (place : Place) (line new : List Token) (g : Group) (gs : List Group) → IsAnswered st.macros line new → (r : ReplacedList)
      → Expands st.macros 0 count (items new) r → ComesOn st count (decides place line g gs)
  by_line place line new g gs a (Ok r) x =
      let d = decisions.some (map (λ x. x.kind) r.0) in
      (decided st place g gs d.0, r.1, condition a x d.1)
  by_line place line new g gs a (Err q) x = (refuses q, count, refused_condition a x)

  by_answers : (place : Place) (line : List Token) (g : Group) (gs : List Group) (o : Option (List Token))
      → with_answers st.macros 0 line ≡ o
      → ComesOn st count (decides place line g gs)
  by_answers place line g gs None e = (_, count, unanswered (no_answer st.macros line e))
  by_answers place line g gs (Some new) e =
      let x = total st.macros 0 count (items new) in by_line place line new g gs (is_answered st.macros line new e) x.0 x.1

module _ (st : State) (count : ℕ) (ts : List Token) (go : Rest (rest_of (part_of ts))) where
  on : (m : Move) → move st ts ≡ m → ComesOn st count m → Has st count ts
  on m e c = let so = followed c.0 c.1 (rest_of (part_of ts)) go in (so.0, moved (rw e c.2) so.1)

  by_move : (m : Move) → move st ts ≡ m → Has st count ts
  by_move over e = (Ok [], ends e)
  by_move (moves n) e = on (moves n) e (n, count, at_once)
  by_move (expands now) e = let x = total st.macros 0 count (items now) in on (expands now) e (by_text st count now x.0 x.1)
  by_move (decides place line g gs) e = on (decides place line g gs) e
      (by_answers st count place line g gs (with_answers st.macros 0 line) refl)

at_the_end : (st : State) (count : ℕ) (gs : List Group) → st.groups ≡ gs → Has st count []
unfolding part_of
at_the_end st count [] e = (Ok [], ends (ap at_end e))
at_the_end st count (g ∷ gs) e =
    let last : Refusal = record { rule = OpenConditional; place = (outermost g gs).place } in
    let x : Comes st count (move st []) (refuses last) count = rw (ap at_end e) at_once in (Err last, moved x stops)

one_more : (n : ℕ) → 1 + n ≡ suc n
one_more n = omega arith

shorter_by : (b : Bool) (t : Token) (ts : List Token) → is_directive t ≡ b → length (rest_of (text_or_directive b t ts)) ≤ length ts
shorter_by true t ts e = omega (arith, length-drop (prefix_len in_line ts) ts)
shorter_by false t ts e = rw (e, one_more (prefix_len in_text ts)) (omega (arith, length-drop (prefix_len in_text ts) ts))

shorter : (t : Token) (ts : List Token) → length (rest_of (part_of (t ∷ ts))) ≤ length ts
unfolding part_of
shorter t ts = shorter_by (is_directive t) t ts refl

total_by : (n : ℕ) (ts : List Token) → length ts < n → Rest ts
total_by zero ts le st count = absurd (omega arith)
total_by (suc n) [] le st count = at_the_end st count st.groups refl
total_by (suc n) (t ∷ ts) le st count =
    let s = shorter t ts in
    by_move st count (t ∷ ts) (total_by n (rest_of (part_of (t ∷ ts))) (omega arith)) (move st (t ∷ ts)) refl

pub some : (st : State) (count : ℕ) (ts : List Token) → (out : Expanded) × Moved st count ts out
some st count ts = total_by (suc (length ts)) ts (omega arith) st count
