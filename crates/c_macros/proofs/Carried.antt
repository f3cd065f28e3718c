-- What the loop over directives and texts keeps: whatever the rest comes to completes the whole.
use Rattle.std.proofs.Common.{◌≡◌, ℕ, ◌+◌, true, false, List, [], ◌++◌, take, drop, get_or, map, Result, Ok, Err, refl, sym, ap, ◌∙◌, append_assoc}
use Rattle.std.proofs.lemmas.List.{append-nil}
use Rattle.fc_base.specs.Answers.{Answers, Fails}
use Rattle.fc_base.specs.declared.Fault.{Fault}
use Rattle.fc_base.specs.declared.Fault.TheVariants.{Refused, NoMemory}
use Rattle.c_tokens.specs.declared.Token.{Token}
use Rattle.macro_replacement.specs.Replacing.{AddsAs}
use Rattle.macro_meaning.specs.Macros.{token, items}
use Rattle.macro_meaning.specs.Lines.{part_of, rest_of, nothing}
use Rattle.macro_meaning.specs.Moves.{State, refuses, goes, moves, expands, move, takes, on_part, on_directive, at_end}
use Rattle.macro_meaning.specs.Expansion.{Expanded, behind, Comes, at_once, text as by_text, refused_text, Moved, ends, moved, stops, goes_on}
use Rattle.macro_lines.specs.declared.GroupPart.TheVariants.{Text, Line}
use Rattle.macro_lines.specs.Lines.{PartIs}
use Rattle.c_macros.specs.States.{EndsAs}
use Rattle.c_macros.specs.Doing.{DoesAs}

behind_more : (a b : List Token) (out : Expanded) → behind (a ++ b) out ≡ behind a (behind b out)
behind_more a b (Ok ts) = ap (λ (xs : List Token). Ok xs) (append_assoc a b ts)
behind_more a b (Err e) = refl

pub record Carries (start : State) (from : ℕ) (all before : List Token) (st : State) (count : ℕ) (rest : List Token) : Type 0 where
  pub carries : (out : Expanded) → Moved st count rest out → Moved start from all (behind before out)

module _ (start : State) (from : ℕ) (all before : List Token) (st : State) (count : ℕ) (ts : List Token)
    (k : Carries start from all before st count ts) where
  -- a part that goes on
  pub carried : (st' : State) (after : List Token) (c : ℕ) → DoesAs (Ok c) st count (move st ts) st' before after
      → Carries start from all after st' c (rest_of (part_of ts))
  carried st' after c d =
      rw d.1 (record { carries = λ out r. rw (behind_more before d.0 out) (k.carries (behind d.0 out) (moved d.2 (goes_on r))) })

  -- a part that is refused
  pub stopped : (f : Fault) (st' : State) (after : List Token) → DoesAs (Err f) st count (move st ts) st' before after
      → Fails f (Moved start from all)
  stopped NoMemory st' after d = tt
  stopped (Refused e) st' after d = k.carries (Err e) (moved d.1 stops)

  -- the end
  pub finished : (r : Result (Unit {0}) Fault) → part_of ts ≡ nothing → EndsAs r (at_end st.groups)
      → Answers (λ u. before) r (Moved start from all)
  finished (Ok u) f e =
      let r : Moved start from all (Ok (before ++ [])) = k.carries (Ok []) (ends (ap (on_part st) f ∙ e)) in
      rw append-nil at r
  finished (Err NoMemory) f e = tt
  finished (Err (Refused q)) f e =
      let m : move st ts ≡ moves (refuses q) = ap (on_part st) f ∙ e in
      let x : Comes st count (move st ts) (refuses q) count = rw m at_once in k.carries (Err q) (moved x stops)

-- ---- parts

module _ (ts : List Token) (n : ℕ) where
  pub text_rest : PartIs ts (Text n) → rest_of (part_of ts) ≡ drop n ts
  text_rest p = ap rest_of p.0

  pub line_rest : PartIs ts (Line n) → rest_of (part_of ts) ≡ drop (n + 1) ts
  line_rest p = ap rest_of p.1

  module _ (st : State) (count : ℕ) (before after : List Token) where
    pub skipped_text : PartIs ts (Text n) → takes st.groups ≡ false → DoesAs (Ok count) st count (move st ts) st before before
    skipped_text p e =
        let m : move st ts ≡ moves (goes st []) = ap (on_part st) p.0 ∙ rw e refl in
        ([], sym (append-nil before), rw m at_once)

    taken_move : PartIs ts (Text n) → takes st.groups ≡ true → move st ts ≡ expands (take n ts)
    taken_move p e = ap (on_part st) p.0 ∙ rw e refl

    pub taken_text : PartIs ts (Text n) → takes st.groups ≡ true → (r : Result ℕ Fault)
        → AddsAs r st.macros count (items (take n ts)) before after → DoesAs r st count (move st ts) st before after
    taken_text p e (Ok c) t = (map token t.0, t.1, rw (taken_move p e) (by_text t.2))
    taken_text p e (Err NoMemory) t = tt
    taken_text p e (Err (Refused q)) t = (count, rw (taken_move p e) (refused_text t))

    line_move : PartIs ts (Line n) → (h : Token) → h ≡ get_or ts 0 h → move st ts ≡ on_directive st h (take n (drop 1 ts))
    line_move p h e =
        let same : h ≡ p.0 = e ∙ ap (λ (xs : List Token). get_or xs 0 h) p.2 in
        ap (on_part st) p.1 ∙ ap (λ (t : Token). on_directive st t (take n (drop 1 ts))) (sym same)

    pub line_does : PartIs ts (Line n) → (h : Token) → h ≡ get_or ts 0 h → (r : Result ℕ Fault) (st' : State)
        → DoesAs r st count (on_directive st h (take n (drop 1 ts))) st' before after
        → DoesAs r st count (move st ts) st' before after
    line_does p h e r st' d = rw (line_move p h e) d
