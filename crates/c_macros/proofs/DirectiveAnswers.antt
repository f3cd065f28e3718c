-- What directives give, and to what they come.
use Rattle.std.proofs.Common.{◌≡◌, ℕ, true, false, if◌then◌else◌, ◌<◌, List, [], ◌∷◌, ◌++◌, length, get_or, drop, reverse, Option, Result, Ok, Err, refl, sym, ap, subst, ◌∙◌, ◌==◌, arith}
use Rattle.std.specs.Prelude.{option_to_list}
use Rattle.std.proofs.lemmas.List.{append-nil, reverse-append}
use Rattle.std.proofs.lemmas.Bool.Decides.{nat_tests}
use Rattle.fc_base.specs.declared.Place.{Place}
use Rattle.fc_base.specs.declared.Rule.{Rule}
use Rattle.fc_base.specs.declared.Rule.TheVariants.{OpenConditional, UnknownDirective}
use Rattle.fc_base.specs.declared.Fault.{Fault}
use Rattle.fc_base.specs.declared.Fault.TheVariants.{Refused, NoMemory}
use Rattle.c_tokens.specs.declared.Token.{Token}
use Rattle.macro_meaning.specs.declared.Group.{Group}
use Rattle.macro_meaning.specs.declared.Word.{Word}
use Rattle.macro_meaning.specs.declared.Word.TheVariants as word
use Rattle.macro_meaning.specs.declared.GroupState.TheVariants.{Over}
use Rattle.macro_meaning.specs.Lines.{directive_word}
use Rattle.macro_meaning.specs.Moves.{State, Next, goes, Move, moves, decides, on_elif, waits, with_groups, refused, takes, by_word, on_directive, taken_directive, skipped_directive, outermost, at_end, over}
use Rattle.macro_meaning.specs.Expansion.{Comes, at_once}
use Rattle.c_macros.specs.States.{GoesAs}
use Rattle.macro_lines.specs.Conditions.{HoldsAs}
use Rattle.c_macros.specs.Doing.{DoesAs}

module _ (from : State) (count : ℕ) (st : State) (n : Next) (before : List Token) where
  pub gives_nothing : n ≡ goes st [] → DoesAs (Ok count) from count (moves n) st before before
  gives_nothing e = ([], sym (append-nil before), rw e at_once)

  pub gives_one : (t : Token) (after : List Token) → n ≡ goes st (t ∷ []) → after ≡ before ++ t ∷ []
      → DoesAs (Ok count) from count (moves n) st before after
  gives_one t after e a = (t ∷ [], a, rw e at_once)

  pub gives_fault : (f : Fault) (after : List Token) → GoesAs {X = Option Token} (Err f) option_to_list st n
      → DoesAs (Err f) from count (moves n) st before after
  gives_fault NoMemory after g = tt
  gives_fault (Refused e) after g = (count, rw g at_once)

link : {from : State} {count c d : ℕ} {m : Move} {n k : Next} → Comes from count m n c → Comes from c (moves n) k d → Comes from count m k d
link x at_once = x

-- a move that comes to a next, from where a function goes on
pub chain : {from : State} {count c : ℕ} {m : Move} {n : Next} → Comes from count m n c
    → (r : Result ℕ Fault) (st : State) (before after : List Token)
    → DoesAs r from c (moves n) st before after → DoesAs r from count m st before after
chain x (Ok d) st before after y = (y.0, y.1, link x y.2)
chain x (Err NoMemory) st before after y = tt
chain x (Err (Refused e)) st before after y = (y.0, link x y.1)

-- a condition that is not decided
pub no_condition : (from : State) (count : ℕ) (place : Place) (line : List Token) (g : Group) (gs : List Group) (f : Fault)
    → HoldsAs (Err f) from.macros count place line → (st : State) (before after : List Token)
    → DoesAs (Err f) from count (decides place line g gs) st before after
no_condition from count place line g gs NoMemory h st before after = tt
no_condition from count place line g gs (Refused e) h st before after = h from g gs refl

pub refuses_at : (from : State) (count : ℕ) (rule : Rule) (place : Place) (m : Move) (st : State) (before after : List Token)
    → m ≡ moves (refused rule place)
    → DoesAs (Err (Refused (record { rule = rule; place = place }))) from count m st before after
refuses_at from count rule place m st before after h = (count, rw h at_once)

-- ---- the groups, where the innermost one is the last item

pub no_groups : (gs : List Group) → length gs ≡ 0 → reverse gs ≡ []
no_groups [] e = refl
no_groups (g ∷ gs) e = cc

module _ (st : State) (place : Place) (line : List Token) (gs new : List Group) (g : Group) (e : gs ≡ new ++ g ∷ []) where
  popped : reverse gs ≡ g ∷ reverse new
  popped = ap reverse e ∙ reverse-append new (g ∷ [])

  pub after_else : g.had_else ≡ true → on_elif st place line (reverse gs) ≡ moves (refused OpenConditional place)
  after_else h = ap (on_elif st place line) popped ∙ rw h refl

  pub no_more : g.had_else ≡ false → waits g.state ≡ false
      → on_elif st place line (reverse gs) ≡ moves (with_groups st (record g { state = Over } ∷ reverse new))
  no_more h w = ap (on_elif st place line) popped ∙ rw (h, w) refl

  pub asks : g.had_else ≡ false → waits g.state ≡ true → on_elif st place line (reverse gs) ≡ decides place line g (reverse new)
  asks h w = ap (on_elif st place line) popped ∙ rw (h, w) refl

-- ---- words

module _ (st : State) (hash : Token) (line : List Token) where
  pub skips : (w : Word) → (w ≡ word.If → ⊥) → (w ≡ word.Ifdef → ⊥) → (w ≡ word.Ifndef → ⊥)
      → skipped_directive st hash w ≡ moves (goes st [])
  skips word.If a b c = absurd (a refl)
  skips word.Ifdef a b c = absurd (b refl)
  skips word.Ifndef a b c = absurd (c refl)
  skips _ a b c = refl

  pub unknown : (w : Word) → (w ≡ word.If → ⊥) → (w ≡ word.Ifdef → ⊥) → (w ≡ word.Ifndef → ⊥) → (w ≡ word.Include → ⊥)
      → (w ≡ word.Define → ⊥) → (w ≡ word.Undef → ⊥)
      → taken_directive st hash line w ≡ moves (refused UnknownDirective hash.place)
  unknown word.If a b c d e f = absurd (a refl)
  unknown word.Ifdef a b c d e f = absurd (b refl)
  unknown word.Ifndef a b c d e f = absurd (c refl)
  unknown word.Include a b c d e f = absurd (d refl)
  unknown word.Define a b c d e f = absurd (e refl)
  unknown word.Undef a b c d e f = absurd (f refl)
  unknown _ a b c d e f = refl

pub alone : (st : State) (hash : Token) (line : List Token) → length line ≡ 0 → on_directive st hash line ≡ moves (goes st [])
alone st hash [] e = refl
alone st hash (t ∷ ts) e = cc

module _ (st : State) (hash : Token) (line : List Token) (d : Token) (lt : 0 < length line) (w : Word)
    (is : w ≡ directive_word (get_or line 0 d).kind) where
  by : on_directive st hash line ≡ by_word st hash (drop 1 line) w
  by = go line lt is
    where
      go : (ts : List Token) → 0 < length ts → w ≡ directive_word (get_or ts 0 d).kind
          → on_directive st hash ts ≡ by_word st hash (drop 1 ts) w
      go [] l e = absurd (omega arith)
      go (t ∷ ts) l e = ap (by_word st hash ts) (sym e)

  other_word : (v : Word) → (v ≡ word.Elif → ⊥) → (v ≡ word.Else → ⊥) → (v ≡ word.Endif → ⊥)
      → by_word st hash (drop 1 line) v ≡ (if takes st.groups then taken_directive st hash (drop 1 line) v else skipped_directive st hash v)
  other_word word.Elif a b c = absurd (a refl)
  other_word word.Else a b c = absurd (b refl)
  other_word word.Endif a b c = absurd (c refl)
  other_word _ a b c = refl

  pub where_taken : (w ≡ word.Elif → ⊥) → (w ≡ word.Else → ⊥) → (w ≡ word.Endif → ⊥) → takes st.groups ≡ true
      → on_directive st hash line ≡ taken_directive st hash (drop 1 line) w
  where_taken a b c t = by ∙ other_word w a b c ∙ rw t refl

  pub where_skipped : (w ≡ word.Elif → ⊥) → (w ≡ word.Else → ⊥) → (w ≡ word.Endif → ⊥) → takes st.groups ≡ false
      → on_directive st hash line ≡ skipped_directive st hash w
  where_skipped a b c t = by ∙ other_word w a b c ∙ rw t refl

  pub at_word : on_directive st hash line ≡ by_word st hash (drop 1 line) w
  at_word = by

pub same_move : (from : State) (count : ℕ) (r : Result ℕ Fault) (m m' : Move) (st : State) (before after : List Token) → m ≡ m'
    → DoesAs r from count m' st before after → DoesAs r from count m st before after
same_move from count r m m' st before after h d = rw h d

pub other_line : (r : Result ℕ Fault) (from : State) (count : ℕ) (place : Place) (line line' : List Token) (gs : List Group) (new : State)
    (before after : List Token) → line ≡ line'
    → DoesAs r from count (on_elif from place line gs) new before after → DoesAs r from count (on_elif from place line' gs) new before after
other_line r from count place line line' gs new before after e d =
    subst (λ (x : List Token). DoesAs r from count (on_elif from place x gs) new before after) e d

-- ---- the end of the list

outermost_is : (h : Group) (hs : List Group) (g : Group) → outermost h (hs ++ g ∷ []) ≡ g
outermost_is h [] g = refl
outermost_is h (i ∷ is) g = outermost_is i is g

last_group : (gs : List Group) (g : Group) → at_end (gs ++ g ∷ []) ≡ moves (refused OpenConditional g.place)
last_group [] g = refl
last_group (h ∷ hs) g = ap (λ (x : Group). moves (refused OpenConditional x.place)) (outermost_is h hs g)

pub first_open : (gs : List Group) (d : Group) → 0 < length gs → at_end (reverse gs) ≡ moves (refused OpenConditional (get_or gs 0 d).place)
first_open [] d lt = absurd (omega arith)
first_open (g ∷ gs) d lt = ap at_end (reverse-append (g ∷ []) gs) ∙ last_group (reverse gs) g

pub none_open : (gs : List Group) → length gs ≡ 0 → at_end (reverse gs) ≡ over
none_open gs e = ap at_end (no_groups gs e)

pub some_group : (gs : List Group) → (length gs == 0) ≡ false → 0 < length gs
some_group gs e = grind (arith, nat_tests)

pub no_group : (gs : List Group) → (length gs == 0) ≡ true → length gs ≡ 0
no_group gs e = grind (arith, nat_tests)
