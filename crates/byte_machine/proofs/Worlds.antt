-- What a row of the library does in one world and in another.
use Rattle.std.proofs.Common.{◌≡◌, ℕ, Bool, true, false, List, [], ◌∷◌, ◌++◌, take, drop, Option, None, Some, Result, Ok, Err, refl, sym, ◌∙◌, ap, append_assoc}
use Rattle.std.specs.Bool.{⊤}
use Rattle.run_meaning.specs.Runs.{Shown, on_descriptor}
use Rattle.run_meaning.specs.Worlds.{World, Input}
use Rattle.library_meaning.specs.Scan.{Found, Pair, and_then}
use Rattle.library_meaning.specs.Rows.{Row, Gives, Malformed, Check, Ask, Text, Bytes, Both, Point, Touch, Apart, Store, Show, Take, Side, Answer, answer, showing, taking, run}

-- what a row may do to a world: show bytes, and take some
abbrev pub May : Type 0 → Type 0 → Row → Type 0
May shows takes (Gives g) = ⊤
May shows takes Malformed = ⊤
May shows takes (Check exceeds next) = May shows takes next
May shows takes (Ask i next) = (n : ℕ) → May shows takes (next n)
May shows takes (Text stops from next) = (f : Found) → May shows takes (next f)
May shows takes (Bytes from next) = (bs : List ℕ) → May shows takes (next bs)
May shows takes (Both a b next) = (p : Pair) → May shows takes (next p)
May shows takes (Point pointers touched next) = May shows takes next
May shows takes (Touch all next) = May shows takes next
May shows takes (Apart strict to reads next) = May shows takes next
May shows takes (Store i k what next) = May shows takes next
May shows takes (Show d bs next) = shows × May shows takes next
May shows takes (Take n next) = takes × ((bs : List ℕ) → May shows takes (next bs))

-- an answer in another world
abbrev pub carried_to : {M E : Type 0} → (World → World) → Result (Answer M) E → Result (Answer M) E
carried_to h (Ok a) = Ok (record a { world = h a.world })
carried_to h (Err e) = Err e

-- a change of the world that shown and taken bytes respect
pub record Respects (shows takes : Type 0) (h : World → World) : Type 0 where
  pub shown : shows → (w : World) (d : ℕ) (bs : List ℕ) → showing (h w) d bs ≡ h (showing w d bs)
  pub first : takes → (w : World) (n : ℕ) → take n (h w).input.bytes ≡ take n w.input.bytes
  pub taken : takes → (w : World) (n : ℕ) → taking (h w) n ≡ h (taking w n)

carried_then : {X M E : Type 0} (h : World → World) (x : Result X E) (f g : X → Result (Answer M) E)
    → ((y : X) → f y ≡ carried_to h (g y)) → and_then x f ≡ carried_to h (and_then x g)
carried_then h (Ok y) f g same = same y
carried_then h (Err e) f g same = refl

-- a row does the same in both worlds
pub run_carried : {M E : Type 0} (shows takes : Type 0) (h : World → World) → Respects shows takes h → (side : Side M E) (row : Row)
    → May shows takes row → (m : M) (w : World) → run side row m (h w) ≡ carried_to h (run side row m w)
run_carried shows takes h is side (Gives g) may m w = refl
run_carried shows takes h is side Malformed may m w = refl
run_carried shows takes h is side (Check true next) may m w = refl
run_carried shows takes h is side (Check false next) may m w = run_carried shows takes h is side next may m w
run_carried shows takes h is side (Ask i next) may m w =
    carried_then h (side.number i) _ _ (λ n. run_carried shows takes h is side (next n) (may n) m w)
run_carried shows takes h is side (Text stops from next) may m w =
    carried_then h (side.text m stops from) _ _ (λ f. run_carried shows takes h is side (next f) (may f) m w)
run_carried shows takes h is side (Bytes from next) may m w =
    carried_then h (side.bytes m from) _ _ (λ bs. run_carried shows takes h is side (next bs) (may bs) m w)
run_carried shows takes h is side (Both a b next) may m w =
    carried_then h (side.both m a b) _ _ (λ p. run_carried shows takes h is side (next p) (may p) m w)
run_carried shows takes h is side (Point pointers touched next) may m w =
    carried_then h (side.point m pointers touched) _ _ (λ k. run_carried shows takes h is side next may k w)
run_carried shows takes h is side (Touch all next) may m w =
    carried_then h (side.touch m all) _ _ (λ k. run_carried shows takes h is side next may k w)
run_carried shows takes h is side (Apart strict to reads next) may m w =
    carried_then h (side.apart m strict to reads) _ _ (λ k. run_carried shows takes h is side next may k w)
run_carried shows takes h is side (Store i k what next) may m w =
    carried_then h (side.store m i k what) _ _ (λ l. run_carried shows takes h is side next may l w)
run_carried shows takes h is side (Show d bs next) may m w =
    ap (run side next m) (is.shown may.0 w d bs) ∙ run_carried shows takes h is side next may.1 m (showing w d bs)
run_carried shows takes h is side (Take n next) may m w =
    ap (λ bs. run side (next bs) m (taking (h w) n)) (is.first may.0 w n)
    ∙ ap (run side (next (take n w.input.bytes)) m) (is.taken may.0 w n)
    ∙ run_carried shows takes h is side (next (take n w.input.bytes)) (may.1 (take n w.input.bytes)) m (taking w n)

-- each row may show and take
pub may_all : (row : Row) → May ⊤ ⊤ row
may_all (Gives g) = tt
may_all Malformed = tt
may_all (Check exceeds next) = may_all next
may_all (Ask i next) = λ n. may_all (next n)
may_all (Text stops from next) = λ f. may_all (next f)
may_all (Bytes from next) = λ bs. may_all (next bs)
may_all (Both a b next) = λ p. may_all (next p)
may_all (Point pointers touched next) = may_all next
may_all (Touch all next) = may_all next
may_all (Apart strict to reads next) = may_all next
may_all (Store i k what next) = may_all next
may_all (Show d bs next) = (tt, may_all next)
may_all (Take n next) = (tt, λ bs. may_all (next bs))

-- bytes that were shown before
abbrev pub shown_before : Shown → World → World
shown_before front w = record w { shown = front ++ w.shown }

pub respects_shown : (front : Shown) → Respects ⊤ ⊤ (shown_before front)
respects_shown front = record {
  shown = λ yes w d bs. ap (λ shown. record w { shown = shown }) (append_assoc front w.shown (on_descriptor d bs));
  first = λ yes w n. refl;
  taken = λ yes w n. ap (λ shown. record w { input = record w.input { bytes = drop n w.input.bytes }; shown = shown })
      (append_assoc front w.shown (on_descriptor 0 (take n w.input.bytes)));
}

pub run_shown : {M E : Type 0} (front : Shown) (side : Side M E) (row : Row) (m : M) (w : World)
    → run side row m (shown_before front w) ≡ carried_to (shown_before front) (run side row m w)
run_shown front side row m w = run_carried ⊤ ⊤ (shown_before front) (respects_shown front) side row (may_all row) m w

-- another input, for rows that take nothing
abbrev pub with_input : Input → World → World
with_input input w = record w { input = input }

pub respects_input : (input : Input) → Respects ⊤ ⊥ (with_input input)
respects_input input = record { shown = λ yes w d bs. refl; first = λ no w n. absurd no; taken = λ no w n. absurd no }

-- any world, for rows that show and take nothing
pub respects_any : (v : World) → Respects ⊥ ⊥ (λ w. v)
respects_any v = record { shown = λ no w d bs. absurd no; first = λ no w n. absurd no; taken = λ no w n. absurd no }
