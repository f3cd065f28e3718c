-- Laws of rows over any memory.
use Rattle.std.proofs.Common.{◌≡◌, ◌≢◌, ℕ, Bool, true, false, List, Result, Ok, Err, refl}
use Rattle.std.specs.Prelude.{IfOk, if◌then◌else◌}
use Rattle.run_meaning.specs.Worlds.{World}
use Rattle.library_meaning.specs.Properties.{NeverChecks}
use Rattle.library_meaning.specs.Rows.{Row, Gives, Malformed, Check, Ask, Text, Bytes, Both, Point, Touch, Apart, Store, Show, Take, Side, Stretch, Touched, Stored, Answer, run, request, showing, taking}
use Rattle.library_meaning.specs.Scan.{and_then}
use Rattle.objects_on_bytes.specs.Rows.{in_world, Exceeds, OnlyExceeding, StopsAsAsked, LeavesWorld, RowLaws}

-- no act ends with the overflow
pub record NoActOverflows {M E : Type 0} (side : Side M E) : Type 0 where
  pub number : (i : ℕ) → side.number i ≢ Err side.overflow
  pub text : (m : M) (stops : ℕ → Bool) (from : Stretch) → side.text m stops from ≢ Err side.overflow
  pub bytes : (m : M) (from : List Stretch) → side.bytes m from ≢ Err side.overflow
  pub both : (m : M) (a b : ℕ) → side.both m a b ≢ Err side.overflow
  pub point : (m : M) (pointers touched : List ℕ) → side.point m pointers touched ≢ Err side.overflow
  pub touch : (m : M) (all : List Touched) → side.touch m all ≢ Err side.overflow
  pub apart : (m : M) (strict : Bool) (to : Stretch) (from : List Stretch) → side.apart m strict to from ≢ Err side.overflow
  pub store : (m : M) (i k : ℕ) (what : Stored) → side.store m i k what ≢ Err side.overflow
  pub format : side.bad_format ≢ side.overflow

on_ok : {X A E : Type 0} (r : Result X E) (f : X → Result Bool E) (g : X → Result A E) (e : E) → ((x : X) → IfOk (f x) (λ t. t ≡ true → g x ≡ Err e)) → IfOk (and_then r f) (λ t. t ≡ true → and_then r g ≡ Err e)
on_ok (Ok x) f g e h = h x
on_ok (Err z) f g e h = tt

on_err : {X A B E : Type 0} (r : Result X E) (f : X → Result B E) (g : X → Result A E) (e : E) → ((x : X) → f x ≡ Err e → g x ≡ Err e) → and_then r f ≡ Err e → and_then r g ≡ Err e
on_err (Ok x) f g e h k = h x k
on_err (Err z) f g e h k = cc

same_world : {X M E : Type 0} (w : World) (r : Result X E) (f g : X → Result (Answer M) E) → ((x : X) → f x ≡ in_world w (g x)) → and_then r f ≡ in_world w (and_then r g)
same_world w (Ok x) f g h = h x
same_world w (Err e) f g h = refl

module _ (M E : Type 0) (side : Side M E) where
  exceeds_is : (row : Row) (m : M) (w : World) → Exceeds side row m w
  exceeds_is (Gives g) m w = λ e. absurd (cc)
  exceeds_is Malformed m w = tt
  exceeds_is (Check t next) m w = λ e. rw e refl
  exceeds_is (Ask i next) m w = on_ok (side.number i) _ _ side.overflow (λ n. exceeds_is (next n) m w)
  exceeds_is (Text stops from next) m w = on_ok (side.text m stops from) _ _ side.overflow (λ f. exceeds_is (next f) m w)
  exceeds_is (Bytes from next) m w = on_ok (side.bytes m from) _ _ side.overflow (λ bs. exceeds_is (next bs) m w)
  exceeds_is (Both a b next) m w = on_ok (side.both m a b) _ _ side.overflow (λ p. exceeds_is (next p) m w)
  exceeds_is (Point pointers touched next) m w = on_ok (side.point m pointers touched) _ _ side.overflow (λ k. exceeds_is next k w)
  exceeds_is (Touch all next) m w = on_ok (side.touch m all) _ _ side.overflow (λ k. exceeds_is next k w)
  exceeds_is (Apart strict to from next) m w = on_ok (side.apart m strict to from) _ _ side.overflow (λ k. exceeds_is next k w)
  exceeds_is (Store i k what next) m w = on_ok (side.store m i k what) _ _ side.overflow (λ l. exceeds_is next l w)
  exceeds_is (Show d bs next) m w = exceeds_is next m (showing w d bs)
  exceeds_is (Take n next) m w = exceeds_is (next _) m (taking w n)

  stops_is : (row : Row) (m : M) (w : World) → StopsAsAsked side row m w
  stops_is (Gives g) m w = λ e h. absurd (cc)
  stops_is Malformed m w = λ e h. on_err (Err side.bad_format) (λ b. Ok b) (λ a. Err side.bad_format) e (λ x k. absurd (cc)) h
  stops_is (Check t next) m w = λ e h. absurd (cc)
  stops_is (Ask i next) m w = λ e. on_err (side.number i) _ _ e (λ n. stops_is (next n) m w e)
  stops_is (Text stops from next) m w = λ e. on_err (side.text m stops from) _ _ e (λ f. stops_is (next f) m w e)
  stops_is (Bytes from next) m w = λ e. on_err (side.bytes m from) _ _ e (λ bs. stops_is (next bs) m w e)
  stops_is (Both a b next) m w = λ e. on_err (side.both m a b) _ _ e (λ p. stops_is (next p) m w e)
  stops_is (Point pointers touched next) m w = λ e. on_err (side.point m pointers touched) _ _ e (λ k. stops_is next k w e)
  stops_is (Touch all next) m w = λ e. on_err (side.touch m all) _ _ e (λ k. stops_is next k w e)
  stops_is (Apart strict to from next) m w = λ e. on_err (side.apart m strict to from) _ _ e (λ k. stops_is next k w e)
  stops_is (Store i k what next) m w = λ e. on_err (side.store m i k what) _ _ e (λ l. stops_is next l w e)
  stops_is (Show d bs next) m w = stops_is next m (showing w d bs)
  stops_is (Take n next) m w = stops_is (next _) m (taking w n)

  if_same : (t : Bool) (w : World) (e : E) (a b : Result (Answer M) E) → a ≡ in_world w b → (if t then Err e else a) ≡ in_world w (if t then Err e else b)
  if_same true w e a b h = refl
  if_same false w e a b h = h

  silent_is : (row : Row) (m : M) (w : World) → LeavesWorld side row m w
  silent_is (Gives g) m w = λ s. refl
  silent_is Malformed m w = λ s. refl
  silent_is (Check t next) m w = λ s. if_same t w side.overflow _ _ (silent_is next m w s)
  silent_is (Ask i next) m w = λ s. same_world w (side.number i) _ _ (λ n. silent_is (next n) m w (s n))
  silent_is (Text stops from next) m w = λ s. same_world w (side.text m stops from) _ _ (λ f. silent_is (next f) m w (s f))
  silent_is (Bytes from next) m w = λ s. same_world w (side.bytes m from) _ _ (λ bs. silent_is (next bs) m w (s bs))
  silent_is (Both a b next) m w = λ s. same_world w (side.both m a b) _ _ (λ p. silent_is (next p) m w (s p))
  silent_is (Point pointers touched next) m w = λ s. same_world w (side.point m pointers touched) _ _ (λ k. silent_is next k w s)
  silent_is (Touch all next) m w = λ s. same_world w (side.touch m all) _ _ (λ k. silent_is next k w s)
  silent_is (Apart strict to from next) m w = λ s. same_world w (side.apart m strict to from) _ _ (λ k. silent_is next k w s)
  silent_is (Store i k what next) m w = λ s. same_world w (side.store m i k what) _ _ (λ l. silent_is next l w s)
  silent_is (Show d bs next) m w = λ s. absurd s
  silent_is (Take n next) m w = λ s. absurd s

  -- ---- where no act gives the overflow itself

  module _ (acts : NoActOverflows side) where
    past : {X A : Type 0} (r : Result X E) (f : X → Result A E) → r ≢ Err side.overflow → ((x : X) → f x ≢ Err side.overflow) → and_then r f ≢ Err side.overflow
    past (Ok x) f h k = k x
    past (Err e) f h k = λ q. h (cc)

    past_ok : {X A : Type 0} (r : Result X E) (f : X → Result A E) (g : X → Result Bool E) → r ≢ Err side.overflow → ((x : X) → f x ≡ Err side.overflow → g x ≡ Ok true) → and_then r f ≡ Err side.overflow → and_then r g ≡ Ok true
    past_ok (Ok x) f g h k = k x
    past_ok (Err e) f g h k = λ q. absurd (h (cc))

    never : (row : Row) (m : M) (w : World) → NeverChecks row → run side row m w ≢ Err side.overflow
    never (Gives g) m w n = λ q. absurd (cc)
    never Malformed m w n = λ q. acts.format (cc)
    never (Check t next) m w n = absurd n
    never (Ask i next) m w n = past (side.number i) _ (acts.number i) (λ x. never (next x) m w (n x))
    never (Text stops from next) m w n = past (side.text m stops from) _ (acts.text m stops from) (λ f. never (next f) m w (n f))
    never (Bytes from next) m w n = past (side.bytes m from) _ (acts.bytes m from) (λ bs. never (next bs) m w (n bs))
    never (Both a b next) m w n = past (side.both m a b) _ (acts.both m a b) (λ p. never (next p) m w (n p))
    never (Point pointers touched next) m w n = past (side.point m pointers touched) _ (acts.point m pointers touched) (λ k. never next k w n)
    never (Touch all next) m w n = past (side.touch m all) _ (acts.touch m all) (λ k. never next k w n)
    never (Apart strict to from next) m w n = past (side.apart m strict to from) _ (acts.apart m strict to from) (λ k. never next k w n)
    never (Store i k what next) m w n = past (side.store m i k what) _ (acts.store m i k what) (λ l. never next l w n)
    never (Show d bs next) m w n = never next m (showing w d bs) n
    never (Take c next) m w n = never (next _) m (taking w c) (n _)

    only_is : (row : Row) (m : M) (w : World) → OnlyExceeding side row m w
    only_is (Gives g) m w = λ c. absurd c
    only_is Malformed m w = λ c q. absurd (acts.format (cc))
    only_is (Check true next) m w = λ c q. refl
    only_is (Check false next) m w = λ c q. absurd (never next m w c q)
    only_is (Ask i next) m w = λ c. past_ok (side.number i) _ _ (acts.number i) (λ x. only_is (next x) m w (c x))
    only_is (Text stops from next) m w = λ c. past_ok (side.text m stops from) _ _ (acts.text m stops from) (λ f. only_is (next f) m w (c f))
    only_is (Bytes from next) m w = λ c. past_ok (side.bytes m from) _ _ (acts.bytes m from) (λ bs. only_is (next bs) m w (c bs))
    only_is (Both a b next) m w = λ c. past_ok (side.both m a b) _ _ (acts.both m a b) (λ p. only_is (next p) m w (c p))
    only_is (Point pointers touched next) m w = λ c. past_ok (side.point m pointers touched) _ _ (acts.point m pointers touched) (λ k. only_is next k w c)
    only_is (Touch all next) m w = λ c. absurd c
    only_is (Apart strict to from next) m w = λ c. absurd c
    only_is (Store i k what next) m w = λ c. absurd c
    only_is (Show d bs next) m w = λ c. absurd c
    only_is (Take n next) m w = λ c. absurd c

    pub row_laws : (row : Row) (m : M) (w : World) → RowLaws side row m w
    row_laws row m w = record { exceeds = exceeds_is row m w; only = only_is row m w; stops = stops_is row m w; silent = silent_is row m w }
