-- Actions that do the same with more steps, and go on where a step was wanted: what is left of two runs of one text at two bounds. At one
-- bound they come to the same.
use Rattle.std.proofs.Common.{◌≡◌, ℕ, zero, suc, ◌+◌, ◌-◌, ◌<◌, ◌≤◌, List, [], ◌∷◌, ◌++◌, refl, sym, ap, subst, ◌∙◌, append_assoc, arith}
use Rattle.std.specs.Prelude.{Result, Ok, Err}
use Rattle.std.proofs.lemmas.List.{append-nil}
use Rattle.fc_base.specs.Outside.{IsFront}
use Rattle.fc_base.specs.declared.refusals.Place.{Place}
use Rattle.fc_base.specs.declared.undefined.UndefKind.{UndefKind}
use Rattle.run_meaning.specs.Events.{Event}
use Rattle.run_meaning.specs.Runs.{Standing, Undefined, Going}
use Rattle.object_meaning.specs.Objects.{Object}
use Rattle.object_meaning.specs.Touches.{Test, tested}
use Rattle.plain_meaning.specs.Actions.{State, Outcome, On, Stop, bind, Action, ◌>>=◌, ◌>>◌, pure, look, change, stop, defined, passes, note, step, argument_standing, argument_outcome, as_argument, set_objects, Variable, set_variable}

-- ---- fronts of lists

module _ {A : Type 0} where
  pub front_self : (xs : List A) → IsFront xs xs
  front_self xs = ([], sym (append-nil xs))

  pub front_of : (xs more : List A) → IsFront xs (xs ++ more)
  front_of xs more = (more, refl)

  pub front_then : (a b c : List A) → IsFront a b → IsFront b c → IsFront a c
  front_then a b c f g = (f.0 ++ g.0, g.1 ∙ ap (λ x. x ++ g.0) f.1 ∙ append_assoc a f.0 g.0)

  pub front_behind : (before a b : List A) → IsFront a b → IsFront (before ++ a) (before ++ b)
  front_behind before a b f = (f.0, ap (λ x. before ++ x) f.1 ∙ sym (append_assoc before a f.0))

-- ---- outcomes

-- the events of an outcome
abbrev pub events_of : {A : Type 0} → Outcome A → List Event
events_of (On value s left) = s.events
events_of (Stop events standing) = events

-- Behind these events, with n steps left and with m: the second outcome is the first, where as many steps were taken, or the first wanted a
-- step that the second has
pub data Later {A : Type 0} (events : List Event) (n m : ℕ) : Outcome A → Outcome A → Type 0 where
  on : (value : A) (s : State) (i j : ℕ) → i ≤ n → i + m ≡ j + n → IsFront events s.events → Later events n m (On value s i) (On value s j)
  over : (more : List Event) (standing : Standing) → IsFront events more → Later events n m (Stop more standing) (Stop more standing)
  going : (more : List Event) (other : Outcome A) → n < m → IsFront events more → IsFront more (events_of other)
      → Later events n m (Stop more Going) other

-- the second action extends the first, where fewer than `low` steps are left of the one and fewer than `high` of the other
pub record Extends (low high : ℕ) {A : Type 0} (a b : Action A) : Type 0 where
  pub later : (s : State) (n m : ℕ) → n ≤ m → n < low → m < high → Later s.events n m (a s n) (b s m)
  pub grows : (s : State) (m : ℕ) → IsFront s.events (events_of (b s m))

module _ {A : Type 0} where
  -- behind fewer events, and with more steps left
  later_more : (a b : List Event) (n m i j : ℕ) (o p : Outcome A) → IsFront a b → i ≤ n → i + m ≡ j + n → Later b i j o p → Later a n m o p
  later_more a b n m i j _ _ f le is (on value s x y under taken g) =
      on value s x y (omega (arith, le, under)) (omega (arith, is, taken)) (front_then a b s.events f g)
  later_more a b n m i j _ _ f le is (over more standing g) = over more standing (front_then a b more f g)
  later_more a b n m i j _ _ f le is (going more other lt g h) = going more other (omega (arith, is, lt)) (front_then a b more f g) h

  -- with as many steps left nothing goes on: both come to the same
  pub later_same : (events : List Event) (n : ℕ) (o p : Outcome A) → Later events n n o p → o ≡ p
  later_same events n _ _ (on value s i j le is front) = let same : i ≡ j = omega (arith, is) in ap (λ k. On value s k) same
  later_same events n _ _ (over more standing front) = refl
  later_same events n _ _ (going more other lt front next) = absurd (omega (arith, lt))

  pub extends_same : {low high : ℕ} (a b : Action A) (s : State) (n : ℕ) → n < low → n < high → Extends low high a b → a s n ≡ b s n
  extends_same a b s n l h both = later_same s.events n (a s n) (b s n) (both.later s n n (omega arith) l h)

  -- nearer bounds
  pub extends_below : {low high near far : ℕ} (a b : Action A) → near ≤ low → far ≤ high → Extends low high a b → Extends near far a b
  extends_below a b l h both = record {
    later = λ s n m le under over. both.later s n m le (omega (arith, l, under)) (omega (arith, h, over));
    grows = both.grows;
  }

  -- bounds below which there is nothing
  pub extends_none : {low high : ℕ} (a b : Action A) → ((n m : ℕ) → n < low → m < high → ⊥)
      → ((s : State) (m : ℕ) → IsFront s.events (events_of (b s m)))
      → Extends low high a b
  extends_none a b never more = record { later = λ s n m le l h. absurd (never n m l h); grows = more }

-- ---- one action behind another

module _ {A B : Type 0} where
  grows_bind : (events : List Event) (o : Outcome A) (g : A → Action B) → IsFront events (events_of o)
      → ((v : A) (s : State) (m : ℕ) → IsFront s.events (events_of (g v s m))) → IsFront events (events_of (bind o g))
  grows_bind events (On v s m) g f h = front_then events s.events (events_of (g v s m)) f (h v s m)
  grows_bind events (Stop more standing) g f h = f

  later_bind : (low high : ℕ) (events : List Event) (n m : ℕ) (o p : Outcome A) (f g : A → Action B) → n ≤ m → n < low → m < high
      → Later events n m o p → ((v : A) → Extends low high (f v) (g v)) → Later events n m (bind o f) (bind p g)
  later_bind low high events n m _ _ f g le l r (on v s i j under is front) h =
      later_more events s.events n m i j (f v s i) (g v s j) front under is
      ((h v).later s i j (omega (arith, le, is)) (omega (arith, under, l)) (omega (arith, under, is, r)))
  later_bind low high events n m _ _ f g le l r (over more standing front) h = over more standing front
  later_bind low high events n m _ _ f g le l r (going more other lt front next) h =
      going more (bind other g) lt front (grows_bind more other g next (λ v. (h v).grows))

  pub extends_bind : {low high : ℕ} (a b : Action A) (f g : A → Action B) → Extends low high a b → ((v : A) → Extends low high (f v) (g v))
      → Extends low high (a >>= f) (b >>= g)
  extends_bind {low} {high} a b f g first rest = record {
    later = λ s n m le l h. later_bind low high s.events n m (a s n) (b s m) f g le l h (first.later s n m le l h) rest;
    grows = λ s m. grows_bind s.events (b s m) g (first.grows s m) (λ v. (rest v).grows);
  }

  pub extends_then : {low high : ℕ} (a b : Action A) (f g : Action B) → Extends low high a b → Extends low high f g
      → Extends low high (a >> f) (b >> g)
  extends_then a b f g first rest = extends_bind a b (λ v. f) (λ v. g) first (λ v. rest)

module _ {A B C : Type 0} where
  bind_bind : (o : Outcome A) (f : A → Action B) (g : B → Action C) → bind o (λ v. f v >>= g) ≡ bind (bind o f) g
  bind_bind (On v s l) f g = refl
  bind_bind (Stop events standing) f g = refl

  pub assoc : (a : Action A) (f : A → Action B) (g : B → Action C) → (a >>= (λ v. f v >>= g)) ≡ ((a >>= f) >>= g)
  assoc a f g i s l = bind_bind (a s l) f g i

-- ---- single actions

-- one that goes on and takes no step
goes_on : {A : Type 0} (value : A) (s t : State) (n m : ℕ) → IsFront s.events t.events → Later s.events n m (On value t n) (On value t m)
goes_on value s t n m front = on value t n m (omega arith) (omega arith) front

module _ {low high : ℕ} where
  module _ {A : Type 0} where
    pub extends_pure : (v : A) → Extends low high (pure v) (pure v)
    extends_pure v = record {
      later = λ s n m le l h. goes_on v s s n m (front_self s.events);
      grows = λ s m. front_self s.events;
    }

    pub extends_look : (what : State → A) → Extends low high (look what) (look what)
    extends_look what = record {
      later = λ s n m le l h. goes_on (what s) s s n m (front_self s.events);
      grows = λ s m. front_self s.events;
    }

    pub extends_stop : (standing : Standing) → Extends low high {A = A} (stop standing) (stop standing)
    extends_stop standing = record {
      later = λ s n m le l h. over s.events standing (front_self s.events);
      grows = λ s m. front_self s.events;
    }

    pub extends_defined : (at : Place) (result : Result A UndefKind) → Extends low high (defined at result) (defined at result)
    extends_defined at (Ok a) = extends_pure a
    extends_defined at (Err kind) = extends_stop (Undefined kind at)

  pub extends_passes : (at : Place) (tests : List Test) → Extends low high (passes at tests) (passes at tests)
  extends_passes at tests = extends_defined at (tested tests (Ok tt))

  pub extends_change : (what : State → State) → ((s : State) → IsFront s.events (what s).events)
      → Extends low high (change what) (change what)
  extends_change what more = record {
    later = λ s n m le l h. goes_on tt s (what s) n m (more s);
    grows = λ s m. more s;
  }

  pub extends_note : (event : Event) → Extends low high (note event) (note event)
  extends_note event = extends_change _ (λ s. front_of s.events (event ∷ []))

  pub extends_set_objects : (objs : List Object) → Extends low high (set_objects objs) (set_objects objs)
  extends_set_objects objs = extends_change _ (λ s. front_self s.events)

  pub extends_set_variable : (n : ℕ) (variable : Variable) → Extends low high (set_variable n variable) (set_variable n variable)
  extends_set_variable n variable = extends_change _ (λ s. front_self s.events)

-- ---- a step

module _ {A : Type 0} where
  stepped_grows : (a : Action A) → ((s : State) (m : ℕ) → IsFront s.events (events_of (a s m))) → (s : State) (m : ℕ)
      → IsFront s.events (events_of ((step >> a) s m))
  stepped_grows a h s zero = front_self s.events
  stepped_grows a h s (suc m) = h s m

  stepped_later : (low high : ℕ) (a b : Action A) → Extends (low - 1) (high - 1) a b → (s : State) (n m : ℕ) → n ≤ m → n < low → m < high
      → Later s.events n m ((step >> a) s n) ((step >> b) s m)
  stepped_later low high a b both s zero zero le l h = over s.events Going (front_self s.events)
  stepped_later low high a b both s zero (suc m) le l h =
      going s.events (b s m) (omega arith) (front_self s.events) (stepped_grows b both.grows s (suc m))
  stepped_later low high a b both s (suc n) zero le l h = absurd (omega (arith, le))
  stepped_later low high a b both s (suc n) (suc m) le l h =
      later_more s.events s.events (suc n) (suc m) n m (a s n) (b s m) (front_self s.events) (omega arith) (omega arith)
      (both.later s n m (omega (arith, le)) (omega (arith, l)) (omega (arith, h)))

  -- behind a step one less is left
  pub extends_step : {low high : ℕ} (a b : Action A) → Extends (low - 1) (high - 1) a b → Extends low high (step >> a) (step >> b)
  extends_step {low} {high} a b both = record { later = stepped_later low high a b both; grows = stepped_grows b both.grows }

module _ {A B : Type 0} where
  pub extends_step_bind : {low high : ℕ} (a b : Action A) (f g : A → Action B) → Extends (low - 1) (high - 1) a b
      → ((v : A) → Extends (low - 1) (high - 1) (f v) (g v)) → Extends low high (step >> a >>= f) (step >> b >>= g)
  extends_step_bind {low} {high} a b f g first rest =
      subst (λ x. Extends low high x (step >> b >>= g)) (assoc step (λ done. a) f)
      (subst (λ y. Extends low high (step >> (a >>= f)) y) (assoc step (λ done. b) g)
      (extends_step (a >>= f) (b >>= g) (extends_bind a b f g first rest)))

-- ---- an argument of a size expression

module _ {A : Type 0} where
  argument_events : (at : Place) (o : Outcome A) → events_of (argument_outcome at o) ≡ events_of o
  argument_events at (On value s left) = refl
  argument_events at (Stop events standing) = refl

  later_argument : (at : Place) (events : List Event) (n m : ℕ) (o p : Outcome A) → Later events n m o p
      → Later events n m (argument_outcome at o) (argument_outcome at p)
  later_argument at events n m _ _ (on v s i j le is front) = on v s i j le is front
  later_argument at events n m _ _ (over more standing front) = over more (argument_standing at standing) front
  later_argument at events n m _ _ (going more other lt front next) =
      going more (argument_outcome at other) lt front (next.0, argument_events at other ∙ next.1)

  pub extends_argument : {low high : ℕ} (at : Place) (a b : Action A) → Extends low high a b
      → Extends low high (as_argument at a) (as_argument at b)
  extends_argument at a b both = record {
    later = λ s n m le l h. later_argument at s.events n m (a s n) (b s m) (both.later s n m le l h);
    grows = λ s m. ((both.grows s m).0, argument_events at (b s m) ∙ (both.grows s m).1);
  }
