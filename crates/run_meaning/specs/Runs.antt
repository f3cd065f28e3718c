-- What a run shows and how it stands at a bound on its steps: the words of the plain meaning, of modules and of
-- the machine. This project's own.
use Rattle.std.specs.Prelude.{◌≡◌, ℕ, ◌≤◌, ◌==◌, List, map, filter}
use Rattle.fc_base.specs.Outside.{IsFront}
use Rattle.fc_base.specs.declared.levels.End.{End}
use Rattle.fc_base.specs.declared.undefined.UndefKind.{UndefKind}
use Rattle.fc_base.specs.declared.refusals.Place.{Place}

-- bytes in the order in which they were taken or written, each behind its descriptor: 0 is standard input, 1
-- standard output and 2 standard error
abbrev pub Shown : Type 0
Shown = List (ℕ × ℕ)

-- bytes that move on one descriptor
abbrev pub on_descriptor : ℕ → List ℕ → Shown
on_descriptor descriptor bytes = map (λ byte. (descriptor, byte)) bytes

-- the bytes that moved on a descriptor
abbrev pub bytes_on : ℕ → Shown → List ℕ
bytes_on descriptor list = map (λ pair. pair.1) (filter (λ pair. pair.0 == descriptor) list)

-- how a run stands at a bound
pub data Standing : Type 0 where
  Ended : End → Standing
  Undefined : UndefKind → Place → Standing
  Going : Standing

-- what is shown and how it stands, at each bound
abbrev pub Runs : Type 0
Runs = ℕ → Shown × Standing

-- b does what a does, up to a's first undefined operation. An end that a reaches within n steps b reaches within
-- limit n, and where a goes on, so does b
pub record Follows (limit : ℕ → ℕ) (b a : Runs) : Type 0 where
  pub ends : (n : ℕ) (list : Shown) (end : End) → a n ≡ (list, Ended end) → (m : ℕ) × (m ≤ limit n) × (b m ≡ (list, Ended end))
  pub goes_on : (n : ℕ) (list : Shown) → a n ≡ (list, Going) → (m : ℕ) × (n ≤ m) × (b m ≡ (list, Going))
  pub until : (n : ℕ) (list : Shown) (kind : UndefKind) (place : Place) → a n ≡ (list, Undefined kind place) → (m : ℕ) × IsFront list (b m).0

-- a larger number has no smaller image
abbrev pub IsMonotone : (ℕ → ℕ) → Type 0
IsMonotone f = (n m : ℕ) → n ≤ m → f n ≤ f m

-- following composes
abbrev pub FollowsComposes : Type 0
FollowsComposes = (f g : ℕ → ℕ) → IsMonotone g → (a b c : Runs) → Follows f b a → Follows g c b → Follows (λ n. g (f n)) c a
