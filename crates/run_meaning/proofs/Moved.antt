-- What moves on each descriptor, one after the other.
use Rattle.std.proofs.Common.{◌≡◌, ℕ, ◌≤◌, ◌==◌, List, [], ◌∷◌, ◌++◌, true, false, cond, map, filter, Option, None, Some, refl, sym, ◌∙◌, ap, append_assoc, append-nil, arith}
use Rattle.fc_base.specs.Outside.{Takes, Appends, IsAtEnd, Rose}
use Rattle.run_meaning.specs.Runs.{on_descriptor, bytes_on}
use Rattle.run_meaning.specs.Worlds.{AreBytes}

-- bytes of one descriptor are all on it, and none is on another
pub bytes_on-same : (d : ℕ) (line : List ℕ) → (d == d) ≡ true → bytes_on d (on_descriptor d line) ≡ line
bytes_on-same d [] same = refl
bytes_on-same d (byte ∷ line) same =
    ap
    (λ t. map (λ pair. pair.1) (cond t ((d, byte) ∷ filter (λ pair. pair.0 == d) (on_descriptor d line))
    (filter (λ pair. pair.0 == d) (on_descriptor d line)))) same ∙ ap (λ x. byte ∷ x) (bytes_on-same d line same)

pub bytes_on-other : (d e : ℕ) (line : List ℕ) → (e == d) ≡ false → bytes_on d (on_descriptor e line) ≡ []
bytes_on-other d e [] other = refl
bytes_on-other d e (byte ∷ line) other =
    ap
    (λ t. map (λ pair. pair.1) (cond t ((e, byte) ∷ filter (λ pair. pair.0 == d) (on_descriptor e line))
    (filter (λ pair. pair.0 == d) (on_descriptor e line)))) other ∙ bytes_on-other d e line other

-- nothing taken, nothing written
pub takes-none : (left : Option (List ℕ)) → Takes [] left left
takes-none None = tt
takes-none (Some bytes) = refl

pub appends-none : (written : Option (List ℕ)) → Appends [] written written
appends-none None = tt
appends-none (Some bytes) = sym (append-nil bytes)

-- one after the other
pub appends-append : (a b : List ℕ) (x y z : Option (List ℕ)) → Appends a x y → Appends b y z → Appends (a ++ b) x z
appends-append a b None y z p q = tt
appends-append a b (Some x) None z p q = absurd p
appends-append a b (Some x) (Some y) None p q = absurd q
appends-append a b (Some x) (Some y) (Some z) p q = q ∙ ap (λ v. v ++ b) p ∙ append_assoc x a b

pub takes-append : (a b : List ℕ) (x y z : Option (List ℕ)) → Takes a x y → Takes b y z → Takes (a ++ b) x z
takes-append a b None y z p q = tt
takes-append a b (Some x) None z p q = absurd p
takes-append a b (Some x) (Some y) None p q = absurd q
takes-append a b (Some x) (Some y) (Some z) p q = p ∙ ap (λ l. a ++ l) q ∙ sym (append_assoc a b z)

-- bytes behind bytes
pub are_bytes-append : (a b : List ℕ) → AreBytes a → AreBytes b → AreBytes (a ++ b)
are_bytes-append [] b p q = q
are_bytes-append (x ∷ a) b p q = (p.0, are_bytes-append a b p.1 q)

-- a list that begins with nothing else
rest_of_none : (t c : List ℕ) → [] ≡ t ++ c → c ≡ []
rest_of_none [] c is = sym is
rest_of_none (x ∷ t) c is = absurd (cc is)

-- a source that has ended stays so
pub ended_stays : (t : List ℕ) (y z : Option (List ℕ)) → IsAtEnd y → (y ≡ None → IsAtEnd z) → Takes t y z → IsAtEnd z
ended_stays t None z at_end next takes = next refl
ended_stays t (Some b) None at_end next takes = tt
ended_stays t (Some b) (Some c) at_end next takes = rest_of_none t c (sym at_end ∙ takes)

-- a count that rises late in a call rose in the call
pub rose-later : (before middle after : ℕ) → before ≤ middle → Rose middle after → Rose before after
rose-later before middle after grows rose = omega arith
