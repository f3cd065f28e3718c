-- What was written, in parts.
use Rattle.std.proofs.Common.{◌≡◌, ◌≢◌, ℕ, zero, suc, take, ◌+◌, ◌≤◌, List, [], ◌∷◌, ◌++◌, replicate, Result, Ok, Err, refl, ap, arith}
use Rattle.run_meaning.specs.Objects.{StreamState}
use Rattle.run_meaning.proofs.Moved.{appends-append, appends-none, rose-later}
use Rattle.library_meaning.specs.declared.stops.HostStop.{HostStop}
use Rattle.library_meaning.specs.declared.stops.HostStop.TheVariants as host
use Rattle.fd_chk.proofs.Written.{front_of_first, front_of_second}
use Rattle.print_chk.specs.Written.{Wrote}

some_of_first : (a b : List ℕ) → a ≢ [] → a ++ b ≢ []
some_of_first [] b ne e = ne refl
some_of_first (x ∷ xs) b ne e = absurd (cc)

some_of_second : (a b : List ℕ) → b ≢ [] → a ++ b ≢ []
some_of_second [] b ne e = ne e
some_of_second (x ∷ xs) b ne e = absurd (cc)

-- a part that failed
pub wrote_first : (a b : List ℕ) (stop : HostStop) (x y : StreamState) → Wrote a (Err stop) x y → Wrote (a ++ b) (Err stop) x y
wrote_first a b host.SinkFault x y w = (some_of_first a b w.0, front_of_first a b x.told y.told w.1, w.2)
wrote_first a b host.Overflow x y w = absurd w
wrote_first a b host.BadAddress x y w = absurd w
wrote_first a b host.BadFormat x y w = absurd w
wrote_first a b host.InputFault x y w = absurd w

-- a part, and then another one
pub wrote_both : (a b : List ℕ) (r : Result (Unit {0}) HostStop) (x y z : StreamState) → Wrote a (Ok tt) x y → Wrote b r y z → Wrote (a ++ b) r x z
wrote_both a b (Ok done) x y z v w = (appends-append a b x.told y.told z.told v.0 w.0, (let p = v.1 in let q = w.1 in omega arith))
wrote_both a b (Err host.SinkFault) x y z v w = (
  some_of_second a b w.0,
  front_of_second a b x.told y.told z.told v.0 w.1,
  (
    rose-later x.faults y.faults z.faults v.1 w.2.0,
    (let p = v.1 in let q = w.2.1 in omega arith),
  ),
)
wrote_both a b (Err host.Overflow) x y z v w = absurd w
wrote_both a b (Err host.BadAddress) x y z v w = absurd w
wrote_both a b (Err host.BadFormat) x y z v w = absurd w
wrote_both a b (Err host.InputFault) x y z v w = absurd w

-- no count falls
pub wrote_grew : (bytes : List ℕ) (r : Result (Unit {0}) HostStop) (x y : StreamState) → Wrote bytes r x y → x.faults ≤ y.faults
wrote_grew bytes (Ok done) x y w = w.1
wrote_grew bytes (Err host.SinkFault) x y w = w.2.1
wrote_grew bytes (Err host.Overflow) x y w = absurd w
wrote_grew bytes (Err host.BadAddress) x y w = absurd w
wrote_grew bytes (Err host.BadFormat) x y w = absurd w
wrote_grew bytes (Err host.InputFault) x y w = absurd w

pub wrote_nothing : (x : StreamState) → Wrote [] (Ok tt) x x
wrote_nothing x = (appends-none x.told, omega arith)

pub replicate_parts : (x a k n : ℕ) → n ≡ a + k → replicate n x ≡ replicate a x ++ replicate k x
replicate_parts x zero k n e = let is : n ≡ k = omega arith in ap (λ z. replicate z x) is
replicate_parts x (suc a) k zero e = absurd (omega arith)
replicate_parts x (suc a) k (suc n) e = ap (λ z. x ∷ z) (replicate_parts x a k n (omega arith))

pub replicate_front : (x k n : ℕ) → k ≤ n → take k (replicate n x) ≡ replicate k x
replicate_front x zero n le = refl
replicate_front x (suc k) zero le = absurd (omega arith)
replicate_front x (suc k) (suc n) le = ap (λ z. x ∷ z) (replicate_front x k n (omega arith))
