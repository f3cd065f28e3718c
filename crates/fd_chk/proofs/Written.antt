-- What calls that write come to over bytes.
use Rattle.std.proofs.Common.{◌≡◌, ◌≢◌, ℕ, ◌+◌, ◌-◌, Bool, true, false, List, [], ◌∷◌, ◌++◌, length, Option, Result, Ok, Err, refl, sym, ap, ◌∙◌, subst, append-nil, append_assoc, arith}
use Rattle.std.specs.Prelude.{if◌then◌else◌, slice_range}
use Rattle.std.proofs.Math.Nat.{add-zero}
use Rattle.fc_base.specs.Outside.{Appends, AppendsFront, Rose}
use Rattle.run_meaning.specs.Runs.{on_descriptor}
use Rattle.run_meaning.specs.Objects.{StreamState}
use Rattle.run_meaning.proofs.Moved.{appends-append}
use Rattle.library_meaning.specs.Scan.{and_then}
use Rattle.library_meaning.specs.Rows.{Answer, answer, Given, Count, run, showing}
use Rattle.library_meaning.specs.Table.{write_on, puts, int_of, no_limit}
use Rattle.library_meaning.specs.OnBytes.{on_bytes, number_of, quiet, valid_then}
use Rattle.library_meaning.specs.Memory.{bytes_at, are_valid}
use Rattle.library_meaning.specs.OnStreams.{moved, Writes}
use Rattle.library_meaning.specs.declared.stops.HostStop.{HostStop}
use Rattle.library_meaning.specs.declared.stops.HostStop.TheVariants as host
use Rattle.host_bytes.specs.Texts.{byte_scan}

-- what is shown on one descriptor are its bytes
pub moved_is : (descriptor : ℕ) (bytes : List ℕ) → moved (on_descriptor descriptor bytes) ≡ bytes
moved_is descriptor [] = refl
moved_is descriptor (byte ∷ bytes) = ap (λ rest. byte ∷ rest) (moved_is descriptor bytes)

-- the row shows these bytes, and they were written
pub writes_all : (args m : List ℕ) (r : Result (Answer (List ℕ)) HostStop) (descriptor n : ℕ) (bytes : List ℕ) (given : Given) (old new : StreamState)
    → r ≡ Ok (answer m (showing quiet descriptor bytes) given) → n ≡ number_of args given → Appends bytes old.told new.told → Writes args r (Ok n) old new
writes_all args m r descriptor n bytes given old new is gives written =
    subst (λ x. Writes args x (Ok n) old new) (sym is) (gives, subst (λ b. Appends b old.told new.told) (sym (moved_is descriptor bytes)) written)

-- the row shows these bytes, and the sink failed at a front of them
pub writes_some : (args m : List ℕ) (r : Result (Answer (List ℕ)) HostStop) (descriptor : ℕ) (bytes : List ℕ) (given : Given) (old new : StreamState)
    → r ≡ Ok (answer m (showing quiet descriptor bytes) given) → bytes ≢ [] → AppendsFront bytes old.told new.told → Rose old.faults new.faults
    → Writes args r (Err host.SinkFault) old new
writes_some args m r descriptor bytes given old new is some front rose =
    subst (λ x. Writes args x (Err host.SinkFault) old new) (sym is)
    (subst (λ b. b ≢ []) (sym (moved_is descriptor bytes)) some, subst (λ b. AppendsFront b old.told new.told) (sym (moved_is descriptor bytes)) front, rose)

-- the row of `write`
pub write_is : (m : List ℕ) (descriptor s n : ℕ) → run (on_bytes (descriptor ∷ s ∷ n ∷ [])) (write_on descriptor) m quiet
    ≡ (if are_valid s n then Ok (answer m (showing quiet descriptor (bytes_at m s n)) (Count n)) else Err host.BadAddress)
write_is m descriptor s n = rw (add-zero s) (go (are_valid s n))
  where
    gives : List ℕ → Result (Answer (List ℕ)) HostStop
    gives bytes = Ok (answer m (showing quiet descriptor bytes) (Count n))

    go : (t : Bool) → and_then (and_then (valid_then t (bytes_at m s n)) (λ bytes. Ok (bytes ++ []))) gives ≡ (if t then gives (bytes_at m s n) else Err host.BadAddress)
    go true = ap gives (append-nil (bytes_at m s n))
    go false = refl

-- the row of `puts`, by what its scan has found
pub puts_is : (m : List ℕ) (s len : ℕ) (stop : Option ℕ) → byte_scan 0 m s no_limit ≡ Ok (record { before = bytes_at m s len; stop = stop }) → length (bytes_at m s len) ≡ len
    → run (on_bytes (s ∷ [])) puts m quiet ≡ Ok (answer m (showing quiet 1 (bytes_at m s len ++ 10 ∷ [])) (Count (int_of (len + 1))))
puts_is m s len stop scan long =
    rw (add-zero s, scan) (ap (λ k. Ok (answer m (showing quiet 1 (bytes_at m s len ++ 10 ∷ [])) (Count (int_of (k + 1))))) long)

-- a front of the first part is a front of the whole, and so is the first part with a front of the second
pub front_of_first : (a b : List ℕ) (x y : Option (List ℕ)) → AppendsFront a x y → AppendsFront (a ++ b) x y
front_of_first a b x y f = (f.0, (f.1.0 ++ b, ap (λ z. z ++ b) f.1.1 ∙ append_assoc f.0 f.1.0 b), f.2)

pub front_of_second : (a b : List ℕ) (x y z : Option (List ℕ)) → Appends a x y → AppendsFront b y z → AppendsFront (a ++ b) x z
front_of_second a b x y z first f = (a ++ f.0, (f.1.0, ap (λ w. a ++ w) f.1.1 ∙ sym (append_assoc a f.0 f.1.0)), appends-append a f.0 x y z first f.2)

pub behind_some : (a : List ℕ) (byte : ℕ) → a ++ byte ∷ [] ≢ []
behind_some [] byte e = absurd (cc)
behind_some (x ∷ xs) byte e = absurd (cc)

-- a part of memory as the code hands it on
pub part_is : (m : List ℕ) (s n : ℕ) → slice_range m s (s + n) ≡ bytes_at m s n
part_is m s n = let e : s + n - s ≡ n = omega arith in rw e refl

-- an answer is not both
pub not_both : {X E : Type 0} {x : X} {e : E} (r : Result X E) → r ≡ Err e → r ≡ Ok x → ⊥
not_both (Ok y) p q = absurd (cc)
not_both (Err f) p q = absurd (cc)

-- the row of `puts` over the part that the code hands on
pub puts_shows : (m : List ℕ) (s len : ℕ) (stop : Option ℕ) → byte_scan 0 m s no_limit ≡ Ok (record { before = bytes_at m s len; stop = stop }) → length (bytes_at m s len) ≡ len
    → run (on_bytes (s ∷ [])) puts m quiet ≡ Ok (answer m (showing quiet 1 (slice_range m s (s + len) ++ 10 ∷ [])) (Count (int_of (len + 1))))
puts_shows m s len stop scan long =
    puts_is m s len stop scan long ∙ ap (λ b. Ok (answer m (showing quiet 1 (b ++ 10 ∷ [])) (Count (int_of (len + 1))))) (sym (part_is m s len))
