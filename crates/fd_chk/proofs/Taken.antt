-- Bytes that were taken, and what their row comes to.
use Rattle.std.proofs.Common.{◌≡◌, ℕ, suc, Fits, w8, ◌+◌, ◌-◌, ◌<◌, ◌≤◌, ◌^◌, List, [], ◌∷◌, ◌++◌, get_or, length, take, drop, refl, sym, ap, ◌∙◌, subst, arith, length-append}
use Rattle.std.proofs.Math.Nat.{add-zero}
use Rattle.std.proofs.lemmas.List.{drop-drop, take-append-drop}
use borrow.Rule.Slice.PartMut.{put_mid}
use Rattle.fc_base.specs.Outside.{IsAtEnd}
use Rattle.run_meaning.specs.Worlds.{AreBytes}
use Rattle.run_meaning.specs.Objects.{StreamState}
use Rattle.run_meaning.proofs.Moved.{takes-none, takes-append, are_bytes-append, ended_stays, rose-later}
use Rattle.library_meaning.specs.Memory.{put}
use Rattle.library_meaning.specs.OnStreams.{HasTaken}
use Rattle.host_bytes.proofs.Shapes.{put-put}
use Rattle.fd_chk.specs.Taken.{TookTo, FailedBefore}

-- a list whose numbers fit a byte, and the parts of one
is_byte : (b : ℕ) → Fits w8 b → b < 2 ^ 8
is_byte b fits = omega (arith, fits)

pub are_bytes-by : (xs : List ℕ) → ((i : ℕ) → Fits w8 (get_or xs i 0)) → AreBytes xs
are_bytes-by [] each = tt
are_bytes-by (x ∷ xs) each = (is_byte x (each 0), are_bytes-by xs (λ i. each (suc i)))

are_bytes-behind : (a b : List ℕ) → AreBytes (a ++ b) → AreBytes b
are_bytes-behind [] b h = h
are_bytes-behind (x ∷ a) b h = are_bytes-behind a b h.1

are_bytes-before : (a b : List ℕ) → AreBytes (a ++ b) → AreBytes a
are_bytes-before [] b h = tt
are_bytes-before (x ∷ a) b h = (h.0, are_bytes-before a b h.1)

pub are_bytes-between : (a b c : List ℕ) → AreBytes (a ++ (b ++ c)) → AreBytes b
are_bytes-between a b c h = are_bytes-before b c (are_bytes-behind a (b ++ c) h)

-- a part of memory, as the code hands it on
pub put_is : (at n : ℕ) (m part bytes : List ℕ) → part ≡ bytes → length bytes ≡ n → put_mid at (at + n - at) m part ≡ put at bytes m
put_is at n m part bytes same long =
    let end : at + (at + n - at) ≡ at + length bytes = omega (arith, long) in
    ap (λ z. put_mid at (at + n - at) m z) same ∙ ap (λ z. take at m ++ (bytes ++ z)) (drop-drop (at + n - at) at m ∙ ap (λ k. drop k m) end)

-- nothing is taken, or one part after the other
pub put-none : (at : ℕ) (m : List ℕ) → put at [] m ≡ m
put-none at m = ap (λ k. take at m ++ drop k m) (add-zero at) ∙ take-append-drop at m

pub has_taken-none : (x : StreamState) → HasTaken [] x x
has_taken-none x = record { are_bytes = tt; taken = takes-none x.told; untold = λ none. subst IsAtEnd (sym none) tt }

has_taken-append : (a b : List ℕ) (x y z : StreamState) → HasTaken a x y → HasTaken b y z → HasTaken (a ++ b) x z
has_taken-append a b x y z p q = record {
  are_bytes = are_bytes-append a b p.are_bytes q.are_bytes;
  taken = takes-append a b x.told y.told z.told p.taken q.taken;
  untold = λ none. ended_stays b y.told z.told (p.untold none) q.untold q.taken;
}

pub took-none : (at : ℕ) (m : List ℕ) (x : StreamState) → TookTo at 0 m m x x
took-none at m x = record { bytes = []; long = refl; has = has_taken-none x; stored = sym (put-none at m) }

pub took-append : (at n k : ℕ) (m m1 m2 : List ℕ) (x y z : StreamState) → at + n ≤ length m → TookTo at n m m1 x y → TookTo (at + n) k m1 m2 y z → TookTo at (n + k) m m2 x z
took-append at n k m m1 m2 x y z fits p q = record {
  bytes = p.bytes ++ q.bytes;
  long = omega (arith, p.long, q.long, length-append p.bytes q.bytes);
  has = has_taken-append p.bytes q.bytes x y z p.has q.has;
  stored =
      q.stored ∙ ap (put (at + n) q.bytes) p.stored ∙ ap (λ j. put (at + j) q.bytes (put at p.bytes m)) (sym p.long)
      ∙ put-put at p.bytes q.bytes m (omega (arith, p.long));
}

pub failed_later : (at n most : ℕ) (m m1 : List ℕ) (x y z : StreamState) → n ≤ most → TookTo at n m m1 x y → x.faults ≤ y.faults → FailedBefore (most - n) y z → FailedBefore most x z
failed_later at n most m m1 x y z within p grew f = record {
  bytes = p.bytes ++ f.bytes;
  short = omega (arith, p.long, f.short, length-append p.bytes f.bytes);
  has = has_taken-append p.bytes f.bytes x y z p.has f.has;
  rose = rose-later x.faults y.faults z.faults grew f.rose;
}
