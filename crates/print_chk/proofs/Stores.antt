-- Bytes that are stored as far as there is room.
use Rattle.std.proofs.Common.{◌≡◌, ℕ, zero, suc, ◌+◌, ◌-◌, ◌<◌, ◌≤◌, min, Bool, true, false, ◌&&◌, ◌||◌, ◌⊎◌, inl, inr, ⊎_elim, get_or, List, [], ◌∷◌, ◌++◌, eqb, leb, length, take, drop, replicate, refl, sym, ap, ◌∙◌, arith, length-append}
use Rattle.std.proofs.lemmas.Bool.{cases_lt, eqb-true, le-leb, leb-true}
use Rattle.std.proofs.lemmas.List.{get_or-take, get_or-drop, get_or_append_left, get_or-append_right, length-take, length-drop, take_all, take-append-drop, take-take}
use Rattle.library_meaning.specs.Memory.{put, are_valid, bytes_at, first_valid, memory_size}
use Rattle.host_bytes.proofs.Shapes.{put-put}
use Rattle.print_chk.specs.Stored.{Stores}
use Rattle.print_chk.specs.declared.storing.Room.{Room}

-- addresses that may be touched
pub valid_bounds : (a n : ℕ) → are_valid a n ≡ true → (n ≡ 0) ⊎ ((first_valid ≤ a) × (a + n ≤ memory_size))
valid_bounds a n h = go (eqb n 0) (leb first_valid a) (leb (a + n) memory_size) refl refl refl h
  where
    go : (t u v : Bool) → eqb n 0 ≡ t → leb first_valid a ≡ u → leb (a + n) memory_size ≡ v → t || (u && v) ≡ true → (n ≡ 0) ⊎ ((first_valid ≤ a) × (a + n ≤ memory_size))
    go true u v e f g x = inl (eqb-true n 0 e)
    go false true true e f g x = inr (leb-true _ _ f, leb-true _ _ g)
    go false true false e f g x = absurd (cc)
    go false false v e f g x = absurd (cc)

pub valid_in : (a n : ℕ) → first_valid ≤ a → a + n ≤ memory_size → are_valid a n ≡ true
valid_in a n low high = go (eqb n 0)
  where
    go : (t : Bool) → t || (leb first_valid a && leb (a + n) memory_size) ≡ true
    go true = refl
    go false = rw (le-leb first_valid a low, le-leb (a + n) memory_size high) refl

pub length_put : (a : ℕ) (xs m : List ℕ) → a + length xs ≤ length m → length (put a xs m) ≡ length m
length_put a xs m fits =
    let front : length (take a m) ≡ a = omega (arith, length-take a m) in
    omega (arith, front, length-append (take a m) (xs ++ drop (a + length xs) m), length-append xs (drop (a + length xs) m), length-drop (a + length xs) m)

pub put_outside : (i : ℕ) (ys xs : List ℕ) → i + length ys ≤ length xs → (k d : ℕ) → (k < i) ⊎ (i + length ys ≤ k) → get_or (put i ys xs) k d ≡ get_or xs k d
put_outside i ys xs fits k d h =
    let front : length (take i xs) ≡ i = omega (arith, length-take i xs) in
    ⊎_elim
    (λ (l : k < i). get_or_append_left (take i xs) _ d k (omega (arith, front)) ∙ get_or-take i xs k d l)
    (λ (l : i + length ys ≤ k).
    let e : i + length ys + (k - i - length ys) ≡ k = omega arith in
    get_or-append_right (take i xs) _ i k d front (omega arith) ∙ get_or-append_right ys _ (length ys) (k - i) d refl (omega arith) ∙ get_or-drop (i + length ys) xs (k - i - length ys) d ∙ ap (λ z. get_or xs z d) e)
    h

-- what is cut off
pub take_both : (n : ℕ) (a b : List ℕ) → take n (a ++ b) ≡ take n a ++ take (n - length a) b
take_both zero [] b = refl
take_both zero (x ∷ a) b = let e : 0 - length (x ∷ a) ≡ 0 = omega arith in rw e refl
take_both (suc n) [] b = let e : suc n - 0 ≡ suc n = omega arith in rw e refl
take_both (suc n) (x ∷ a) b =
    let e : n - length a ≡ suc n - length (x ∷ a) = omega arith in
    ap (λ z. x ∷ z) (take_both n a b ∙ ap (λ k. take n a ++ take k b) e)

pub replicate_cut : (x n l : ℕ) → take l (replicate n x) ≡ replicate (min n l) x
replicate_cut x zero zero = refl
replicate_cut x zero (suc l) = let e : min 0 (suc l) ≡ 0 = omega arith in rw e refl
replicate_cut x (suc n) zero = let e : min (suc n) 0 ≡ 0 = omega arith in rw e refl
replicate_cut x (suc n) (suc l) =
    let e : suc (min n l) ≡ min (suc n) (suc l) = omega arith in
    ap (λ z. x ∷ z) (replicate_cut x n l) ∙ ap (λ k. replicate k x) e

-- two parts are one
pub stores_both : (a b : List ℕ) (r s t : Room) (m n o : List ℕ) → r.at + r.left ≤ length m → Stores a r m n s → Stores b s n o t → Stores (a ++ b) r m o t
stores_both a b r s t m n o fits first second =
    let long : length (take r.left a) ≡ min r.left (length a) = omega (arith, length-take r.left a) in
    let sum : length (a ++ b) ≡ length a + length b = length-append a b in
    let at1 = first.at in
    let left1 = first.left in
    let at2 = second.at in
    let left2 = second.left in
    record {
      stored = second.stored ∙ ap (λ z. put s.at (take s.left b) z) first.stored ∙ ap (λ k. put s.at (take k b) (put r.at (take r.left a) m)) left1
          ∙ ap (λ k. put k (take (r.left - length a) b) (put r.at (take r.left a) m)) (at1 ∙ ap (λ k. r.at + k) (sym long))
          ∙ put-put r.at (take r.left a) (take (r.left - length a) b) m (omega (arith, long)) ∙ ap (λ z. put r.at z m) (sym (take_both r.left a b));
      at = omega arith;
      left = omega arith;
    }

take_none : (n : ℕ) → take {A = ℕ} n [] ≡ []
take_none zero = refl
take_none (suc n) = refl

put_none : (a : ℕ) (m : List ℕ) → put a [] m ≡ m
put_none a m =
    let e : a + 0 ≡ a = omega arith in
    ap (λ k. take a m ++ drop k m) e ∙ take-append-drop a m

-- nothing
pub stores_nothing : (r : Room) (m : List ℕ) → Stores [] r m m r
stores_nothing r m = record {
  stored = sym (put_none r.at m) ∙ ap (λ z. put r.at z m) (sym (take_none r.left));
  at = omega arith;
  left = omega arith;
}

-- a front of bytes of memory
pub bytes_front : (m : List ℕ) (a n l : ℕ) → bytes_at m a (min n l) ≡ take l (bytes_at m a n)
bytes_front m a n l =
    ⊎_elim
    (λ (h : l < n). ap (λ k. bytes_at m a k) (let e : min n l ≡ l = omega arith in e) ∙ sym (take-take l n (drop a m) (omega arith)))
    (λ (h : n ≤ l). ap (λ k. bytes_at m a k) (let e : min n l ≡ n = omega arith in e) ∙ sym (take_all l (bytes_at m a n) (omega (arith, length-take n (drop a m)))))
    (cases_lt l n)
