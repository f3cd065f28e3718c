-- Bytes that are stored in two parts, and how many stand from an address on.
use Rattle.std.proofs.Common.{◌≡◌, ℕ, zero, suc, ◌+◌, ◌<◌, ◌≤◌, Bool, true, false, ◌&&◌, ◌||◌, eqb, leb, List, ◌++◌, length, take, drop, replicate, refl, sym, ap, ◌∙◌, arith, append_assoc, length-append}
use Rattle.std.proofs.lemmas.Bool.{leb-true, eqb-true}
use Rattle.std.proofs.lemmas.List.{take_at, drop_at, drop-drop, length-take, length-drop}
use Rattle.library_meaning.specs.Memory.{put, are_valid, memory_size, first_valid, bytes_at}

-- stored in two parts
pub put-put : {X : Type 0} → (a : ℕ) (xs ys m : List X) → a + length xs ≤ length m → put (a + length xs) ys (put a xs m) ≡ put a (xs ++ ys) m
put-put a xs ys m l =
    let b : ℕ = a + length xs in
    let front : length (take a m) ≡ a = omega (arith, length-take a m) in
    let at : length (take a m ++ xs) ≡ a + length xs = omega (arith, length-append (take a m) xs) in
    let whole : put a xs m ≡ (take a m ++ xs) ++ drop b m = sym (append_assoc (take a m) xs (drop b m)) in
    let low : take b (put a xs m) ≡ take a m ++ xs = ap (take b) whole ∙ take_at (take a m ++ xs) (drop b m) b at in
    let more : drop b (put a xs m) ≡ drop b m = ap (drop b) whole ∙ drop_at (take a m ++ xs) (drop b m) b at in
    let high : drop (b + length ys) (put a xs m) ≡ drop (a + length (xs ++ ys)) m =
    sym (drop-drop (length ys) b (put a xs m)) ∙ ap (drop (length ys)) more ∙ drop-drop (length ys) b m ∙ ap (λ z. drop z m) (omega (arith, length-append xs ys)) in
    ap (λ z. z ++ (ys ++ drop (b + length ys) (put a xs m))) low ∙ ap (λ z. (take a m ++ xs) ++ (ys ++ z)) high ∙ append_assoc (take a m) xs (ys ++ drop (a + length (xs ++ ys)) m) ∙ ap (λ z. take a m ++ z) (sym (append_assoc xs ys (drop (a + length (xs ++ ys)) m)))

valid_end : (a n : ℕ) → (n ≡ 0 → ⊥) → are_valid a n ≡ true → a + n ≤ memory_size
valid_end a n some h = go (eqb n 0) (leb first_valid a) (leb (a + n) memory_size) refl refl h
  where
    go : (t u v : Bool) → eqb n 0 ≡ t → leb (a + n) memory_size ≡ v → t || (u && v) ≡ true → a + n ≤ memory_size
    go true u v e f g = absurd (some (eqb-true n 0 e))
    go false true true e f g = leb-true _ _ f
    go false true false e f g = absurd (cc)
    go false false v e f g = absurd (cc)

pub length-bytes_at : (m : List ℕ) (a n : ℕ) → length m ≡ memory_size → are_valid a n ≡ true → length (bytes_at m a n) ≡ n
length-bytes_at m a zero size h = refl
length-bytes_at m a (suc n) size h =
    let e : a + suc n ≤ memory_size = valid_end a (suc n) (λ z. absurd (omega arith)) h in
    omega (arith, length-take (suc n) (drop a m), length-drop a m)

-- a copy, and zero bytes behind it
pub put_both : (m m1 m2 : List ℕ) (to from count zeros : ℕ) → length m ≡ memory_size → are_valid to (count + zeros) ≡ true → are_valid from count ≡ true → 0 < zeros → m1 ≡ put to (bytes_at m from count) m → m2 ≡ put (to + count) (replicate zeros 0) m1 → m2 ≡ put to (bytes_at m from count ++ replicate zeros 0) m
put_both m m1 m2 to from count zeros size here there some first second =
    let long : length (bytes_at m from count) ≡ count = length-bytes_at m from count size there in
    let end : to + (count + zeros) ≤ memory_size = valid_end to (count + zeros) (λ z. absurd (omega arith)) here in
    second ∙ ap (put (to + count) (replicate zeros 0)) first ∙ ap (λ z. put (to + z) (replicate zeros 0) (put to (bytes_at m from count) m)) (sym long) ∙ put-put to (bytes_at m from count) (replicate zeros 0) m (omega (arith, long))
