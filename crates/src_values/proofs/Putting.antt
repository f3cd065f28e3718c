-- Cells that are put one after the other.
use Rattle.std.proofs.Common.{◌≡◌, ℕ, zero, suc, ◌+◌, ◌-◌, ◌/◌, ◌%◌, ◌<◌, ◌≤◌, List, [], ◌∷◌, ◌++◌, length, map, take, drop, get_or, set, refl, sym, ap, ◌∙◌, arith, append_assoc, add-zero, length-drop}
use Rattle.std.proofs.lemmas.List.{take_more_set, drop-set-lt, take-append-drop, drop_more, drop_all, take_all, length_push, drop-set, take-set-le, length-take-le, take_more, length-set, get_or-set_other, get_or-take, get_or-drop}
use Rattle.library_meaning.specs.Memory.{put}
use Rattle.object_meaning.specs.Cells.{bytes_of, parts_of}
use Rattle.object_meaning.specs.Objects.{Object, with_cells}
use Rattle.object_meaning.specs.declared.values.Cell.{Cell}
use Rattle.object_meaning.specs.declared.values.Cell.TheVariants.{Byte, Uninit, Part}
use Rattle.object_meaning.specs.declared.values.Ptr.{Ptr}

pub put_none : (at : ℕ) (xs : List Cell) → put at [] xs ≡ xs
put_none at xs = rw add-zero (take-append-drop at xs)

put-cons : (at : ℕ) (c : Cell) (cs xs : List Cell) → at < length xs → put at (c ∷ cs) xs ≡ put (at + 1) cs (set xs at c)
put-cons at c cs xs l =
    let e : at + suc (length cs) ≡ at + 1 + length cs = omega arith in
    let under : at < at + 1 + length cs = omega arith in
    ap (λ n. take at xs ++ (c ∷ (cs ++ drop n xs))) e
    ∙ sym (append_assoc (take at xs) (c ∷ []) (cs ++ drop (at + 1 + length cs) xs))
    ∙ ap (λ ys. ys ++ (cs ++ drop (at + 1 + length cs) xs)) (sym (take_more_set xs at c l))
    ∙ ap (λ ys. take (at + 1) (set xs at c) ++ (cs ++ ys)) (sym (drop-set-lt (at + 1 + length cs) xs at c under))

-- cells that are put in two parts
pub put_more : (at : ℕ) (xs ys cells : List Cell) → at + length xs ≤ length cells
    → put (at + length xs) ys (put at xs cells) ≡ put at (xs ++ ys) cells
put_more at [] ys cells l = let e : at + 0 ≡ at = omega arith in ap (λ k. put k ys (put at [] cells)) e ∙ ap (put at ys) (put_none at cells)
put_more at (x ∷ xs) ys cells l =
    let e : at + suc (length xs) ≡ at + 1 + length xs = omega arith in
    ap (λ k. put k ys (put at (x ∷ xs) cells)) e
    ∙ ap (put (at + 1 + length xs) ys) (put-cons at x xs cells (omega arith))
    ∙ put_more (at + 1) xs ys (set cells at x) (omega (arith, l, length-set cells at x))
    ∙ sym (put-cons at x (xs ++ ys) cells (omega arith))

-- the first byte, and then the others
pub bytes_next : (at n x : ℕ) (object : Object) → 0 < n → at + n ≤ length object.cells
    → with_cells object (put at (map Byte (bytes_of n x)) object.cells)
    ≡ with_cells object (put (at + 1) (map Byte (bytes_of (n - 1) (x / 256))) (set object.cells at (Byte (x % 256))))
bytes_next at zero x object l w = absurd (omega arith)
bytes_next at (suc n) x object l w =
    let e : n ≡ suc n - 1 = omega arith in
    ap (with_cells object) (put-cons at (Byte (x % 256)) (map Byte (bytes_of n (x / 256))) object.cells (omega arith)
    ∙ ap (λ k. put (at + 1) (map Byte (bytes_of k (x / 256))) (set object.cells at (Byte (x % 256)))) e)

pub parts_next : (at n k : ℕ) (p : Ptr) (object : Object) → 0 < n → at + n ≤ length object.cells
    → with_cells object (put at (parts_of p k n) object.cells)
    ≡ with_cells object (put (at + 1) (parts_of p (k + 1) (n - 1)) (set object.cells at (Part p k)))
parts_next at zero k p object l w = absurd (omega arith)
parts_next at (suc n) k p object l w =
    let e : n ≡ suc n - 1 = omega arith in
    let f : suc k ≡ k + 1 = omega arith in
    ap (with_cells object) (put-cons at (Part p k) (parts_of p (suc k) n) object.cells (omega arith)
    ∙ ap (λ j. put (at + 1) (parts_of p (suc k) j) (set object.cells at (Part p k))) e
    ∙ ap (λ j. put (at + 1) (parts_of p j (suc n - 1)) (set object.cells at (Part p k))) f)

-- ---- loops that put cells one after the other

-- the first i are put: the same comes of putting the rest
pub record Puts (old now : Object) (at i : ℕ) (cells : List Cell) : Type 0 where
  pub rest : put (at + i) (drop i cells) now.cells ≡ put at cells old.cells
  pub others : now ≡ with_cells old now.cells
  pub long : length now.cells ≡ length old.cells

pub puts_none : (old : Object) (at : ℕ) (cells : List Cell) → Puts old old at 0 cells
puts_none old at cells = record {
  rest = (let e : at + 0 ≡ at = omega arith in ap (λ k. put k cells old.cells) e);
  others = refl;
  long = refl;
}

pub puts_next : (old now : Object) (at i : ℕ) (cells : List Cell) (c : Cell) → i < length cells → at + length cells ≤ length old.cells
    → c ≡ get_or cells i Uninit → Puts old now at i cells
    → Puts old (with_cells now (set now.cells (at + i) c)) at (i + 1) cells
puts_next old now at i cells c l room e p =
    let long = p.long in
    let next : at + (i + 1) ≡ at + i + 1 = omega arith in
    record {
      rest = ap (λ k. put k (drop (i + 1) cells) (set now.cells (at + i) c)) next
          ∙ sym (put-cons (at + i) c (drop (i + 1) cells) now.cells (omega (arith, l, room, long)))
          ∙ ap (λ x. put (at + i) (x ∷ drop (i + 1) cells) now.cells) e
          ∙ ap (λ xs. put (at + i) xs now.cells) (sym (drop_more cells i Uninit l))
          ∙ p.rest;
      others = ap (λ (x : Object). with_cells x (set now.cells (at + i) c)) p.others;
      long = length-set now.cells (at + i) c ∙ long;
    }

pub puts_all : (old now : Object) (at i : ℕ) (cells : List Cell) → length cells ≤ i → Puts old now at i cells
    → now ≡ with_cells old (put at cells old.cells)
puts_all old now at i cells l p =
    let is : now.cells ≡ put at cells old.cells = sym (put_none (at + i) now.cells)
    ∙ ap (λ xs. put (at + i) xs now.cells) (sym (drop_all i cells l)) ∙ p.rest in
    p.others ∙ ap (with_cells old) is

-- all but the first `left` are put
pub record PutsDown (old now : Object) (at left : ℕ) (cells : List Cell) : Type 0 where
  pub rest : put at (take left cells) now.cells ≡ put at cells old.cells
  pub others : now ≡ with_cells old now.cells
  pub long : length now.cells ≡ length old.cells

pub puts_down_none : (old : Object) (at left : ℕ) (cells : List Cell) → length cells ≤ left → PutsDown old old at left cells
puts_down_none old at left cells l = record { rest = ap (λ xs. put at xs old.cells) (take_all left cells l); others = refl; long = refl }

put-push : (at : ℕ) (c : Cell) (cs xs : List Cell) → at + length cs < length xs
    → put at (cs ++ c ∷ []) xs ≡ put at cs (set xs (at + length cs) c)
put-push at c cs xs l =
    let e : at + length (cs ++ c ∷ []) ≡ at + length cs + 1 = (let n = length_push cs c in omega (arith, n)) in
    ap (λ n. take at xs ++ ((cs ++ c ∷ []) ++ drop n xs)) e
    ∙ ap (λ ys. take at xs ++ ys) (append_assoc cs (c ∷ []) (drop (at + length cs + 1) xs))
    ∙ ap (λ ys. take at xs ++ (cs ++ ys)) (sym (drop-set xs (at + length cs) c l))
    ∙ ap (λ ys. ys ++ (cs ++ drop (at + length cs) (set xs (at + length cs) c))) (sym (take-set-le at xs (at + length cs) c (omega arith)))

pub puts_down_next : (old now : Object) (at left : ℕ) (cells : List Cell) (c : Cell) → left < length cells
    → at + length cells ≤ length old.cells → c ≡ get_or cells left Uninit → PutsDown old now at (left + 1) cells
    → PutsDown old (with_cells now (set now.cells (at + left) c)) at left cells
puts_down_next old now at left cells c l room e p =
    let long = p.long in
    let n : length (take left cells) ≡ left = length-take-le left cells (omega arith) in
    record {
      rest = ap (λ k. put at (take left cells) (set now.cells (at + k) c)) (sym n)
          ∙ sym (put-push at c (take left cells) now.cells (omega (arith, l, room, long, n)))
          ∙ ap (λ x. put at (take left cells ++ x ∷ []) now.cells) e
          ∙ ap (λ xs. put at xs now.cells) (sym (take_more cells left Uninit l))
          ∙ p.rest;
      others = ap (λ (x : Object). with_cells x (set now.cells (at + left) c)) p.others;
      long = length-set now.cells (at + left) c ∙ long;
    }

pub puts_down_all : (old now : Object) (at : ℕ) (cells : List Cell) → PutsDown old now at 0 cells
    → now ≡ with_cells old (put at cells old.cells)
puts_down_all old now at cells p = p.others ∙ ap (with_cells old) (sym (put_none at now.cells) ∙ p.rest)

-- cells that a loop has not changed yet: from a place on, or before it
abbrev pub SameFrom : ℕ → Object → Object → Type 0
SameFrom from old now = (k : ℕ) → from ≤ k → get_or now.cells k Uninit ≡ get_or old.cells k Uninit

abbrev pub SameBefore : ℕ → Object → Object → Type 0
SameBefore before old now = (k : ℕ) → k < before → get_or now.cells k Uninit ≡ get_or old.cells k Uninit

pub same_from_next : (old now : Object) (from at : ℕ) (c : Cell) → at ≤ from → SameFrom from old now
    → SameFrom (from + 1) old (with_cells now (set now.cells at c))
same_from_next old now from at c l h k b = get_or-set_other now.cells at k c Uninit (λ e. absurd (omega (arith, e, l, b)))
    ∙ h k (omega (arith, b))

pub same_before_next : (old now : Object) (before at : ℕ) (c : Cell) → before ≤ at → SameBefore (before + 1) old now
    → SameBefore before old (with_cells now (set now.cells at c))
same_before_next old now before at c l h k b = get_or-set_other now.cells at k c Uninit (λ e. absurd (omega (arith, e, l, b)))
    ∙ h k (omega (arith, b))

-- the i-th of so many cells from a place on
pub copied_at : (xs : List Cell) (from count i : ℕ) → i < count → get_or (take count (drop from xs)) i Uninit ≡ get_or xs (from + i) Uninit
copied_at xs from count i l = get_or-take count (drop from xs) i Uninit l ∙ get_or-drop from xs i Uninit

pub copied_long : (xs : List Cell) (from count : ℕ) → from + count ≤ length xs → length (take count (drop from xs)) ≡ count
copied_long xs from count l = length-take-le count (drop from xs) (let n = length-drop from xs in omega (arith, n, l))

pub byte_cell_at : (bytes : List ℕ) (i : ℕ) → i < length bytes → Byte (get_or bytes i 0) ≡ get_or (map Byte bytes) i Uninit
byte_cell_at [] i l = absurd (omega arith)
byte_cell_at (b ∷ bs) zero l = refl
byte_cell_at (b ∷ bs) (suc i) l = byte_cell_at bs i (omega arith)
