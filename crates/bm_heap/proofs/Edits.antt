-- Holes changed in place.
use Rattle.std.proofs.Common.{◌≡◌, ◌≢◌, ℕ, suc, ◌+◌, ◌-◌, ◌<◌, ◌≤◌, List, ◌∷◌, ◌++◌, length, get_or, set, take, drop, sym, ap, ◌∙◌, refl, drop-cons, cond, ◌==◌, true, arith}
use Rattle.std.proofs.lemmas.List.{set_split}
use Rattle.std.proofs.lemmas.Bool.{le-leb, ne_eqb}
use Rattle.bm_heap.specs.declared.holes.Hole.{Hole}
use Rattle.bm_heap.specs.Heaps.{take_from, put_before}

equal_is : (m n : ℕ) → m ≡ n → (m == n) ≡ true
equal_is m n e = grind (arith, e)

pub cut_here : (hs : List Hole) (i n : ℕ) (h : Hole) → i < length hs → h ≡ get_or hs i h → n ≤ h.count → h.count ≢ n
    → set hs i (record { start = h.start + n; count = h.count - n }) ≡ take i hs ++ take_from n (drop i hs)
cut_here hs i n h l e b ne =
    let d : drop i hs ≡ h ∷ drop (suc i) hs = drop-cons hs i h l ∙ ap (λ z. z ∷ drop (suc i) hs) (sym e) in
    let f : take_from n (h ∷ drop (suc i) hs) ≡ record { start = h.start + n; count = h.count - n } ∷ drop (suc i) hs = rw
    (le-leb n h.count b, ne_eqb h.count n ne) refl in
    set_split hs i (record { start = h.start + n; count = h.count - n }) l ∙ ap (λ z. take i hs ++ z) (sym f ∙ ap (take_from n) (sym d))

pub put_here : (hs : List Hole) (i place n : ℕ) (h : Hole) → i < length hs → h ≡ get_or hs i h → place + n ≡ h.start
    → set hs i (record { start = place; count = n + h.count }) ≡ take i hs ++ put_before place n (drop i hs)
put_here hs i place n h l e touch =
    let d : drop i hs ≡ h ∷ drop (suc i) hs = drop-cons hs i h l ∙ ap (λ z. z ∷ drop (suc i) hs) (sym e) in
    let new : List Hole = record { start = place; count = n + h.count } ∷ drop (suc i) hs in
    let old : List Hole = record { start = place; count = n } ∷ h ∷ drop (suc i) hs in
    let f : put_before place n (h ∷ drop (suc i) hs) ≡ new = ap (λ t. cond t new old) (equal_is (place + n) h.start touch) in
    set_split hs i (record { start = place; count = n + h.count }) l ∙ ap (λ z. take i hs ++ z) (sym f ∙ ap (put_before place n) (sym d))
