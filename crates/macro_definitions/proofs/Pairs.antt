-- Lists compared element by element.
use Rattle.std.proofs.Common.{◌≡◌, ℕ, suc, ◌+◌, ◌<◌, Bool, ◌&&◌, nat_eq, List, [], ◌∷◌, length, get_or, drop, refl, sym, ap, ◌∙◌, add-one, drop-cons}
use Rattle.std.specs.Borrow.{Bor}
use Rattle.std.specs.Cmp.Lexicographic.{pointwise}
use Rattle.macro_meaning.specs.Macros.{same_name}
use Rattle.macro_meaning.specs.Sameness.{same_part}
use Rattle.macro_items.specs.declared.BodyPart.{BodyPart as Part}
use Rattle.macro_items.specs.Views.{names, body_part_view, body_part_views}

pub names_same : (a b : List (Bor (List ℕ))) → pointwise (λ x y. pointwise nat_eq x.now y.now) a b ≡ pointwise same_name (names a) (names b)
names_same [] [] = refl
names_same [] (y ∷ ys) = refl
names_same (x ∷ xs) [] = refl
names_same (x ∷ xs) (y ∷ ys) = ap (λ (r : Bool). same_name x.now y.now && r) (names_same xs ys)

-- where the elements at i are compared
pub compared_at : (a b : List Part) (i : ℕ) (x y : Part) → i < length a → i < length b → x ≡ get_or a i x → y ≡ get_or b i y
    → pointwise same_part (body_part_views (drop i a)) (body_part_views (drop i b)) ≡
    (same_part (body_part_view x) (body_part_view y) && pointwise same_part (body_part_views (drop (i + 1) a))
    (body_part_views (drop (i + 1) b)))
compared_at a b i x y l m e f =
    let d : drop i a ≡ x ∷ drop (suc i) a = drop-cons a i x l ∙ ap (λ (z : Part). z ∷ drop (suc i) a) (sym e) in
    let g : drop i b ≡ y ∷ drop (suc i) b = drop-cons b i y m ∙ ap (λ (z : Part). z ∷ drop (suc i) b) (sym f) in
    rw (d, g, add-one) refl
