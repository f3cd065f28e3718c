-- One enumerator of a list, and those behind it.
use Rattle.std.proofs.Common.{◌≡◌, ◌<◌, ◌≤◌, ℕ, ℤ, pos, ◌+ℤ◌, ◌+◌, List, ◌∷◌, length, map, drop, get_or, Ok, refl, sym, ap, subst, ◌∙◌, arith, add-one, drop-cons}
use Rattle.c_tree.specs.Heights.{enumerator_height, highest}
use Rattle.c_tree.specs.declared.nodes.Enumerator.{Enumerator}
use Rattle.elab_meaning.specs.Declarations.{as_int, enumerators_from}
use Rattle.elab_meaning.specs.Trees.{read_enumerator}
use Rattle.elab_meaning.specs.Typing.{State}

cut : (xs : List Enumerator) (i : ℕ) (x : Enumerator) → i < length xs → drop i xs ≡ get_or xs i x ∷ drop (i + 1) xs
cut xs i x within = drop-cons xs i x within ∙ ap (λ (k : ℕ). get_or xs i x ∷ drop k xs) (sym (add-one i))

pub turn : (xs : List Enumerator) (i : ℕ) (x : Enumerator) (n m k : ℤ) (s t : State) → i < length xs → x ≡ get_or xs i x
    → read_enumerator x n s ≡ Ok (m, t) → k ≡ as_int (m +ℤ pos 1)
    → enumerators_from k (map read_enumerator (drop (i + 1) xs)) t ≡ enumerators_from n (map read_enumerator (drop i xs)) s
turn xs i x n m k s t within is h after =
    let typed = subst (λ (y : Enumerator). read_enumerator y n s ≡ Ok (m, t)) is h in
    rw (cut xs i x within, typed, after) refl

pub further : (xs : List Enumerator) (i : ℕ) (x : Enumerator) (room : ℕ) → i < length xs → highest (map enumerator_height (drop i xs)) ≤ room
    → highest (map enumerator_height (drop (i + 1) xs)) ≤ room
further xs i x room within low =
    let whole = subst (λ (ys : List Enumerator). highest (map enumerator_height ys) ≤ room) (cut xs i x within) low in
    grind (arith, whole)
