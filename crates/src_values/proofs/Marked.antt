-- Marks with pointers beside them, as cells.
use Rattle.std.proofs.Common.{◌≡◌, ℕ, zero, suc, ◌+◌, ◌-◌, ◌<◌, ◌≤◌, Bool, true, false, List, [], ◌∷◌, ◌++◌, length, get_or, set, replicate, refl, sym, ap, ◌∙◌, arith, append_assoc, append-nil, length-append, vec_len}
use Rattle.std.specs.Prelude.{if◌then◌else◌}
use Rattle.std.proofs.lemmas.List.{length-replicate}
use Rattle.object_meaning.specs.declared.values.Cell.{Cell}
use Rattle.object_meaning.specs.declared.values.Cell.TheVariants.{Byte, Uninit}
use Rattle.object_meaning.specs.declared.values.Ptr.{Ptr}
use Rattle.src_values.specs.View.{nowhere, cell_of, marked, with_pointer, cells_in}
use Rattle.src_values.specs.declared.cells.Cells.TheInside.{Inside}
use Rattle.src_values.specs.declared.cells.Mark.{Mark}
use Rattle.src_values.specs.declared.cells.Mark.TheVariants as mark

pub length-marked : (ms : List Mark) (ps : List Ptr) → length (marked ms ps) ≡ length ms
length-marked [] ps = refl
length-marked (m ∷ ms) [] = ap suc (length-marked ms [])
length-marked (m ∷ ms) (p ∷ ps) = ap suc (length-marked ms ps)

marked_at : (ms : List Mark) (ps : List Ptr) (i : ℕ) (m d : Mark) → i < length ms → m ≡ get_or ms i d
    → get_or (marked ms ps) i Uninit ≡ cell_of m (get_or ps i nowhere)
marked_at [] ps i m d l e = absurd (omega arith)
marked_at (x ∷ ms) [] zero m d l e = ap (λ y. cell_of y nowhere) (sym e)
marked_at (x ∷ ms) (p ∷ ps) zero m d l e = ap (λ y. cell_of y p) (sym e)
marked_at (x ∷ ms) [] (suc i) m d l e = marked_at ms [] i m d (omega arith) e
marked_at (x ∷ ms) (p ∷ ps) (suc i) m d l e = marked_at ms ps i m d (omega arith) e

-- a cell, as the cells are seen
pub cell_is : (ms : List Mark) (ps : List Ptr) (cells : List Cell) (i : ℕ) (m : Mark) → marked ms ps ≡ cells → i < length cells
    → m ≡ get_or ms i m → get_or cells i Uninit ≡ cell_of m (get_or ps i nowhere)
cell_is ms ps cells i m seen l e = ap (λ cs. get_or cs i Uninit) (sym seen)
    ∙ marked_at ms ps i m m (let n = length-marked ms ps in let same = ap length seen in omega (arith, n, same, l)) e

pub first_cell : (zeroed : Bool) → cell_of (if zeroed then mark.Byte 0 else mark.Uninit) nowhere ≡ (if zeroed then Byte 0 else Uninit)
first_cell true = refl
first_cell false = refl

-- one that stands for none, put behind the others
pub padded_more : (ps : List Ptr) (i : ℕ) → length ps ≤ i
    → (ps ++ nowhere ∷ []) ++ replicate (i + 1 - length (ps ++ nowhere ∷ [])) nowhere ≡ ps ++ replicate (i + 1 - length ps) nowhere
padded_more ps i l =
    let n = length-append ps (nowhere ∷ []) in
    let e : suc (i + 1 - length (ps ++ nowhere ∷ [])) ≡ i + 1 - length ps = omega (arith, n, l) in
    append_assoc ps (nowhere ∷ []) (replicate (i + 1 - length (ps ++ nowhere ∷ [])) nowhere) ∙ ap (λ k. ps ++ replicate k nowhere) e

-- none is wanted
pub padded_none : (ps : List Ptr) (i : ℕ) → i < length ps → ps ++ replicate (i + 1 - length ps) nowhere ≡ ps
padded_none ps i l = let e : i + 1 - length ps ≡ 0 = omega (arith, l) in ap (λ k. ps ++ replicate k nowhere) e ∙ append-nil ps

pub marked-set : (ms : List Mark) (ps : List Ptr) (i : ℕ) (m : Mark)
    → marked (set ms i m) ps ≡ set (marked ms ps) i (cell_of m (get_or ps i nowhere))
marked-set [] ps i m = refl
marked-set (x ∷ ms) [] zero m = refl
marked-set (x ∷ ms) (p ∷ ps) zero m = refl
marked-set (x ∷ ms) [] (suc i) m = ap (λ cs. cell_of x nowhere ∷ cs) (marked-set ms [] i m)
marked-set (x ∷ ms) (p ∷ ps) (suc i) m = ap (λ cs. cell_of x p ∷ cs) (marked-set ms ps i m)

marked-set-both : (ms : List Mark) (ps : List Ptr) (i : ℕ) (m : Mark) (p : Ptr) → i < length ps
    → marked (set ms i m) (set ps i p) ≡ set (marked ms ps) i (cell_of m p)
marked-set-both [] ps i m p l = refl
marked-set-both (x ∷ ms) [] i m p l = absurd (omega arith)
marked-set-both (x ∷ ms) (q ∷ ps) zero m p l = refl
marked-set-both (x ∷ ms) (q ∷ ps) (suc i) m p l = ap (λ cs. cell_of x q ∷ cs) (marked-set-both ms ps i m p (omega arith))

marked-nowhere : (ms : List Mark) (n : ℕ) → marked ms (replicate n nowhere) ≡ marked ms []
marked-nowhere [] n = refl
marked-nowhere (m ∷ ms) zero = refl
marked-nowhere (m ∷ ms) (suc n) = ap (λ cs. cell_of m nowhere ∷ cs) (marked-nowhere ms n)

marked-more : (ms : List Mark) (ps : List Ptr) (n : ℕ) → marked ms (ps ++ replicate n nowhere) ≡ marked ms ps
marked-more [] ps n = refl
marked-more (m ∷ ms) [] n = marked-nowhere (m ∷ ms) n
marked-more (m ∷ ms) (p ∷ ps) n = ap (λ cs. cell_of m p ∷ cs) (marked-more ms ps n)

pub marked-with : (ms : List Mark) (ps : List Ptr) (i : ℕ) (m : Mark) (p : Ptr)
    → marked (set ms i m) (with_pointer ps i p) ≡ set (marked ms ps) i (cell_of m p)
marked-with ms ps i m p =
    let long : i < length (ps ++ replicate (i + 1 - length ps) nowhere) = omega
    (arith, length-append ps (replicate (i + 1 - length ps) nowhere), length-replicate (i + 1 - length ps) nowhere) in
    marked-set-both ms (ps ++ replicate (i + 1 - length ps) nowhere) i m p long
    ∙ ap (λ cs. set cs i (cell_of m p)) (marked-more ms ps (i + 1 - length ps))

pub marked-replicate : (n : ℕ) (m : Mark) → marked (replicate n m) [] ≡ replicate n (cell_of m nowhere)
marked-replicate zero m = refl
marked-replicate (suc n) m = ap (λ cs. cell_of m nowhere ∷ cs) (marked-replicate n m)

pub mark_there : (c : Inside) (cells : List Cell) (i : ℕ) → cells_in c ≡ cells → i < length cells → i < vec_len c.marks
mark_there c cells i seen l =
    let ok = c.marks.ok.0 in
    let long = length-marked c.marks.items c.pointers.items in
    let same = ap length seen in
    omega (arith, l, ok, long, same)
