-- A change of one object keeps memory.
use Rattle.std.proofs.Common.{◌≡◌, ◌≢◌, ℕ, ◌+◌, ◌-◌, ◌<◌, ◌≤◌, inl, inr, ⊎_elim, true, false, not, List, length, take, drop, get_or, set, refl, sym, ap, ◌∙◌, subst, arith}
use Rattle.std.specs.Prelude.{ℤ, pos, negsuc, ◌+ℤ◌}
use Rattle.std.proofs.Math.ListN.{length-set}
use Rattle.std.proofs.lemmas.Bool.{cases_lt, cases_eq, not-false, leb-true}
use Rattle.std.proofs.lemmas.List.{get_or-set_same, get_or-set_other, get_or-take, get_or-drop, length-take}
use Rattle.library_meaning.specs.Memory.{put}
use Rattle.object_meaning.specs.Memory.{IsCell, IsMemory, SameObjects}
use Rattle.object_meaning.specs.Objects.{Object, ended, object_at, is_live, size_at, cell_at, cells_behind, put_cells, with_cells}
use Rattle.object_meaning.specs.Provenance.{IsPlace, IsValid}
use Rattle.object_meaning.specs.Touches.{is_dead, is_out, lies_in, cells_from, put_at}
use Rattle.object_meaning.specs.declared.values.Cell.{Cell}
use Rattle.object_meaning.specs.declared.values.Cell.TheVariants.{Byte, Uninit, Part}
use Rattle.object_meaning.specs.declared.values.Ptr.{Ptr}
use Rattle.object_meaning.specs.declared.values.PtrValue.{PtrValue}
use Rattle.object_meaning.specs.declared.values.PtrValue.TheVariants.{Null, At}
use Rattle.object_meaning.proofs.Puts.{length-put, put_outside, put_inside}
use Rattle.object_meaning.proofs.Validity.{live_there}

-- the objects after a change of one
pub set_same : (objs : List Object) (o : ℕ) (ob : Object) → is_live objs o ≡ true → object_at (set objs o ob) o ≡ ob
set_same objs o ob l = get_or-set_same objs o ob ended (live_there objs o l)

pub set_other : (objs : List Object) (o p : ℕ) (ob : Object) → p ≢ o → object_at (set objs o ob) p ≡ object_at objs p
set_other objs o p ob ne = get_or-set_other objs o p ob ended ne

-- a field that the change of one object keeps is kept of all
pub set_keeps : {X : Type 0} (f : Object → X) (objs : List Object) (o : ℕ) (ob : Object) → is_live objs o ≡ true → f ob ≡ f (object_at objs o) → (p : ℕ) → f (object_at (set objs o ob) p) ≡ f (object_at objs p)
set_keeps f objs o ob l e p = ⊎_elim (λ (h : p ≡ o). subst (λ q. f (object_at (set objs o ob) q) ≡ f (object_at objs q)) (sym h) (ap f (set_same objs o ob l) ∙ e)) (λ (h : p ≢ o). ap f (set_other objs o p ob h)) (cases_eq p o)

-- an object with new cells
abbrev pub stored : List Object → ℕ → ℕ → List Cell → Object
stored objs o i new = with_cells (object_at objs o) (put i new (object_at objs o).cells)

-- the cells that a store leaves are those that were there, and the new ones
pub cell_of_write : (P : Cell → Type 0) (xs : List Cell) (i : ℕ) (new : List Cell) (k : ℕ) → i + length new ≤ length xs → P (get_or xs k Uninit) → ((j : ℕ) → j < length new → P (get_or new j Uninit)) → P (get_or (put i new xs) k Uninit)
cell_of_write P xs i new k b old here =
    ⊎_elim
    (λ (h : k < i). rw (put_outside i new xs b k Uninit (inl h)) old)
    (λ (h : i ≤ k). ⊎_elim
    (λ (g : k < i + length new).
    let e : i + (k - i) ≡ k = omega arith in
    let r : get_or (put i new xs) k Uninit ≡ get_or new (k - i) Uninit = ap (λ x. get_or (put i new xs) x Uninit) (sym e) ∙ put_inside i new xs b (k - i) Uninit (omega arith) in
    rw r (here (k - i) (omega arith)))
    (λ (g : i + length new ≤ k). rw (put_outside i new xs b k Uninit (inr g)) old)
    (cases_lt k (i + length new)))
    (cases_lt k i)

-- a pointer is one, and a cell, where as many objects are there and no other live ones, of the same sizes
pub place_more : (objs objs' : List Object) (p : Ptr) → length objs ≤ length objs' → ((o : ℕ) → o < length objs → is_live objs' o ≡ true → (is_live objs o ≡ true) × (size_at objs' o ≡ size_at objs o)) → IsPlace objs p → IsPlace objs' p
place_more objs objs' p n s h = record {
  there = let t = h.there in omega (arith, t);
  valid = λ l. let both = s p.object h.there l in subst (λ size. IsValid size p) (sym both.1) (h.valid both.0);
}

pub cell_more : (objs objs' : List Object) (c : Cell) → length objs ≤ length objs' → ((o : ℕ) → o < length objs → is_live objs' o ≡ true → (is_live objs o ≡ true) × (size_at objs' o ≡ size_at objs o)) → IsCell objs c → IsCell objs' c
cell_more objs objs' (Byte v) n s f = f
cell_more objs objs' Uninit n s f = tt
cell_more objs objs' (Part p k) n s f = (place_more objs objs' p n s f.0, f.1)

pub put_is_memory : (objs : List Object) (o i : ℕ) (new : List Cell) → IsMemory objs → is_live objs o ≡ true → i + length new ≤ size_at objs o → ((j : ℕ) → j < length new → IsCell objs (get_or new j Uninit)) → IsMemory (put_cells objs o (pos i) new)
put_is_memory objs o i new w l b h = record { full = full; cells = body }
  where
    same_live : (p : ℕ) → is_live (set objs o (stored objs o i new)) p ≡ is_live objs p
    same_live p = set_keeps (λ x. x.alive) objs o (stored objs o i new) l refl p

    same_size : (p : ℕ) → size_at (set objs o (stored objs o i new)) p ≡ size_at objs p
    same_size p = set_keeps (λ x. x.size) objs o (stored objs o i new) l refl p

    room : i + length new ≤ length (object_at objs o).cells
    room = let n = w.full o l in omega (arith, n)

    full : (p : ℕ) → is_live (set objs o (stored objs o i new)) p ≡ true → length (object_at (set objs o (stored objs o i new)) p).cells ≡ size_at (set objs o (stored objs o i new)) p
    full p lp = set_keeps (λ x. length x.cells) objs o (stored objs o i new) l (length-put i new (object_at objs o).cells room) p ∙ w.full p (sym (same_live p) ∙ lp) ∙ sym (same_size p)

    more : (c : Cell) → IsCell objs c → IsCell (set objs o (stored objs o i new)) c
    more c f = cell_more objs (set objs o (stored objs o i new)) c (omega (arith, length-set objs o (stored objs o i new))) (λ p lt lp. (sym (same_live p) ∙ lp, same_size p)) f

    body : (p k : ℕ) → is_live (set objs o (stored objs o i new)) p ≡ true → k < size_at (set objs o (stored objs o i new)) p → IsCell (set objs o (stored objs o i new)) (cell_at (set objs o (stored objs o i new)) p k)
    body p k lp lt =
        let sz = same_size p in
        let lp' : is_live objs p ≡ true = sym (same_live p) ∙ lp in
        let lt' : k < size_at objs p = omega (arith, sz) in
        more _ (⊎_elim
        (λ (e : p ≡ o).
        let lt'' : k < size_at objs o = subst (λ q. k < size_at objs q) e lt' in
        subst (λ q. IsCell objs (cell_at (set objs o (stored objs o i new)) q k)) (sym e)
        (subst (λ (x : Object). IsCell objs (get_or x.cells k Uninit)) (sym (set_same objs o (stored objs o i new) l))
        (cell_of_write (IsCell objs) (object_at objs o).cells i new k room (w.cells o k l lt'') h)))
        (λ (ne : p ≢ o). subst (λ (x : Object). IsCell objs (get_or x.cells k Uninit)) (sym (set_other objs o p (stored objs o i new) ne)) (w.cells p k lp' lt'))
        (cases_eq p o))

pub put_same : (objs : List Object) (o i : ℕ) (new : List Cell) → is_live objs o ≡ true → SameObjects objs (put_cells objs o (pos i) new)
put_same objs o i new l = record {
  live = λ q. set_keeps (λ x. x.alive) objs o (stored objs o i new) l refl q;
  sizes = λ q. set_keeps (λ x. x.size) objs o (stored objs o i new) l refl q;
  count = length-set objs o (stored objs o i new);
}

-- where a pointer's bytes begin in its object
pub record Start (objs : List Object) (p : Ptr) (offset count : ℕ) : Type 0 where
  pub start : ℕ
  pub is : p.offset +ℤ pos offset ≡ pos start
  pub fits : start + count ≤ size_at objs p.object

pub start_of : (objs : List Object) (p : Ptr) (offset count : ℕ) → is_out objs offset count (At p) ≡ false → Start objs p offset count
start_of objs p offset count inside = go (p.offset +ℤ pos offset) refl inside
  where
    go : (z : ℤ) → p.offset +ℤ pos offset ≡ z → not (lies_in (size_at objs p.object) z count) ≡ false → Start objs p offset count
    go (negsuc q) e h = absurd (cc)
    go (pos q) e h = record { start = q; is = e; fits = leb-true _ _ (not-false _ h) }

-- what a store keeps
pub record StoreKeeps (old new : List Object) : Type 0 where
  pub is_memory : IsMemory new
  pub same : SameObjects old new

pub put_at_keeps : (objs : List Object) (v : PtrValue) (offset : ℕ) (new : List Cell) → IsMemory objs → is_dead objs v ≡ false → is_out objs offset (length new) v ≡ false → ((j : ℕ) → j < length new → IsCell objs (get_or new j Uninit)) → StoreKeeps objs (put_at objs v offset new)
put_at_keeps objs (Null claim) offset new w d o h = record { is_memory = w; same = record { live = λ q. refl; sizes = λ q. refl; count = refl } }
put_at_keeps objs (At p) offset new w d o h =
    let l : is_live objs p.object ≡ true = not-false _ d in
    let s = start_of objs p offset (length new) o in
    subst (λ z. StoreKeeps objs (put_cells objs p.object z new)) (sym s.is) (record {
      is_memory = put_is_memory objs p.object s.start new w l s.fits h;
      same = put_same objs p.object s.start new l;
    })

-- the cells behind a pointer
pub cells_are : (objs : List Object) (v : PtrValue) (offset count : ℕ) → IsMemory objs → is_dead objs v ≡ false → is_out objs offset count v ≡ false → (j : ℕ) → j < length (take count (cells_from objs v offset)) → IsCell objs (get_or (take count (cells_from objs v offset)) j Uninit)
cells_are objs (Null claim) offset count w d o j lt = absurd (let n = length-take count (cells_from objs (Null claim) offset) in omega (arith, n, lt))
cells_are objs (At p) offset count w d o j lt =
    let l : is_live objs p.object ≡ true = not-false _ d in
    let s = start_of objs p offset count o in
    let n = w.full p.object l in
    let fits = s.fits in
    let here : take count (cells_from objs (At p) offset) ≡ take count (drop s.start (object_at objs p.object).cells) = ap (λ z. take count (cells_behind (object_at objs p.object).cells z)) s.is in
    let long : length (take count (drop s.start (object_at objs p.object).cells)) ≤ count = omega (arith, length-take count (drop s.start (object_at objs p.object).cells)) in
    let under : j < count = let same = ap length here in omega (arith, same, lt, long) in
    subst (λ cs. IsCell objs (get_or cs j Uninit)) (sym here)
    (rw (get_or-take count (drop s.start (object_at objs p.object).cells) j Uninit under, get_or-drop s.start (object_at objs p.object).cells j Uninit) (w.cells p.object (s.start + j) l (omega (arith, fits, under))))
