-- A store of cells keeps the relation.
use Rattle.std.proofs.Common.{◌≡◌, ◌≢◌, ℕ, ◌+◌, ◌-◌, ◌<◌, ◌≤◌, ◌⊎◌, inl, inr, ⊎_elim, Bool, true, List, length, get_or, set, refl, sym, ap, ◌∙◌, subst, arith}
use Rattle.std.specs.Prelude.{pos}
use Rattle.std.proofs.lemmas.Bool.{cases_lt, cases_eq}
use Rattle.library_meaning.specs.Memory.{put, memory_size}
use Rattle.object_meaning.specs.Memory.{IsCell, IsMemory, SameObjects}
use Rattle.object_meaning.specs.Objects.{Object, object_at, is_live, size_at, cell_at, put_cells}
use Rattle.object_meaning.specs.declared.values.Cell.{Cell}
use Rattle.object_meaning.specs.declared.values.Cell.TheVariants.{Byte, Uninit, Part}
use Rattle.object_meaning.specs.declared.values.Ptr.{Ptr}
use Rattle.objects_on_bytes.specs.Relation.{CellIs, reading, Layout, Corresponds}
use Rattle.object_meaning.proofs.Puts.{put_outside, put_inside}
use Rattle.object_meaning.proofs.Stores.{set_same, set_other, set_keeps, stored, put_is_memory, put_same}

-- the cells stand in memory from a on
abbrev pub CellsAt : (ℕ → ℕ) → (ℕ → Bool) → (ℕ → ℕ) → ℕ → List Cell → Type 0
CellsAt at alive m a cs = (i : ℕ) → i < length cs → CellIs at alive (get_or cs i Uninit) (m (a + i))

-- fewer live objects say less
pub cell_less : (at at' : ℕ → ℕ) (alive alive' : ℕ → Bool) (c : Cell) (b : ℕ) → ((p : Ptr) (k : ℕ) → c ≡ Part p k → alive' p.object ≡ true → (alive p.object ≡ true) × (at' p.object ≡ at p.object)) → CellIs at alive c b → CellIs at' alive' c b
cell_less at at' alive alive' (Byte v) b h is = is
cell_less at at' alive alive' Uninit b h is = tt
cell_less at at' alive alive' (Part p k) b h is = λ l. let both = h p k refl l in rw both.1 (is both.0)

pub layout_less : (at at' : ℕ → ℕ) (objs objs' : List Object) → ((o : ℕ) → is_live objs' o ≡ true → (is_live objs o ≡ true) × (at' o ≡ at o) × (size_at objs' o ≡ size_at objs o)) → Layout at objs → Layout at' objs'
layout_less at at' objs objs' h y = record {
  apart = λ o p lo lp ne. let ho = h o lo in let hp = h p lp in rw (ho.1, ho.2, hp.1, hp.2) (y.apart o p ho.0 hp.0 ne);
  above = λ o lo. let ho = h o lo in rw ho.1 (y.above o ho.0);
  below = λ o lo. let ho = h o lo in rw (ho.1, ho.2) (y.below o ho.0);
}

-- the machine wrote what the new cells say at an address, and nothing else
pub record Wrote (at : ℕ → ℕ) (alive : ℕ → Bool) (m m' : ℕ → ℕ) (a : ℕ) (new : List Cell) : Type 0 where
  pub inside : CellsAt at alive m' a new
  pub outside : (x : ℕ) → (x < a) ⊎ (a + length new ≤ x) → m' x ≡ m x

-- the store's core
pub put_kept : (at : ℕ → ℕ) (objs : List Object) (m m' : ℕ → ℕ) (o i : ℕ) (new : List Cell) → Corresponds at objs m → IsMemory objs → is_live objs o ≡ true → i + length new ≤ size_at objs o → Wrote at (is_live objs) m m' (at o + i) new → Corresponds at (put_cells objs o (pos i) new) m'
put_kept at objs m m' o i new c w l b wr = record { layout = lay; cells = body }
  where
    same_live : (p : ℕ) → is_live (set objs o (stored objs o i new)) p ≡ is_live objs p
    same_live p = set_keeps (λ x. x.alive) objs o (stored objs o i new) l refl p

    same_size : (p : ℕ) → size_at (set objs o (stored objs o i new)) p ≡ size_at objs p
    same_size p = set_keeps (λ x. x.size) objs o (stored objs o i new) l refl p

    lay : Layout at (set objs o (stored objs o i new))
    lay = layout_less at at objs (set objs o (stored objs o i new)) (λ p lp. (sym (same_live p) ∙ lp, refl, same_size p)) c.layout

    less : (x : Cell) (y : ℕ) → CellIs at (is_live objs) x y → CellIs at (is_live (set objs o (stored objs o i new))) x y
    less x y = cell_less at at (is_live objs) (is_live (set objs o (stored objs o i new))) x y (λ p k e lp. (sym (same_live p.object) ∙ lp, refl))

    room : i + length new ≤ length (object_at objs o).cells
    room = let n = w.full o l in omega (arith, n)

    -- the object's own cells
    own : (k : ℕ) → k < size_at objs o → CellIs at (is_live objs) (get_or (put i new (object_at objs o).cells) k Uninit) (m' (at o + k))
    own k lt =
        ⊎_elim
        (λ (h : k < i). rw (put_outside i new (object_at objs o).cells room k Uninit (inl h), wr.outside (at o + k) (inl (omega arith))) (c.cells o k l lt))
        (λ (h : i ≤ k). ⊎_elim
        (λ (g : k < i + length new).
        let e : k ≡ i + (k - i) = omega arith in
        let f : at o + k ≡ at o + i + (k - i) = omega arith in
        let r : get_or (put i new (object_at objs o).cells) k Uninit ≡ get_or new (k - i) Uninit = ap (λ x. get_or (put i new (object_at objs o).cells) x Uninit) e ∙ put_inside i new (object_at objs o).cells room (k - i) Uninit (omega arith) in
        rw (r, f) (wr.inside (k - i) (omega arith)))
        (λ (g : i + length new ≤ k). rw (put_outside i new (object_at objs o).cells room k Uninit (inr g), wr.outside (at o + k) (inr (omega arith))) (c.cells o k l lt))
        (cases_lt k (i + length new)))
        (cases_lt k i)

    -- those of another
    others : (p k : ℕ) → p ≢ o → is_live objs p ≡ true → k < size_at objs p → CellIs at (is_live objs) (cell_at objs p k) (m' (at p + k))
    others p k ne lp lt =
        let far = c.layout.apart p o lp l ne in
        rw (wr.outside (at p + k) (⊎_elim (λ (h : at p + size_at objs p < at o). inl (omega arith)) (λ (h : at o + size_at objs o < at p). inr (omega arith)) far)) (c.cells p k lp lt)

    body : (p k : ℕ) → is_live (set objs o (stored objs o i new)) p ≡ true → k < size_at (set objs o (stored objs o i new)) p → CellIs at (is_live (set objs o (stored objs o i new))) (cell_at (set objs o (stored objs o i new)) p k) (m' (at p + k))
    body p k lp lt =
        let lp' : is_live objs p ≡ true = sym (same_live p) ∙ lp in
        let sz : size_at (set objs o (stored objs o i new)) p ≡ size_at objs p = same_size p in
        let lt' : k < size_at objs p = omega (arith, sz) in
        ⊎_elim
        (λ (h : p ≡ o).
        let e : object_at (set objs o (stored objs o i new)) p ≡ (stored objs o i new) = ap (object_at (set objs o (stored objs o i new))) h ∙ set_same objs o (stored objs o i new) l in
        let lt'' : k < size_at objs o = subst (λ q. k < size_at objs q) h lt' in
        less _ _ (subst (λ (x : Object). CellIs at (is_live objs) (get_or x.cells k Uninit) (m' (at p + k))) (sym e) (subst (λ q. CellIs at (is_live objs) (get_or (put i new (object_at objs o).cells) k Uninit) (m' (at q + k))) (sym h) (own k lt''))))
        (λ (h : p ≢ o). less _ _ (subst (λ (x : Object). CellIs at (is_live objs) (get_or x.cells k Uninit) (m' (at p + k))) (sym (set_other objs o p (stored objs o i new) h)) (others p k h lp' lt')))
        (cases_eq p o)

-- bytes written to the machine's list
pub wrote_list : (at : ℕ → ℕ) (alive : ℕ → Bool) (m : List ℕ) (a : ℕ) (new : List Cell) (bs : List ℕ) → length new ≡ length bs → a + length bs ≤ length m → ((i : ℕ) → i < length new → CellIs at alive (get_or new i Uninit) (get_or bs i 0)) → Wrote at alive (reading m) (reading (put a bs m)) a new
wrote_list at alive m a new bs n b h = record {
  inside = λ i lt. rw (put_inside a bs m b i 0 (omega arith)) (h i lt);
  outside = λ x out. put_outside a bs m b x 0 (subst (λ k. (x < a) ⊎ (a + k ≤ x)) n out);
}

-- the two memories after a store
pub record Kept (at : ℕ → ℕ) (objs objs' : List Object) (m : List ℕ) : Type 0 where
  pub corresponds : Corresponds at objs' (reading m)
  pub is_memory : IsMemory objs'
  pub same : SameObjects objs objs'

-- cells and bytes that say the same, put at a live object's place
pub put_follows : (at : ℕ → ℕ) (objs : List Object) (m : List ℕ) (o i r : ℕ) (new : List Cell) (bs : List ℕ) → Corresponds at objs (reading m) → IsMemory objs → length m ≡ memory_size → is_live objs o ≡ true → i + length new ≤ size_at objs o → r ≡ at o + i → length new ≡ length bs → ((j : ℕ) → j < length new → IsCell objs (get_or new j Uninit)) → ((j : ℕ) → j < length new → CellIs at (is_live objs) (get_or new j Uninit) (get_or bs j 0)) → Kept at objs (put_cells objs o (pos i) new) (put r bs m)
put_follows at objs m o i r new bs c w big l b rp n fit h =
    let high = c.layout.below o l in
    let wr = wrote_list at (is_live objs) m (at o + i) new bs n (omega (arith, high)) h in
    rw rp (record {
      corresponds = put_kept at objs (reading m) _ o i new c w l b wr;
      is_memory = put_is_memory objs o i new w l b fit;
      same = put_same objs o i new l;
    })
