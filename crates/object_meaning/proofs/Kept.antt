-- Each operation keeps memory.
use Rattle.std.proofs.Common.{◌≡◌, ◌≢◌, ℕ, zero, suc, ◌+◌, ◌/◌, ◌<◌, ◌≤◌, ◌⊎◌, inl, inr, ⊎_elim, Bool, true, false, not, ◌||◌, List, [], ◌∷◌, ◌++◌, length, map, get_or, set, replicate, Result, Ok, Err, refl, sym, ap, ◌∙◌, subst, arith, length-append}
use Rattle.std.specs.Prelude.{IfOk, if◌then◌else◌, ℤ, pos, negsuc, ◌+ℤ◌}
use Rattle.std.specs.List.{list_any, list_all}
use Rattle.std.proofs.Math.ListN.{length-set, get_or-append}
use Rattle.std.proofs.Math.Seq.{get_or-append_seam}
use Rattle.std.proofs.lemmas.Bool.{cases_lt, cases_eq, not-false, leb-true, le-leb}
use Rattle.std.proofs.lemmas.List.{get_or-set_same, length-map, length-replicate, length-take}
use Rattle.fc_base.specs.Widths.{width_bytes}
use Rattle.fc_base.specs.declared.levels.Width.{Width}
use Rattle.fc_base.specs.declared.undefined.UndefKind.{UndefKind}
use Rattle.fc_base.specs.declared.undefined.UndefKind.TheVariants as kind
use Rattle.run_meaning.specs.Worlds.{AreBytes}
use Rattle.library_meaning.specs.Scan.{and_then}
use Rattle.object_meaning.specs.Cells.{bytes_of, parts_of, cells_of, are_parts, is_uninit, is_zero, pointer_from, pointer_in}
use Rattle.object_meaning.specs.Laws.{Keeps}
use Rattle.object_meaning.specs.Memory.{load_cells, load_pointer, store_cells, store, store_pointer, copy, IsCell, IsMemory, SameObjects}
use Rattle.object_meaning.specs.Objects.{Object, ended, object_at, is_live, size_at, cell_at, begun, with_cells, add, finish, fill}
use Rattle.object_meaning.specs.Provenance.{null, forgot, IsPlace, IsPointer}
use Rattle.object_meaning.specs.Touches.{reads, writes, is_dead, is_out, lies_in, touch_tests, cells_from, cells_at, put_at}
use Rattle.object_meaning.specs.declared.values.Cell.{Cell}
use Rattle.object_meaning.specs.declared.values.Cell.TheVariants.{Byte, Uninit, Part}
use Rattle.object_meaning.specs.declared.values.Ptr.{Ptr}
use Rattle.object_meaning.specs.declared.values.PtrValue.{PtrValue}
use Rattle.object_meaning.specs.declared.values.PtrValue.TheVariants.{Null, At}
use Rattle.object_meaning.proofs.Stores.{set_other, cell_more, put_at_keeps, cells_are}
use Rattle.object_meaning.proofs.Tested.{tested_ok, or_left, or_right}
use Rattle.object_meaning.proofs.Validity.{live_there, forgot_is}

module _ (objs : List Object) (w : IsMemory objs) where
  store_cells_keeps : (v : PtrValue) (cells : List Cell) → ((j : ℕ) → j < length cells → IsCell objs (get_or cells j Uninit)) → Keeps objs (store_cells objs v cells)
  store_cells_keeps v cells h = tested_ok (λ new. IsMemory new × SameObjects objs new) (touch_tests objs (writes v (length cells) ∷ [])) (Ok (put_at objs v 0 cells)) (λ a.
      let k = put_at_keeps objs v 0 cells w (or_left (is_dead objs v) false a.0) (or_left (is_out objs 0 (length cells) v) false a.1.1.0) h in
      (k.is_memory, k.same))

  bytes_are : (n x : ℕ) (j : ℕ) → j < length (map Byte (bytes_of n x)) → IsCell objs (get_or (map Byte (bytes_of n x)) j Uninit)
  bytes_are zero x j lt = absurd (omega arith)
  bytes_are (suc n) x zero lt = omega arith
  bytes_are (suc n) x (suc j) lt = bytes_are n (x / 256) j (omega arith)

  pub store_keeps : (v : PtrValue) (width : Width) (x : ℕ) → Keeps objs (store objs v width x)
  store_keeps v width x = store_cells_keeps v (map Byte (bytes_of (width_bytes width) x)) (bytes_are (width_bytes width) x)

  parts_are : (p : Ptr) → IsPlace objs p → (n k j : ℕ) → k + n ≤ 8 → j < length (parts_of p k n) → IsCell objs (get_or (parts_of p k n) j Uninit)
  parts_are p h zero k j few lt = absurd (omega arith)
  parts_are p h (suc n) k zero few lt = (h, omega arith)
  parts_are p h (suc n) k (suc j) few lt = parts_are p h n (suc k) j (omega arith) (omega arith)

  zeros_are : (n j : ℕ) → j < length (replicate n (Byte 0)) → IsCell objs (get_or (replicate n (Byte 0)) j Uninit)
  zeros_are zero j lt = absurd (omega arith)
  zeros_are (suc n) zero lt = omega arith
  zeros_are (suc n) (suc j) lt = zeros_are n j (omega arith)

  pointer_cells_are : (x : PtrValue) → IsPointer objs x → (j : ℕ) → j < length (cells_of x) → IsCell objs (get_or (cells_of x) j Uninit)
  pointer_cells_are (Null claim) h = zeros_are 8
  pointer_cells_are (At p) h = λ j lt. parts_are p h 8 0 j (omega arith) lt

  pub store_pointer_keeps : (v x : PtrValue) → IsPointer objs x → Keeps objs (store_pointer objs v x)
  store_pointer_keeps v x h = store_cells_keeps v (cells_of x) (pointer_cells_are x h)

  out_less : (v : PtrValue) (offset n k : ℕ) → k ≤ n → is_out objs offset n v ≡ false → is_out objs offset k v ≡ false
  out_less (Null claim) offset n k less h = refl
  out_less (At p) offset n k less h = go (p.offset +ℤ pos offset) h
    where
      go : (z : ℤ) → not (lies_in (size_at objs p.object) z n) ≡ false → not (lies_in (size_at objs p.object) z k) ≡ false
      go (negsuc q) h = h
      go (pos q) h = let b = leb-true _ _ (not-false _ h) in rw (le-leb (q + k) (size_at objs p.object) (omega (arith, b))) refl

  pub copy_keeps : (to from : PtrValue) (n : ℕ) → Keeps objs (copy objs to from n)
  copy_keeps to from n = tested_ok (λ new. IsMemory new × SameObjects objs new) (touch_tests objs (writes to n ∷ reads from n ∷ [])) (Ok (put_at objs to 0 (cells_at objs (reads from n)))) (λ a.
      let long : length (cells_at objs (reads from n)) ≤ n = omega (arith, length-take n (cells_from objs from 0)) in
      let dead_from = or_left (is_dead objs from) false (or_right (is_dead objs to) (is_dead objs from || false) a.0) in
      let out_from = or_left (is_out objs 0 n from) false (or_right (is_out objs 0 n to) (is_out objs 0 n from || false) a.1.1.0) in
      let out_to = out_less to 0 n (length (cells_at objs (reads from n))) long (or_left (is_out objs 0 n to) (is_out objs 0 n from || false) a.1.1.0) in
      let k = put_at_keeps objs to 0 (cells_at objs (reads from n)) w (or_left (is_dead objs to) (is_dead objs from || false) a.0) out_to (cells_are objs from 0 n w dead_from out_from) in
      (k.is_memory, k.same))

  -- a pointer that cells are is one
  pointer_from_is : (cells : List Cell) → ((j : ℕ) → j < length cells → IsCell objs (get_or cells j Uninit)) → IfOk (pointer_from cells) (IsPointer objs)
  pointer_from_is [] h = tt
  pointer_from_is (Part p k ∷ cs) h = go (are_parts p 0 (Part p k ∷ cs))
    where
      go : (b : Bool) → IfOk (if b then Ok (forgot (At p)) else Err kind.PointerBytes) (IsPointer objs)
      go true = forgot_is objs (At p) (h 0 (omega arith)).0
      go false = tt
  pointer_from_is (Byte b ∷ cs) h = go (list_all is_zero (Byte b ∷ cs))
    where
      go : (t : Bool) → IfOk (if t then Ok null else Err kind.PointerBytes) (IsPointer objs)
      go true = tt
      go false = tt
  pointer_from_is (Uninit ∷ cs) h = tt

  pointer_in_is : (cells : List Cell) → ((j : ℕ) → j < length cells → IsCell objs (get_or cells j Uninit)) → IfOk (pointer_in cells) (IsPointer objs)
  pointer_in_is cells h = go (list_any is_uninit cells)
    where
      go : (t : Bool) → IfOk (if t then Err kind.Uninitialised else pointer_from cells) (IsPointer objs)
      go true = tt
      go false = pointer_from_is cells h

  then_ok : {X Y : Type 0} (P : X → Type 0) (Q : Y → Type 0) (r : Result X UndefKind) (f : X → Result Y UndefKind) → IfOk r P → ((x : X) → P x → IfOk (f x) Q) → IfOk (and_then r f) Q
  then_ok P Q (Ok x) f h k = k x h
  then_ok P Q (Err e) f h k = tt

  abbrev AreCells : List Cell → Type 0
  AreCells cells = (j : ℕ) → j < length cells → IsCell objs (get_or cells j Uninit)

  pub load_pointer_is : (v : PtrValue) → IfOk (load_pointer objs v) (IsPointer objs)
  load_pointer_is v = then_ok AreCells (IsPointer objs) (load_cells objs v 8) pointer_in
      (tested_ok AreCells (touch_tests objs (reads v 8 ∷ [])) (Ok (cells_at objs (reads v 8))) (λ a.
      cells_are objs v 0 8 w (or_left (is_dead objs v) false a.0) (or_left (is_out objs 0 8 v) false a.1.1.0)))
      pointer_in_is

  -- ---- objects that begin and end

  -- an object in the place of another, which kept no pointer that it should not
  changed : (o : ℕ) (object : Object) → (object.alive ≡ true → (is_live objs o ≡ true) × (object.size ≡ size_at objs o)) → (object.alive ≡ true → length object.cells ≡ object.size) → ((k : ℕ) → object.alive ≡ true → k < object.size → IsCell objs (get_or object.cells k Uninit)) → IsMemory (set objs o object)
  changed o object less full cells = record { full = fulls; cells = all }
    where
      fits : (p : ℕ) → is_live (set objs o object) p ≡ true → (p ≡ o) × (object_at (set objs o object) p ≡ object) ⊎ (p ≢ o) × (object_at (set objs o object) p ≡ object_at objs p)
      fits p l = ⊎_elim (λ (e : p ≡ o). inl (e, subst (λ q. object_at (set objs o object) q ≡ object) (sym e) (get_or-set_same objs o object ended (let t = live_there (set objs o object) p l in omega (arith, t, e, length-set objs o object))))) (λ (n : p ≢ o). inr (n, set_other objs o p object n)) (cases_eq p o)

      more : (c : Cell) → IsCell objs c → IsCell (set objs o object) c
      more c f = cell_more objs (set objs o object) c (omega (arith, length-set objs o object)) (λ p lt l. ⊎_elim
          (λ (e : (p ≡ o) × (object_at (set objs o object) p ≡ object)).
          let alive : object.alive ≡ true = sym (ap (λ (x : Object). x.alive) e.1) ∙ l in
          let both = less alive in
          (subst (λ q. is_live objs q ≡ true) (sym e.0) both.0, ap (λ (x : Object). x.size) e.1 ∙ subst (λ q. object.size ≡ size_at objs q) (sym e.0) both.1))
          (λ (n : (p ≢ o) × (object_at (set objs o object) p ≡ object_at objs p)). (sym (ap (λ (x : Object). x.alive) n.1) ∙ l, ap (λ (x : Object). x.size) n.1))
          (fits p l)) f

      fulls : (p : ℕ) → is_live (set objs o object) p ≡ true → length (object_at (set objs o object) p).cells ≡ size_at (set objs o object) p
      fulls p l = ⊎_elim
          (λ (e : (p ≡ o) × (object_at (set objs o object) p ≡ object)). subst (λ (x : Object). length x.cells ≡ x.size) (sym e.1) (full (sym (ap (λ (x : Object). x.alive) e.1) ∙ l)))
          (λ (n : (p ≢ o) × (object_at (set objs o object) p ≡ object_at objs p)). subst (λ (x : Object). length x.cells ≡ x.size) (sym n.1) (w.full p (sym (ap (λ (x : Object). x.alive) n.1) ∙ l)))
          (fits p l)

      all : (p k : ℕ) → is_live (set objs o object) p ≡ true → k < size_at (set objs o object) p → IsCell (set objs o object) (cell_at (set objs o object) p k)
      all p k l lt = ⊎_elim
          (λ (e : (p ≡ o) × (object_at (set objs o object) p ≡ object)).
          let size = ap (λ (x : Object). x.size) e.1 in
          more _ (subst (λ (x : Object). IsCell objs (get_or x.cells k Uninit)) (sym e.1) (cells k (sym (ap (λ (x : Object). x.alive) e.1) ∙ l) (omega (arith, lt, size)))))
          (λ (n : (p ≢ o) × (object_at (set objs o object) p ≡ object_at objs p)).
          let size = ap (λ (x : Object). x.size) n.1 in
          more _ (subst (λ (x : Object). IsCell objs (get_or x.cells k Uninit)) (sym n.1) (w.cells p k (sym (ap (λ (x : Object). x.alive) n.1) ∙ l) (omega (arith, lt, size)))))
          (fits p l)

  pub finish_keeps : (o : ℕ) → IsMemory (finish objs o)
  finish_keeps o = changed o ended (λ l. absurd (cc)) (λ l. absurd (cc)) (λ k l. absurd (cc))

  byte_cells_are : (bytes : List ℕ) → AreBytes bytes → (k : ℕ) → k < length bytes → IsCell objs (get_or (map Byte bytes) k Uninit)
  byte_cells_are [] h k lt = absurd (omega arith)
  byte_cells_are (b ∷ bs) h zero lt = h.0
  byte_cells_are (b ∷ bs) h (suc k) lt = byte_cells_are bs h.1 k (omega arith)

  pub fill_keeps : (o : ℕ) (bytes : List ℕ) → length bytes ≡ size_at objs o → AreBytes bytes → IsMemory (fill objs o bytes)
  fill_keeps o bytes n h = changed o (with_cells (object_at objs o) (map Byte bytes)) (λ l. (l, refl)) (λ l. length-map bytes Byte ∙ n) (λ k l lt. byte_cells_are bytes h k (omega (arith, n, lt)))

  begun_are : (size : ℕ) (c : Cell) → IsCell objs c → (k : ℕ) → k < size → IsCell objs (get_or (replicate size c) k Uninit)
  begun_are zero c h k lt = absurd (omega arith)
  begun_are (suc n) c h zero lt = h
  begun_are (suc n) c h (suc k) lt = begun_are n c h k (omega arith)

  first_cell : (zeroed : Bool) → IsCell objs (if zeroed then Byte 0 else Uninit)
  first_cell true = omega arith
  first_cell false = tt

  module _ (object : Object) (full : length object.cells ≡ object.size) (cells : (k : ℕ) → k < object.size → IsCell objs (get_or object.cells k Uninit)) where
    old_at : (p : ℕ) → p < length objs → object_at (objs ++ object ∷ []) p ≡ object_at objs p
    old_at p lt = get_or-append objs (object ∷ []) ended p lt

    new_at : object_at (objs ++ object ∷ []) (length objs) ≡ object
    new_at = get_or-append_seam objs object [] ended

    length_added : length (objs ++ object ∷ []) ≡ length objs + 1
    length_added = length-append objs (object ∷ [])

    which : (p : ℕ) → is_live (objs ++ object ∷ []) p ≡ true → (object_at (objs ++ object ∷ []) p ≡ object) ⊎ (p < length objs)
    which p l = ⊎_elim (λ (lt : p < length objs). inr lt) (λ (ge : length objs ≤ p).
        let t = live_there (objs ++ object ∷ []) p l in
        let e : length objs ≡ p = omega (arith, t, ge, length_added) in
        inl (subst (λ q. object_at (objs ++ object ∷ []) q ≡ object) e new_at)) (cases_lt p (length objs))

    more_cells : (c : Cell) → IsCell objs c → IsCell (objs ++ object ∷ []) c
    more_cells c f = cell_more objs (objs ++ object ∷ []) c (omega (arith, length_added)) (λ p lt l. (sym (ap (λ (x : Object). x.alive) (old_at p lt)) ∙ l, ap (λ (x : Object). x.size) (old_at p lt))) f

    pub added : IsMemory (objs ++ object ∷ [])
    added = record {
      full = λ p l. ⊎_elim
          (λ (e : object_at (objs ++ object ∷ []) p ≡ object). subst (λ (x : Object). length x.cells ≡ x.size) (sym e) full)
          (λ (lt : p < length objs). subst (λ (x : Object). length x.cells ≡ x.size) (sym (old_at p lt)) (w.full p (sym (ap (λ (x : Object). x.alive) (old_at p lt)) ∙ l)))
          (which p l);
      cells = λ p k l b. ⊎_elim
          (λ (e : object_at (objs ++ object ∷ []) p ≡ object).
          let size = ap (λ (x : Object). x.size) e in
          more_cells _ (subst (λ (x : Object). IsCell objs (get_or x.cells k Uninit)) (sym e) (cells k (omega (arith, b, size)))))
          (λ (lt : p < length objs).
          let size = ap (λ (x : Object). x.size) (old_at p lt) in
          more_cells _ (subst (λ (x : Object). IsCell objs (get_or x.cells k Uninit)) (sym (old_at p lt)) (w.cells p k (sym (ap (λ (x : Object). x.alive) (old_at p lt)) ∙ l) (omega (arith, b, size)))))
          (which p l);
    }

  pub add_keeps : (size : ℕ) (writable zeroed : Bool) → IsMemory (add objs (begun size writable zeroed))
  add_keeps size writable zeroed = added (begun size writable zeroed) (length-replicate size (if zeroed then Byte 0 else Uninit)) (begun_are size (if zeroed then Byte 0 else Uninit) (first_cell zeroed))
