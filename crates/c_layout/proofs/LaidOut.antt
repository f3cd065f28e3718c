-- The layouts that a list of tags keeps stay right when a definition is added or set.
use Rattle.std.proofs.Common.{◌≡◌, ◌≢◌, ℕ, zero, suc, ◌+◌, List, [], ◌∷◌, ◌++◌, length, true, false, cond, Option, None, Some, IfSome, refl, sym, subst, ◌∙◌, ap, inl, inr, arith}
use Rattle.std.proofs.lemmas.List.{length-map}
use Rattle.std.specs.Prelude.{slice_get, slice_set, is_some, IsSomeAnd}
use Rattle.std.specs.Option.{option_map}
use Rattle.std.proofs.lemmas.Option.{slice_get-map, slice_get_within}
use Rattle.std.proofs.lemmas.Bool.Decides.{eqb_tells}
use Rattle.c_layout.specs.declared.tags.Entry.{Entry}
use Rattle.c_layout.specs.declared.tags.TagDef.{TagDef}
use Rattle.c_layout.specs.Capped.{capped}
use Rattle.c_layout.specs.Depths.{capped_depth, definition_depth, tag_depth}
use Rattle.c_layout.specs.Entries.{definitions, kept_layout, kept_depth, AreOffsets, AreLaidOut}
use Rattle.c_layout.specs.Layouts.{definition_layout, member_layouts, tag_layout, complete_count, HaveSizes}
use Rattle.c_layout.proofs.KeptOffsets.{has_members, kept_offsets_stay}
use Rattle.c_layout.proofs.Edits.{slice_get-push_same, slice_get-push_other, slice_get-set_same, slice_get-set_other, count_by-push, count_by-set}
use Rattle.c_layout.proofs.DepthGrounds.{same_depth, new_depth}
use Rattle.c_layout.proofs.Grounds.{Extends, Keeps, extends, keeps, has_layout, same_layout, new_layout, now_grounded}

some_same : {A : Type 0} {x y : A} → ◌≡◌ {A = Option A} (Some x) (Some y) → x ≡ y
some_same e = cc

module _ (es fs : List Entry) (t : ℕ) (e : Entry) (at : slice_get fs t ≡ Some e)
    (others : (k : ℕ) → k ≢ t → slice_get fs k ≡ slice_get es k)
    (unset : (old : TagDef) → slice_get (definitions es) t ≡ Some old → old.complete ≡ false)
    (count : complete_count (definitions fs) ≡ complete_count (definitions es) + cond e.def.complete 1 0)
    (laid : AreLaidOut es) (sizes : HaveSizes (definitions es) e.def)
    (layout : e.layout ≡ option_map capped (definition_layout (tag_layout (definitions es)) e.def))
    (depth : e.depth ≡ capped_depth (definition_depth (tag_depth (definitions es)) e.def))
    (offsets : IfSome e.offsets (AreOffsets (definitions es) e.def)) where
  definition_at : slice_get (definitions fs) t ≡ Some e.def
  definition_at = slice_get-map (λ x. x.def) fs t ∙ ap (option_map (λ (x : Entry). x.def)) at

  definition_others : (k : ℕ) → k ≢ t → slice_get (definitions fs) k ≡ slice_get (definitions es) k
  definition_others k h = slice_get-map (λ x. x.def) fs k ∙ ap (option_map (λ (x : Entry). x.def)) (others k h) ∙ sym (slice_get-map (λ x. x.def) es k)

  kept : (k : ℕ) → kept_layout fs k ≡ option_map capped (tag_layout (definitions fs) k)
  kept k = elim (eqb_tells k t) [
    | inl p ↦ rw p.1 (rw (at, new_layout (definitions es) (definitions fs) t e.def definition_at definition_others unset count laid.sized sizes) layout)
    | inr p ↦ rw (others k p.1, same_layout (definitions es) (definitions fs) t e.def definition_at definition_others unset count laid.sized sizes k p.1) (laid.kept k)
  ]

  extended : Extends (definitions es) (definitions fs)
  extended = extends (definitions es) (definitions fs) t e.def definition_at definition_others unset count laid.sized sizes

  has_size : e.def.complete ≡ true → is_some (definition_layout (tag_layout (definitions es)) e.def) ≡ true
  has_size = has_layout (definitions es) (definitions fs) t e.def definition_at definition_others unset count laid.sized sizes

  deep : (k : ℕ) → kept_depth fs k ≡ capped_depth (tag_depth (definitions fs) k)
  deep k = elim (eqb_tells k t) [
    | inl p ↦ rw p.1 (rw (at, new_depth (definitions es) (definitions fs) t e.def definition_at definition_others extended count laid.sized has_size) depth)
    | inr p ↦ rw (others k p.1, same_depth (definitions es) (definitions fs) t e.def definition_at definition_others extended count laid.sized has_size k p.1) (laid.deep k)
  ]

  kept_places : Keeps (tag_layout (definitions es)) (tag_layout (definitions fs))
  kept_places = keeps (definitions es) (definitions fs) t e.def definition_at definition_others unset count laid.sized sizes

  stay : (x : Entry) → (x.def.complete ≡ true → is_some (member_layouts (tag_layout (definitions es)) x.def.members) ≡ true) →
      IfSome x.offsets (AreOffsets (definitions es) x.def) → IfSome x.offsets (AreOffsets (definitions fs) x.def)
  stay x h p = kept_offsets_stay (definitions es) (definitions fs) kept_places x.def h x.offsets p

  had : (k : ℕ) (x : Entry) → slice_get es k ≡ Some x → slice_get (definitions es) k ≡ Some x.def
  had k x g = slice_get-map (λ y. y.def) es k ∙ ap (option_map (λ (y : Entry). y.def)) g

  placed : (k : ℕ) (x : Entry) → slice_get fs k ≡ Some x → IfSome x.offsets (AreOffsets (definitions fs) x.def)
  placed k x g = elim (eqb_tells k t) [
    | inl p ↦ let same : x ≡ e = some_same (sym g ∙ ap (slice_get fs) p.1 ∙ at) in rw same (stay e sizes offsets)
    | inr p ↦
        let old : slice_get es k ≡ Some x = sym (others k p.1) ∙ g in
        stay x (has_members (definitions es) laid.sized k x.def (had k x old)) (laid.placed k x old)
  ]

  pub now_laid_out : AreLaidOut fs
  now_laid_out = record {
    kept = kept;
    deep = deep;
    sized = now_grounded (definitions es) (definitions fs) t e.def definition_at definition_others unset count laid.sized sizes;
    placed = placed;
  }

map_push : (es : List Entry) (e : Entry) → definitions (es ++ e ∷ []) ≡ definitions es ++ e.def ∷ []
map_push [] e = refl
map_push (x ∷ es) e = ap (λ ds. x.def ∷ ds) (map_push es e)

map_set : (es : List Entry) (t : ℕ) (e : Entry) → definitions (slice_set es t e) ≡ slice_set (definitions es) t e.def
map_set [] t e = refl
map_set (x ∷ es) zero e = refl
map_set (x ∷ es) (suc t) e = ap (λ ds. x.def ∷ ds) (map_set es t e)

past : (es : List Entry) (old : TagDef) → slice_get (definitions es) (length es) ≡ Some old → old.complete ≡ false
past es old e = let h = simp length-map at (slice_get_within (definitions es) (length es) old e) in absurd (omega arith)

pub laid_out-push : (es : List Entry) (e : Entry) → AreLaidOut es → HaveSizes (definitions es) e.def →
    e.layout ≡ option_map capped (definition_layout (tag_layout (definitions es)) e.def) →
    e.depth ≡ capped_depth (definition_depth (tag_depth (definitions es)) e.def) → IfSome e.offsets (AreOffsets (definitions es) e.def) →
    AreLaidOut (es ++ e ∷ [])
laid_out-push es e laid sizes layout depth offsets =
    now_laid_out es (es ++ e ∷ []) (length es) e (slice_get-push_same e es) (slice_get-push_other e es) (past es)
    (ap complete_count (map_push es e) ∙ count_by-push e.def (λ d. d.complete) (definitions es)) laid sizes layout depth offsets

behind : {A B : Type 0} (f : A → B) (o : Option A) (y : B) → option_map f o ≡ Some y → (x : A) × (o ≡ Some x)
behind f None y e = cc
behind f (Some x) y e = (x, refl)

there : {A : Type 0} (P : A → Type 0) (o : Option A) → IsSomeAnd o P → (x : A) × (o ≡ Some x) × P x
there P None h = absurd h
there P (Some x) h = (x, refl, h)

pub laid_out-set : (es : List Entry) (t : ℕ) (e : Entry) → IsSomeAnd (slice_get (definitions es) t) (λ old. old.complete ≡ false) →
    AreLaidOut es → HaveSizes (definitions es) e.def → e.layout ≡ option_map capped (definition_layout (tag_layout (definitions es)) e.def) →
    e.depth ≡ capped_depth (definition_depth (tag_depth (definitions es)) e.def) → IfSome e.offsets (AreOffsets (definitions es) e.def) →
    AreLaidOut (slice_set es t e)
laid_out-set es t e incomplete laid sizes layout depth offsets =
    let old = there (λ d. d.complete ≡ false) _ incomplete in
    let was = behind (λ (x : Entry). x.def) (slice_get es t) old.0 (sym (slice_get-map (λ x. x.def) es t) ∙ old.1) in
    now_laid_out es (slice_set es t e) t e (slice_get-set_same e es t was.0 was.1) (λ k h. slice_get-set_other e es t k h)
    (λ x g. subst (λ d. d.complete ≡ false) (some_same (sym old.1 ∙ g)) old.2)
    (ap complete_count (map_set es t e) ∙ count_by-set e.def (λ d. d.complete) (definitions es) t old.0 old.1 old.2) laid sizes layout depth offsets

pub definitions-set : (es : List Entry) (t : ℕ) (e : Entry) → definitions (slice_set es t e) ≡ slice_set (definitions es) t e.def
definitions-set es t e = map_set es t e
