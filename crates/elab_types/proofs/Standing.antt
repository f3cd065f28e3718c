-- What the code makes of a type stands for what the definition makes of it, one part of a declarator behind another.
use Rattle.std.proofs.Common.{◌≡◌, ℕ, ℤ, zero, suc, ◌*◌, ◌<◌, ◌≤◌, max, min, List, [], ◌∷◌, map, Bool, true, false, not, ◌||◌, ◌⊎◌, inl, inr, Option, None, Some, refl, sym, ap, subst, ◌∙◌, arith, rules}
use Rattle.std.specs.Prelude.{is_some, nat_lt, fold, if◌then◌else◌}
use Rattle.std.specs.Option.{option_map, option_map_or}
use Rattle.std.proofs.lemmas.List.{length-map}
use Rattle.c_layout.specs.declared.depths.Depth.{Depth}
use Rattle.c_layout.specs.declared.tags.TagDef.{TagDef}
use Rattle.c_layout.specs.declared.types.CType.{CType, the_lemmas}
use Rattle.c_layout.specs.declared.types.CType.TheVariants.{Void, Ptr, Array, OpenArray}
use Rattle.c_layout.specs.declared.types.Layout.{Layout}
use Rattle.c_layout.specs.Depths.{capped_depth, capped_depths, deepest, depth_of, tag_depth, type_depths}
use Rattle.c_layout.specs.Layouts.{largest_type, layout, repeated, scalar}
use Rattle.c_layout.specs.Types.{element, is_array, is_open_array, is_structure}
use Rattle.elab_meaning.specs.Declarations as meant
use Rattle.elab_meaning.specs.Declarations.{Formed as Real, Made as Declared, count, array_type, is_too_large, is_below_one, object_of, function_of, type_made, is_function_made}
use Rattle.elab_meaning.specs.Parts.{Parameter as Named, Shape, innermost}
use Rattle.elab_types.specs.declared.forming.Formed.{Formed}
use Rattle.elab_types.specs.declared.forming.Made.{Made}
use Rattle.elab_types.specs.declared.forming.Made.TheVariants.{Object, Function}
use Rattle.elab_types.specs.declared.shapes.Bound.{Bound}
use Rattle.elab_types.specs.declared.shapes.Parameter.{Parameter}
use Rattle.elab_types.specs.declared.shapes.Part.{Part}
use Rattle.elab_types.specs.declared.shapes.Part.TheVariants as part
use Rattle.elab_types.specs.Forming as kept
use Rattle.elab_types.specs.Forming.{type_of, is_function, array_of, widest, is_zero, is_wide, is_past, deeper_of, with_depth}
use Rattle.elab_types.specs.Shapes.{value_in, bounded, types_of, parameter, with_part, shape_of, formed_part, formed_on, formed_parts}
use Rattle.elab_types.specs.Stands.{AlikeSizes, same, large, size_of, AlikeTypes, made_of, is_over, is_settled, Stands}

-- ---- sizes

times_most : (n k : ℕ) → 0 < k → n ≤ n * k
times_most n zero h = absurd (omega arith)
times_most n (suc k) h = grind arith

least_some : (c w : ℕ) → 0 < c → 0 < w → 0 < min c w
least_some c w h k = grind arith

times_alike : (m n c w : ℕ) → 4194304 < m → 4194304 < n → 4194304 < w → AlikeSizes (Some (m * c)) (Some (n * min c w))
times_alike m n zero w h k l = same (ap Some (grind arith))
times_alike m n (suc c) w h k l =
    let most = times_most m (suc c) (omega arith) in
    let kept = times_most n (min (suc c) w) (least_some (suc c) w (omega arith) (omega arith)) in
    large (omega (arith, most)) (omega (arith, kept))

by_count : (c w : ℕ) → (min c w ≡ c) ⊎ ((w < c) × (min c w ≡ w))
by_count c w = grind arith

at_least : (m c : ℕ) → c ≤ suc m * c
at_least m c = grind arith

count_alike : (m c w : ℕ) → 4194304 < w → AlikeSizes (Some (m * c)) (Some (m * min c w))
count_alike zero c w l = same (ap Some (grind arith))
count_alike (suc m) c w l = elim (by_count c w) [
  | inl e ↦ same (ap (λ k. Some (suc m * k)) (sym e))
  | inr h ↦
      let most = at_least m c in
      let kept = at_least m (min c w) in
      let is = h.1 in
      large (omega (arith, most, h.0)) (omega (arith, kept, is))
]

wide : 4194304 < widest
wide = omega arith

times_self : (c : ℕ) (m : Option ℕ) → AlikeSizes (option_map (λ s. s * c) m) (option_map (λ s. s * min c widest) m)
times_self c None = same refl
times_self c (Some m) = count_alike m c widest wide

sizes_times : (c : ℕ) (m n : Option ℕ) → AlikeSizes m n → AlikeSizes (option_map (λ s. s * c) m) (option_map (λ s. s * min c widest) n)
sizes_times c m n (same e) =
    subst (λ k. AlikeSizes (option_map (λ s. s * c) m) (option_map (λ s. s * min c widest) k)) e (times_self c m)
sizes_times c _ _ (large h k) = times_alike _ _ c widest h k wide

some_alike : (m n : Option ℕ) → AlikeSizes m n → is_some m ≡ is_some n
some_alike m n (same e) = ap is_some e
some_alike _ _ (large h k) = refl

abbrev over : Option ℕ → Bool
over m = option_map_or (λ s. nat_lt largest_type s) m false

over_both : (m n : ℕ) → 4194304 < m → 4194304 < n → nat_lt 4194304 m ≡ nat_lt 4194304 n
over_both m n h k = grind arith

over_alike : (m n : Option ℕ) → AlikeSizes m n → over m ≡ over n
over_alike m n (same e) = ap over e
over_alike _ _ (large h k) = over_both _ _ h k

-- ---- layouts and their sizes

some_size : (o : Option Layout) → is_some (option_map (λ l. l.size) o) ≡ is_some o
some_size None = refl
some_size (Some l) = refl

over_size : (o : Option Layout) → option_map_or (λ l. nat_lt largest_type l.size) o false ≡ over (option_map (λ l. l.size) o)
over_size None = refl
over_size (Some l) = refl

repeated_size : (n : ℕ) (o : Option Layout) →
    option_map (λ l. l.size) (option_map (repeated n) o) ≡ option_map (λ s. s * n) (option_map (λ l. l.size) o)
repeated_size n None = refl
repeated_size n (Some l) = refl

module _ (tags : List TagDef) where
  pub sized_alike : (t u : CType) → AlikeSizes (size_of tags t) (size_of tags u) → is_some (layout tags t) ≡ is_some (layout tags u)
  sized_alike t u a = sym (some_size (layout tags t)) ∙ (some_alike _ _ a ∙ some_size (layout tags u))

  large_alike : (t u : CType) → AlikeSizes (size_of tags t) (size_of tags u) → is_too_large tags t ≡ is_too_large tags u
  large_alike t u a = over_size (layout tags t) ∙ (over_alike _ _ a ∙ sym (over_size (layout tags u)))

-- ---- types by their forms

pointer_array : (t : CType) → is_array (Ptr t) ≡ false
pointer_array t = search (rules, the_lemmas)

pointer_open : (t : CType) → is_open_array (Ptr t) ≡ false
pointer_open t = search (rules, the_lemmas)

pub pointer_structure : (t : CType) → is_structure (Ptr t) ≡ false
pointer_structure t = search (rules, the_lemmas)

pointer_element : (t : CType) → element (Ptr t) ≡ Void
pointer_element t = search (rules, the_lemmas)

pub pointer_layout : (tags : List TagDef) (t : CType) → layout tags (Ptr t) ≡ Some (scalar 8)
pointer_layout tags t = search (rules, the_lemmas)

bounded_array : (t : CType) (n : ℕ) → is_array (Array t n) ≡ true
bounded_array t n = search (rules, the_lemmas)

bounded_open : (t : CType) (n : ℕ) → is_open_array (Array t n) ≡ false
bounded_open t n = search (rules, the_lemmas)

bounded_structure : (t : CType) (n : ℕ) → is_structure (Array t n) ≡ false
bounded_structure t n = search (rules, the_lemmas)

bounded_element : (t : CType) (n : ℕ) → element (Array t n) ≡ t
bounded_element t n = search (rules, the_lemmas)

bounded_layout : (tags : List TagDef) (t : CType) (n : ℕ) → layout tags (Array t n) ≡ option_map (repeated n) (layout tags t)
bounded_layout tags t n = search (rules, the_lemmas)

open_array : (t : CType) → is_array (OpenArray t) ≡ true
open_array t = search (rules, the_lemmas)

open_open : (t : CType) → is_open_array (OpenArray t) ≡ true
open_open t = search (rules, the_lemmas)

open_structure : (t : CType) → is_structure (OpenArray t) ≡ false
open_structure t = search (rules, the_lemmas)

open_element : (t : CType) → element (OpenArray t) ≡ t
open_element t = search (rules, the_lemmas)

open_layout : (tags : List TagDef) (t : CType) → layout tags (OpenArray t) ≡ None
open_layout tags t = search (rules, the_lemmas)

module _ (tags : List TagDef) where
  alike_self : (t : CType) → AlikeTypes tags t t
  alike_self t = record { arrays = refl; open_arrays = refl; structures = refl; elements = refl; sizes = same refl }

  pointers_alike : (t u : CType) → AlikeTypes tags (Ptr t) (Ptr u)
  pointers_alike t u = record {
    arrays = pointer_array t ∙ sym (pointer_array u);
    open_arrays = pointer_open t ∙ sym (pointer_open u);
    structures = pointer_structure t ∙ sym (pointer_structure u);
    elements = ap (λ x. is_some (layout tags x)) (pointer_element t ∙ sym (pointer_element u));
    sizes = same (ap (option_map (λ l. l.size)) (pointer_layout tags t ∙ sym (pointer_layout tags u)));
  }

  array_size : (t : CType) (n : ℕ) → size_of tags (Array t n) ≡ option_map (λ s. s * n) (size_of tags t)
  array_size t n = ap (option_map (λ l. l.size)) (bounded_layout tags t n) ∙ repeated_size n (layout tags t)

  bounded_sizes : (t u : CType) (c : ℕ) → AlikeSizes (size_of tags t) (size_of tags u) →
      AlikeSizes (size_of tags (Array t c)) (size_of tags (Array u (min c widest)))
  bounded_sizes t u c a =
      subst (λ m. AlikeSizes m (size_of tags (Array u (min c widest)))) (sym (array_size t c))
      (subst (λ n. AlikeSizes (option_map (λ s. s * c) (size_of tags t)) n) (sym (array_size u (min c widest))) (sizes_times c _ _ a))

  arrays_alike : (t u : CType) (bound : Option ℤ) → AlikeTypes tags t u →
      AlikeTypes tags (array_type t bound) (array_of u (option_map count bound))
  arrays_alike t u None a = record {
    arrays = open_array t ∙ sym (open_array u);
    open_arrays = open_open t ∙ sym (open_open u);
    structures = open_structure t ∙ sym (open_structure u);
    elements = ap (λ x. is_some (layout tags x)) (open_element t) ∙ (sized_alike tags t u a.sizes
        ∙ ap (λ x. is_some (layout tags x)) (sym (open_element u)));
    sizes = same (ap (option_map (λ l. l.size)) (open_layout tags t ∙ sym (open_layout tags u)));
  }
  arrays_alike t u (Some z) a =
      let n = min (count z) widest in
      record {
        arrays = bounded_array t (count z) ∙ sym (bounded_array u n);
        open_arrays = bounded_open t (count z) ∙ sym (bounded_open u n);
        structures = bounded_structure t (count z) ∙ sym (bounded_structure u n);
        elements = ap (λ x. is_some (layout tags x)) (bounded_element t (count z)) ∙ (sized_alike tags t u a.sizes
            ∙ ap (λ x. is_some (layout tags x)) (sym (bounded_element u n)));
        sizes = bounded_sizes t u (count z) a.sizes;
      }

-- ---- what is made

made_type : (m : Made) → type_made (made_of m) ≡ type_of m
made_type (Object t) = refl
made_type (Function params of) = refl

pub whole_type : (d : Declared) (m : Made) → d ≡ made_of m → type_made d ≡ type_of m
whole_type d m e = ap type_made e ∙ made_type m

neither : (a b : Bool) → a || b ≡ false → (a ≡ false) × (b ≡ false)
neither true b e = cc
neither false b e = (refl, e)

not_chosen : (b : Bool) (x y : CType) → b ≡ false → (if b then x else y) ≡ y
not_chosen true x y e = cc
not_chosen false x y e = refl

cut_suc : (n : ℕ) → capped_depth (suc n) ≡ capped_depth (suc (capped_depth n))
cut_suc n = grind arith

below_zero : (bound : Option ℤ) → is_below_one bound ≡ is_zero (option_map count bound)
below_zero None = refl
below_zero (Some z) = refl

narrow : (n : ℕ) → nat_lt widest n ≡ false → n ≡ min n widest
narrow n e = grind arith

narrow_array : (t : CType) (bound : Option ℤ) → is_wide (option_map count bound) ≡ false →
    array_type t bound ≡ array_of t (option_map count bound)
narrow_array t None e = refl
narrow_array t (Some z) e = ap (Array t) (narrow (count z) e)

-- ---- depths of parameters

deeper_apart : (a b c : Depth) → meant.deeper a (meant.deeper b c) ≡ meant.deeper b (meant.deeper a c)
deeper_apart a b c =
    let plain : max a.plain (max b.plain c.plain) ≡ max b.plain (max a.plain c.plain) = grind arith in
    let behind : max a.behind (max b.behind c.behind) ≡ max b.behind (max a.behind c.behind) = grind arith in
    cc

cut_max : (a b : ℕ) → capped_depth (max a b) ≡ max (capped_depth a) (capped_depth b)
cut_max a b = grind arith

deeper_cut : (a b : Depth) → capped_depths (meant.deeper a b) ≡ deeper_of (capped_depths a) (capped_depths b)
deeper_cut a b =
    let plain = cut_max a.plain b.plain in
    let behind = cut_max a.behind b.behind in
    cc

module _ (tags : List TagDef) where
  deepest_apart : (a d : Depth) (ts : List CType) →
      meant.deepest_of tags (meant.deeper a d) ts ≡ meant.deeper a (meant.deepest_of tags d ts)
  deepest_apart a d [] = refl
  deepest_apart a d (t ∷ ts) =
      ap (meant.deeper (type_depths (tag_depth tags) t)) (deepest_apart a d ts)
      ∙ deeper_apart (type_depths (tag_depth tags) t) a (meant.deepest_of tags d ts)

  deepest_kept : (d : Depth) (k : Depth) (ts : List CType) → capped_depths d ≡ k →
      capped_depths (meant.deepest_of tags d ts) ≡ kept.deepest_of tags k ts
  deepest_kept d k [] e = e
  deepest_kept d k (t ∷ ts) e =
      let own = type_depths (tag_depth tags) t in
      ap capped_depths (sym (deepest_apart own d ts))
      ∙ deepest_kept (meant.deeper own d) (with_depth tags k t) ts (deeper_cut own d ∙ ap (deeper_of (capped_depths own)) e)

-- ---- one part

-- what `Stands` says, before it is known whether the type is whole
record StandsFor (tags : List TagDef) (real : Real) (f : Formed) : Type 0 where
  functions : is_function_made real.made ≡ is_function f.made
  types : AlikeTypes tags (type_made real.made) (type_of f.made)
  depth : capped_depths real.depth ≡ f.depth
  bad_type : real.bad_type ≡ f.broken.bad_type
  too_large : real.too_large ≡ f.broken.too_large
  by_value : real.by_value ≡ f.broken.by_value
  function_pointer : real.function_pointer ≡ f.broken.function_pointer
  too_many : real.too_many ≡ f.broken.too_many
  whole : f.cut ≡ false → real.made ≡ made_of f.made

module _ (tags : List TagDef) where
  unformed_stands : (t : CType) → StandsFor tags (meant.unformed tags t) (kept.unformed tags t)
  unformed_stands t = record {
    functions = refl;
    types = alike_self tags t;
    depth = refl;
    bad_type = refl;
    too_large = refl;
    by_value = refl;
    function_pointer = refl;
    too_many = refl;
    whole = λ e. refl;
  }

  pointed_stands : (r : Real) (f : Formed) → StandsFor tags r f → StandsFor tags (meant.pointed_to r) (kept.pointed_to f)
  pointed_stands r f s = record {
    functions = refl;
    types = pointers_alike tags _ _;
    depth = ap (λ d. depth_of d d) (cut_suc r.depth.behind ∙ ap (λ d. capped_depth (suc d.behind)) s.depth);
    bad_type = s.bad_type;
    too_large = s.too_large;
    by_value = s.by_value;
    function_pointer = rw (s.function_pointer, s.functions) refl;
    too_many = s.too_many;
    whole = λ e.
        let parts = neither f.cut (is_past f) e in
        ap (λ t. object_of (Ptr t))
        (whole_type r.made f.made (s.whole parts.0) ∙ sym (not_chosen (is_past f) Void (type_of f.made) parts.1));
  }

  starred_stands : (n : ℕ) (r : Real) (f : Formed) → StandsFor tags r f → StandsFor tags (meant.stars n r) (kept.starred n f)
  starred_stands zero r f s = s
  starred_stands (suc n) r f s = pointed_stands _ _ (starred_stands n r f s)

  arrayed_stands : (bound : Option ℤ) (r : Real) (f : Formed) → StandsFor tags r f →
      StandsFor tags (meant.arrayed tags bound r) (kept.arrayed tags (option_map count bound) f)
  arrayed_stands bound r f s =
      let types = arrays_alike tags (type_made r.made) (type_of f.made) bound s.types in
      let has = sized_alike tags (type_made r.made) (type_of f.made) s.types.sizes in
      let plain = cut_suc r.depth.plain ∙ ap (λ d. capped_depth (suc d.plain)) s.depth in
      let behind = cut_suc r.depth.behind ∙ ap (λ d. capped_depth (suc d.behind)) s.depth in
      record {
        functions = refl;
        types = types;
        depth = ap (λ d. depth_of d (capped_depth (suc r.depth.behind))) plain ∙ ap (depth_of (capped_depth (suc f.depth.plain))) behind;
        bad_type = rw (s.bad_type, has, below_zero bound) refl;
        too_large = rw (s.too_large, large_alike tags _ _ types.sizes) refl;
        by_value = s.by_value;
        function_pointer = s.function_pointer;
        too_many = s.too_many;
        whole = λ e.
            let parts = neither f.cut (is_wide (option_map count bound)) e in
            ap object_of
            (ap (λ t. array_type t bound) (whole_type r.made f.made (s.whole parts.0)) ∙ narrow_array (type_of f.made) bound parts.1);
      }

  returned_stands : (params : List Named) (r : Real) (f : Formed) → StandsFor tags r f →
      StandsFor tags (meant.returned tags params r) (kept.returned tags (map (λ p. p.ctype) params) f)
  returned_stands params r f s = record {
    functions = refl;
    types = alike_self tags Void;
    depth = deepest_kept tags r.depth f.depth (map (λ p. p.ctype) params) s.depth;
    bad_type = rw (s.bad_type, s.functions, s.types.arrays) refl;
    too_large = s.too_large;
    by_value = rw (s.by_value, s.types.structures) refl;
    function_pointer = s.function_pointer;
    too_many = rw (s.too_many, length-map params (λ p. p.ctype)) refl;
    whole = λ e. ap (function_of (map (λ p. p.ctype) params)) (whole_type r.made f.made (s.whole e));
  }

-- ---- all parts

bound_is : (b : Option Bound) → bounded b ≡ option_map count (option_map value_in b)
bound_is None = refl
bound_is (Some b) = refl

declared_types : (ps : List Parameter) → map (λ p. p.ctype) (map parameter ps) ≡ types_of ps
declared_types [] = refl
declared_types (p ∷ ps) = ap (λ ts. p.ctype ∷ ts) (declared_types ps)

module _ (tags : List TagDef) where
  -- what a part makes of a type, by the definition
  abbrev meant_part : Part → Real → Real
  meant_part (part.Stars n) r = meant.stars n r
  meant_part (part.Array bound) r = meant.arrayed tags (option_map value_in bound) r
  meant_part (part.Function params) r = meant.returned tags (map parameter params) r

  abbrev meant_on : List Part → Real → Real
  meant_on [] r = r
  meant_on (p ∷ ps) r = meant_part p (meant_on ps r)

  formed_by_part : (s : Shape) (p : Part) (r : Real) → meant.formed_by tags (with_part s p) r ≡ meant.formed_by tags s (meant_part p r)
  formed_by_part s (part.Stars n) r = refl
  formed_by_part s (part.Array bound) r = refl
  formed_by_part s (part.Function params) r = refl

  formed_by_parts : (s : Shape) (ps : List Part) (r : Real) →
      meant.formed_by tags (fold with_part s ps) r ≡ meant.formed_by tags s (meant_on ps r)
  formed_by_parts s [] r = refl
  formed_by_parts s (p ∷ ps) r = formed_by_parts (with_part s p) ps r ∙ formed_by_part s p (meant_on ps r)

  part_stands : (p : Part) (r : Real) (f : Formed) → StandsFor tags r f → StandsFor tags (meant_part p r) (formed_part tags p f)
  part_stands (part.Stars n) r f s = starred_stands tags n r f s
  part_stands (part.Array bound) r f s =
      subst (λ b. StandsFor tags (meant_part (part.Array bound) r) (kept.arrayed tags b f)) (sym (bound_is bound))
      (arrayed_stands tags (option_map value_in bound) r f s)
  part_stands (part.Function params) r f s =
      subst (λ ts. StandsFor tags (meant_part (part.Function params) r) (kept.returned tags ts f)) (declared_types params)
      (returned_stands tags (map parameter params) r f s)

  parts_stand : (ps : List Part) (r : Real) (f : Formed) → StandsFor tags r f → StandsFor tags (meant_on ps r) (formed_on tags ps f)
  parts_stand [] r f s = s
  parts_stand (p ∷ ps) r f s = part_stands p _ _ (parts_stand ps r f s)

  formed_stands : (ps : List Part) (t : CType) → StandsFor tags (meant.formed tags t (shape_of ps)) (formed_parts tags ps t)
  formed_stands ps t =
      subst (λ r. StandsFor tags r (formed_parts tags ps t)) (sym (formed_by_parts innermost ps (meant.unformed tags t)))
      (parts_stand ps _ _ (unformed_stands tags t))

-- ---- the whole

past_cut : (n : ℕ) → nat_lt 400 n ≡ nat_lt 400 (capped_depth n)
past_cut n = grind arith

uncut : (c b d : Bool) → not c || b || d ≡ true → b || d ≡ false → c ≡ false
uncut true b d h e = cc
uncut false b d h e = refl

stands_whole : (tags : List TagDef) (r : Real) (f : Formed) → StandsFor tags r f → is_settled f ≡ true → Stands tags r f
stands_whole tags r f s settled = record {
  functions = s.functions;
  types = s.types;
  bad_type = s.bad_type;
  limit = rw (s.too_large) (ap (λ b. f.broken.too_large || b) (past_cut r.depth.plain ∙ ap (λ d. nat_lt deepest d.plain) s.depth));
  by_value = s.by_value;
  function_pointer = s.function_pointer;
  too_many = s.too_many;
  whole = λ e. s.whole (uncut f.cut f.broken.bad_type (is_over f) settled e);
}

pub formed_whole : (tags : List TagDef) (ps : List Part) (t : CType) (f : Formed) → f ≡ formed_parts tags ps t → is_settled f ≡ true →
    Stands tags (meant.formed tags t (shape_of ps)) f
formed_whole tags ps t f e settled =
    let real = meant.formed tags t (shape_of ps) in
    stands_whole tags real f (subst (λ g. StandsFor tags real g) (sym e) (formed_stands tags ps t)) settled
