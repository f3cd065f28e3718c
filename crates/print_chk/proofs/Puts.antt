-- A format whose text is stored part by part.
use Rattle.std.proofs.Common.{◌≡◌, ℕ, ◌+◌, ◌-◌, ◌<◌, ◌≤◌, ⊎_elim, true, false, not, ◌&&◌, List, [], ◌∷◌, ◌++◌, get_or, length, take, drop, Option, None, Some, is_some, refl, sym, ap, ◌∙◌, subst, append_assoc, append-nil, arith}
use Rattle.std.specs.Prelude.{IsOk}
use Rattle.std.proofs.lemmas.Bool.{and_parts, false≢true, not-true}
use Rattle.std.proofs.lemmas.List.{length-take, drop-drop, drop-take, take-take}
use Rattle.library_meaning.specs.Memory.{are_valid, bytes_at, first_valid, memory_size, put}
use Rattle.library_meaning.specs.OnBytes.{meets}
use Rattle.print_formats.specs.declared.conversions.Conversion.{Conversion}
use Rattle.print_formats.specs.declared.conversions.Directive.{Directive}
use Rattle.print_formats.specs.declared.conversions.Directive.TheVariants as directives
use Rattle.print_formats.specs.Formats.{and_directive, directives_of}
use Rattle.print_texts.specs.Parts.{PartAt}
use Rattle.print_texts.specs.declared.parts.Part.{Part}
use Rattle.print_texts.specs.declared.parts.Part.TheVariants as parts
use Rattle.print_texts.specs.Printing.{accepted, apart, conversion_length, conversion_reads, conversion_text, listed, shown}
use Rattle.print_chk.specs.Readable.{IsFormat, cells_of, format_bytes, format_directives, is_free}
use Rattle.print_chk.specs.Stored.{StoredSoFar, Stores}
use Rattle.print_chk.specs.declared.formats.Format.{Format}
use Rattle.print_chk.specs.declared.storing.Room.{Room}
use Rattle.print_chk.proofs.Apart.{apart_part, part_apart}
use Rattle.print_chk.proofs.Going.{Begins, apart_behind_conversion, apart_behind_run, begins_conversion, begins_run, conversion_valid}
use Rattle.print_chk.proofs.Kept.{SameConversion, same_conversion, stored_apart, text_read}
use Rattle.print_chk.proofs.Stores.{stores_both, stores_nothing, valid_bounds}

-- a part of a stretch of memory
pub bytes_within : (m : List ℕ) (a n from k : ℕ) → from + k ≤ n → bytes_at m (a + from) k ≡ take k (drop from (bytes_at m a n))
bytes_within m a n from k le =
    let whole : from + (n - from) ≡ n = omega arith in
    ap (take k) (sym (drop-drop from a m)) ∙ sym (take-take k (n - from) (drop from (drop a m)) (omega arith))
    ∙ ap (take k) (sym (drop-take from (n - from) (drop a m))) ∙ ap (λ z. take k (drop from (take z (drop a m)))) whole

-- n bytes at d may be stored
pub free_parts : (args m : List ℕ) (d n : ℕ) (f : Format) → 0 < n → is_free args m d n f ≡ true → (apart args m d n (format_directives m f) 0 ≡ true) × (first_valid ≤ d) × (d + n ≤ memory_size)
free_parts args m d n f some free =
    let first = and_parts (not (meets d n f.at (cells_of f.text))) (apart args m d n (format_directives m f) 0 && are_valid d n) free in
    let both = and_parts (apart args m d n (format_directives m f) 0) (are_valid d n) first.1 in
    let bounds = ⊎_elim (λ (e : n ≡ 0). absurd (omega arith)) (λ (b : (first_valid ≤ d) × (d + n ≤ memory_size)). b) (valid_bounds d n both.1) in
    (both.0, bounds.0, bounds.1)

pub apart_fewer : (args m : List ℕ) (d n k : ℕ) (ds : List Directive) (j : ℕ) → k ≤ n → apart args m d n ds j ≡ true → apart args m d k ds j ≡ true
apart_fewer args m d n k [] j le h = refl
apart_fewer args m d n k (directives.Ordinary b ∷ ds) j le h = apart_fewer args m d n k ds j le h
apart_fewer args m d n k (directives.Converted c ∷ ds) j le h =
    let v : ℕ = get_or args j 0 in
    let r : ℕ = conversion_reads m c.specifier v in
    let both = and_parts (not (meets d n v r)) (apart args m d n ds (j + 1)) h in
    rw (part_apart d n v r d k (not-true _ both.0) (omega arith) (omega arith), apart_fewer args m d n k ds (j + 1) le both.1) refl

-- nothing was stored yet
pub begun : (args m : List ℕ) (f : Format) (room : Room) → IsFormat args m f → apart args m room.at room.left (format_directives m f) 0 ≡ true → StoredSoFar args m f room 0 0 m room
begun args m f room is far = record {
  front = [];
  total = 0;
  well = go (directives_of (format_bytes m f)) is.takes;
  valid = subst IsOk (sym is.measures) refl;
  whole = refl;
  far = far;
  stored = stores_nothing room m;
}
  where
    go : (o : Option (List Directive)) → accepted (length args) 0 o ≡ true → is_some o ≡ true
    go (Some ds) e = refl
    go None e = absurd (cc)

module _ {args m : List ℕ} {f : Format} {room : Room} {at next : ℕ} {now : List ℕ} {left : Room} (so_far : StoredSoFar args m f room at next now left) (fits : room.at + room.left ≤ length m) where
  abbrev front : List ℕ
  front = take room.left so_far.front

  short : length front ≤ room.left
  short = omega (arith, length-take room.left so_far.front)

  inside : room.at + length front ≤ length m
  inside = let le = short in omega arith

  is : now ≡ put room.at front m
  is = so_far.stored.stored

  pub low_room : room.at ≤ left.at
  low_room = let a = so_far.stored.at in omega arith

  pub high_room : left.at + left.left ≤ room.at + room.left
  high_room = let a = so_far.stored.at in let b = so_far.stored.left in omega arith

  pub went : (text : List ℕ) (behind after : ℕ) (new : List ℕ) (rest : Room)
      → Begins args m (directives_of (drop at (format_bytes m f))) next text (directives_of (drop behind (format_bytes m f))) after
      → apart args m room.at room.left (listed (directives_of (drop behind (format_bytes m f)))) after ≡ true
      → Stores text left now new rest → StoredSoFar args m f room behind after new rest
  went text behind after new rest b far w = record {
    front = so_far.front ++ text;
    total = b.total;
    well = b.well;
    valid = b.valid;
    whole = append_assoc so_far.front text (shown args m (listed (directives_of (drop behind (format_bytes m f)))) after) ∙ ap (λ t. so_far.front ++ t) (sym b.split) ∙ so_far.whole;
    far = far;
    stored = stores_both so_far.front text room left rest m now new fits so_far.stored w;
  }

  pub ended : directives_of (drop at (format_bytes m f)) ≡ Some [] → Stores (shown args m (format_directives m f) 0) room m now left
  ended e = subst (λ t. Stores t room m now left) (sym (append-nil so_far.front) ∙ ap (λ o. so_far.front ++ shown args m (listed o) next) (sym e) ∙ so_far.whole) so_far.stored

  -- the format is as it was
  pub same_format : meets room.at room.left f.at (cells_of f.text) ≡ false → format_bytes now f ≡ format_bytes m f
  same_format far =
      let le = text_read f.text in
      stored_apart so_far.front room left m now f.at f.text.len fits so_far.stored
      (apart_part room.at room.left f.at (cells_of f.text) f.at f.text.len far (omega arith) (omega arith))

  -- and what a conversion reads
  module _ (c : Conversion) (v : ℕ) (valid : IsOk (conversion_length m c v)) (far : meets room.at room.left v (conversion_reads m c.specifier v) ≡ false) where
    same : SameConversion m front room.at room.left v inside short c.options c.specifier
    same = same_conversion m front room.at room.left v inside short c.options c.specifier _ valid far

    pub valid_now : IsOk (conversion_length now c v)
    valid_now = subst (λ z. IsOk (conversion_length z c v)) (sym is) (rw same.count valid)

    pub far_now : meets left.at left.left v (conversion_reads now c.specifier v) ≡ false
    far_now =
        let low = low_room in
        let high = high_room in
        subst (λ z. meets left.at left.left v (conversion_reads z c.specifier v) ≡ false) (sym is)
        (rw same.read (part_apart room.at room.left v (conversion_reads m c.specifier v) left.at left.left far low high))

    pub text_now : conversion_text now c v ≡ conversion_text m c v
    text_now = ap (λ z. conversion_text z c v) is ∙ same.text

  -- a part that was stored
  module _ (far : meets room.at room.left f.at (cells_of f.text) ≡ false) where
    pub part_is : (p : Part) → PartAt (format_bytes now f) at p → PartAt (format_bytes m f) at p
    part_is p h = subst (λ b. PartAt b at p) (same_format far) h

    pub malformed : PartAt (format_bytes now f) at parts.Malformed → ⊥
    malformed h = false≢true (subst (λ o. is_some o ≡ true) (part_is parts.Malformed h) so_far.well)

    pub went_run : (from behind : ℕ) (new : List ℕ) (rest : Room) → PartAt (format_bytes now f) at (parts.Run from behind) → length (format_bytes m f) ≡ f.text.len
        → Stores (bytes_at now (f.at + from) (behind - from)) left now new rest → StoredSoFar args m f room behind next new rest
    went_run from behind new rest part long w =
        let p = part_is (parts.Run from behind) part in
        let b : List ℕ = format_bytes m f in
        let xs : List ℕ = take (behind - from) (drop from b) in
        let inside : behind ≤ length b = p.2 in
        let up : from < behind = p.4 in
        let same : bytes_at now (f.at + from) (behind - from) ≡ xs = bytes_within now f.at f.text.len from (behind - from) (omega (arith, long)) ∙ ap (λ z. take (behind - from) (drop from z)) (same_format far) in
        went xs behind next new rest (begins_run args m xs (directives_of (drop at b)) (directives_of (drop behind b)) next so_far.total p.0 so_far.well so_far.valid)
        (apart_behind_run args m room.at room.left xs (directives_of (drop at b)) (directives_of (drop behind b)) next p.0 so_far.well so_far.far)
        (subst (λ t. Stores t left now new rest) same w)

    module _ (c : Conversion) (behind : ℕ) (part : PartAt (format_bytes now f) at (parts.Converted c behind)) where
      abbrev value : ℕ
      value = get_or args next 0

      abbrev here : Option (List Directive)
      here = directives_of (drop at (format_bytes m f))

      abbrev behind_it : Option (List Directive)
      behind_it = directives_of (drop behind (format_bytes m f))

      begins : here ≡ and_directive (directives.Converted c) behind_it
      begins = (part_is (parts.Converted c behind) part).0

      converts : IsOk (conversion_length m c value)
      converts = conversion_valid args m c here behind_it next so_far.total begins so_far.well so_far.valid

      both_far : (meets room.at room.left value (conversion_reads m c.specifier value) ≡ false) × (apart args m room.at room.left (listed behind_it) (next + 1) ≡ true)
      both_far = apart_behind_conversion args m room.at room.left c here behind_it next begins so_far.well so_far.far

      pub converts_now : IsOk (conversion_length now c value)
      converts_now = valid_now c value converts both_far.0

      pub reads_far : meets left.at left.left value (conversion_reads now c.specifier value) ≡ false
      reads_far = far_now c value converts both_far.0

      pub went_conversion : (new : List ℕ) (rest : Room) → Stores (conversion_text now c value) left now new rest → StoredSoFar args m f room behind (next + 1) new rest
      went_conversion new rest w =
          went (conversion_text m c value) behind (next + 1) new rest (begins_conversion args m c here behind_it next so_far.total begins so_far.well so_far.valid) both_far.1
          (subst (λ t. Stores t left now new rest) (text_now c value converts both_far.0) w)
