-- A format whose text is written part by part.
use Rattle.std.proofs.Common.{◌≡◌, ℕ, ◌+◌, true, false, not, List, [], ◌∷◌, ◌++◌, length, drop, get_or, Option, Some, is_some, Result, Ok, Err, refl, sym, ap, ◌∙◌, subst, append_assoc, append-nil}
use Rattle.std.specs.Prelude.{IsOk}
use Rattle.std.proofs.lemmas.Bool.{and_parts, not-true}
use Rattle.run_meaning.specs.Objects.{StreamState}
use Rattle.library_meaning.specs.OnBytes.{meets}
use Rattle.library_meaning.specs.Scan.{and_then}
use Rattle.library_meaning.specs.declared.stops.HostStop.{HostStop}
use Rattle.print_formats.specs.declared.conversions.Conversion.{Conversion}
use Rattle.print_formats.specs.declared.conversions.Directive.{Directive}
use Rattle.print_formats.specs.declared.conversions.Directive.TheVariants as directives
use Rattle.print_formats.specs.Formats.{directives_of, and_directive}
use Rattle.print_texts.specs.Printing.{apart, listed, measured, shown, ordinary, ordinaries, conversion_length, conversion_reads, conversion_text}
use Rattle.print_texts.proofs.Formats.{apart_run, run_listed, conversion_listed, measured_run}
use Rattle.print_chk.specs.Written.{Wrote, PutSoFar}
use Rattle.print_chk.proofs.Parts.{wrote_both, wrote_first}

-- directives begin with ones that print a text, and go on from a place
pub record Begins (args m : List ℕ) (o : Option (List Directive)) (next : ℕ) (text : List ℕ) (rest : Option (List Directive)) (after : ℕ) : Type 0 where
  pub total : ℕ
  pub well : is_some rest ≡ true
  pub valid : IsOk (measured args m (listed rest) after total)
  pub split : shown args m (listed o) next ≡ text ++ shown args m (listed rest) after

shown_run : (args m xs : List ℕ) (ds : List Directive) (j : ℕ) → shown args m (ordinaries xs ds) j ≡ xs ++ shown args m ds j
shown_run args m [] ds j = refl
shown_run args m (b ∷ xs) ds j = ap (λ z. b ∷ z) (shown_run args m xs ds j)

pub begins_run : (args m xs : List ℕ) (o rest : Option (List Directive)) (j n : ℕ) → o ≡ ordinary xs rest → is_some o ≡ true → IsOk (measured args m (listed o) j n) → Begins args m o j xs rest j
begins_run args m xs o rest j n e well valid =
    let next = run_listed xs rest (subst (λ z. is_some z ≡ true) e well) in
    let is : listed o ≡ ordinaries xs (listed rest) = ap listed e ∙ next.1 in
    record {
      total = n + length xs;
      well = next.0;
      valid = subst IsOk (ap (λ ds. measured args m ds j n) is ∙ measured_run args m xs (listed rest) j n) valid;
      split = ap (λ ds. shown args m ds j) is ∙ shown_run args m xs (listed rest) j;
    }

first_valid : (r : Result ℕ HostStop) (f : ℕ → Result ℕ HostStop) → IsOk (and_then r f) → (k : ℕ) × (r ≡ Ok k) × IsOk (f k)
first_valid (Ok k) f h = (k, refl, h)
first_valid (Err e) f h = absurd (cc)

module _ (args m : List ℕ) (c : Conversion) (o rest : Option (List Directive)) (j n : ℕ) (e : o ≡ and_directive (directives.Converted c) rest) (well : is_some o ≡ true) (valid : IsOk (measured args m (listed o) j n)) where
  parts : (is_some rest ≡ true) × (listed (and_directive (directives.Converted c) rest) ≡ directives.Converted c ∷ listed rest)
  parts = conversion_listed c rest (subst (λ z. is_some z ≡ true) e well)

  is : listed o ≡ directives.Converted c ∷ listed rest
  is = ap listed e ∙ parts.1

  goes : (k : ℕ) × (conversion_length m c (get_or args j 0) ≡ Ok k) × IsOk (measured args m (listed rest) (j + 1) (n + k))
  goes = first_valid (conversion_length m c (get_or args j 0)) (λ k. measured args m (listed rest) (j + 1) (n + k)) (subst IsOk (ap (λ ds. measured args m ds j n) is) valid)

  pub conversion_valid : IsOk (conversion_length m c (get_or args j 0))
  conversion_valid = subst IsOk (sym goes.1) refl

  pub begins_conversion : Begins args m o j (conversion_text m c (get_or args j 0)) rest (j + 1)
  begins_conversion = record {
    total = n + goes.0;
    well = parts.0;
    valid = goes.2;
    split = ap (λ ds. shown args m ds j) is;
  }

module _ (args m f : List ℕ) (at next : ℕ) (x y : StreamState) (so_far : PutSoFar args m f at next x y) where
  pub went : (text : List ℕ) (behind after : ℕ) (z : StreamState) → Begins args m (directives_of (drop at f)) next text (directives_of (drop behind f)) after → Wrote text (Ok tt) y z → PutSoFar args m f behind after x z
  went text behind after z b w = record {
    front = so_far.front ++ text;
    total = b.total;
    well = b.well;
    valid = b.valid;
    whole = append_assoc so_far.front text (shown args m (listed (directives_of (drop behind f))) after) ∙ ap (λ t. so_far.front ++ t) (sym b.split) ∙ so_far.whole;
    wrote = wrote_both so_far.front text (Ok tt) x y z so_far.wrote w;
  }

  pub failed : (text : List ℕ) (rest : Option (List Directive)) (after : ℕ) (stop : HostStop) (z : StreamState) → Begins args m (directives_of (drop at f)) next text rest after → Wrote text (Err stop) y z → Wrote (shown args m (listed (directives_of f)) 0) (Err stop) x z
  failed text rest after stop z b w =
      subst (λ t. Wrote t (Err stop) x z) (ap (λ t. so_far.front ++ t) (sym b.split) ∙ so_far.whole)
      (wrote_both so_far.front (text ++ shown args m (listed rest) after) (Err stop) x y z so_far.wrote (wrote_first text (shown args m (listed rest) after) stop y z w))

  pub ended : directives_of (drop at f) ≡ Some [] → Wrote (shown args m (listed (directives_of f)) 0) (Ok tt) x y
  ended e = subst (λ t. Wrote t (Ok tt) x y) (sym (append-nil so_far.front) ∙ ap (λ o. so_far.front ++ shown args m (listed o) next) (sym e) ∙ so_far.whole) so_far.wrote

-- what directives read is apart from n bytes at d
module _ (args m : List ℕ) (d n : ℕ) where
  pub apart_behind_run : (xs : List ℕ) (o rest : Option (List Directive)) (j : ℕ) → o ≡ ordinary xs rest → is_some o ≡ true → apart args m d n (listed o) j ≡ true → apart args m d n (listed rest) j ≡ true
  apart_behind_run xs o rest j e well far =
      let next = run_listed xs rest (subst (λ z. is_some z ≡ true) e well) in
      sym (apart_run args m d n xs (listed rest) j) ∙ ap (λ ds. apart args m d n ds j) (sym next.1 ∙ ap listed (sym e)) ∙ far

  pub apart_behind_conversion : (c : Conversion) (o rest : Option (List Directive)) (j : ℕ) → o ≡ and_directive (directives.Converted c) rest → is_some o ≡ true → apart args m d n (listed o) j ≡ true
      → (meets d n (get_or args j 0) (conversion_reads m c.specifier (get_or args j 0)) ≡ false) × (apart args m d n (listed rest) (j + 1) ≡ true)
  apart_behind_conversion c o rest j e well far =
      let next = conversion_listed c rest (subst (λ z. is_some z ≡ true) e well) in
      let both = and_parts (not (meets d n (get_or args j 0) (conversion_reads m c.specifier (get_or args j 0)))) (apart args m d n (listed rest) (j + 1)) (ap (λ ds. apart args m d n ds j) (sym next.1 ∙ ap listed (sym e)) ∙ far) in
      (not-true _ both.0, both.1)
