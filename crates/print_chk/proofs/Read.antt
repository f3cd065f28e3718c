-- The row of a print, by its format that was read.
use Rattle.std.proofs.Common.{◌≡◌, ℕ, suc, ◌+◌, max, Bool, true, false, List, [], ◌∷◌, ◌++◌, length, get_or, Result, Ok, Err, refl, ap, ◌∙◌, arith, length-append}
use Rattle.std.specs.Prelude.{if◌then◌else◌}
use Rattle.library_meaning.specs.Scan.{Found, and_then}
use Rattle.library_meaning.specs.Rows.{Answer, Row, Stretch, run, stretch}
use Rattle.library_meaning.specs.Table.{cells_read, no_limit}
use Rattle.library_meaning.specs.Prints.{printed}
use Rattle.library_meaning.specs.OnBytes.{on_bytes, quiet}
use Rattle.library_meaning.specs.declared.stops.HostStop.{HostStop}
use Rattle.library_meaning.specs.declared.stops.HostStop.TheVariants as host
use Rattle.host_bytes.specs.Texts.{byte_scan}
use Rattle.print_formats.specs.Formats.{directives_of}
use Rattle.print_texts.specs.Printing.{accepted, listed, measured, shown}
use Rattle.print_texts.specs.Stretches.{strings_read}
use Rattle.print_texts.proofs.Rows.{FormatGoes, Lines, printed_is}
use Rattle.print_chk.specs.Readable.{IsFormat, cells_of, format_directives, text_length}
use Rattle.print_chk.specs.declared.formats.Format.{Format}
use Rattle.print_chk.proofs.Kept.{read_is}
use Rattle.print_formats.specs.declared.conversions.Conversion.{Conversion}
use Rattle.print_formats.specs.declared.conversions.Directive.{Directive}
use Rattle.print_formats.specs.declared.conversions.Directive.TheVariants as directives
use Rattle.print_texts.specs.Printing.{conversion_length, conversion_text, counted}
use Rattle.print_texts.proofs.Padded.{converted_length}

abbrev pub Outcome : Type 0
Outcome = Result (Answer (List ℕ)) HostStop

-- how long a text is
conversion_long : (m : List ℕ) (c : Conversion) (v q : ℕ) → conversion_length m c v ≡ Ok q → length (conversion_text m c v) ≡ q
conversion_long m c v q e = go (counted m c.specifier v) refl e
  where
    go : (r : Result ℕ HostStop) → counted m c.specifier v ≡ r → and_then r (λ k. Ok (max c.options.width k)) ≡ Ok q → length (conversion_text m c v) ≡ q
    go (Ok k) is h = let one : max c.options.width k ≡ q = cc in converted_length m c.options c.specifier v k is ∙ one
    go (Err z) is h = absurd (cc)

pub measured_length : (args m : List ℕ) (ds : List Directive) (j n k : ℕ) → measured args m ds j n ≡ Ok k → k ≡ n + length (shown args m ds j)
measured_length args m [] j n k e = let is : n ≡ k = cc in omega arith
measured_length args m (directives.Ordinary b ∷ ds) j n k e = let is = measured_length args m ds j (n + 1) k e in omega arith
measured_length args m (directives.Converted c ∷ ds) j n k e =
    go (conversion_length m c (get_or args j 0)) refl e (λ q h. measured_length args m ds (j + 1) (n + q) k h)
  where
    go : (r : Result ℕ HostStop) → conversion_length m c (get_or args j 0) ≡ r → and_then r (λ q. measured args m ds (j + 1) (n + q)) ≡ Ok k
        → ((q : ℕ) → measured args m ds (j + 1) (n + q) ≡ Ok k → k ≡ n + q + length (shown args m ds (j + 1)))
        → k ≡ n + length (conversion_text m c (get_or args j 0) ++ shown args m ds (j + 1))
    go (Ok q) is h more =
        let long = conversion_long m c (get_or args j 0) q is in
        let rest = more q h in
        omega (arith, length-append (conversion_text m c (get_or args j 0)) (shown args m ds (j + 1)))
    go (Err z) is h more = absurd (cc)

-- a print whose format is operand i, which stands before the arguments
module _ (ops args m : List ℕ) (i : ℕ) (into : List ℕ × List ℕ) (next : List ℕ → List Stretch → Row) (lines : Lines ops args (i + 1) 0) where
  abbrev done : Outcome
  done = run (on_bytes ops) (printed (length args) i into next) m quiet

  -- it stops where the format or a string does
  pub leaves : (a : ℕ) (stop : HostStop) → get_or ops i 0 ≡ a → text_length args m a ≡ Err stop → done ≡ Err stop
  leaves a stop first h = printed_is ops args m quiet next (length args) i a into first lines ∙ go (byte_scan 0 m a no_limit) h
    where
      go : (r : Result Found HostStop) → and_then r (λ f. if accepted (length args) 0 (directives_of f.before) then measured args m (listed (directives_of f.before)) 0 0 else Err host.BadFormat) ≡ Err stop
          → and_then r (λ f. FormatGoes ops args m quiet next (length args) (i + 1) f.before (stretch i 0 (cells_read f) ∷ [])) ≡ Err stop
      go (Err e) e_is = let same : e ≡ stop = cc in ap Err same
      go (Ok f) e_is = test (accepted (length args) 0 (directives_of f.before)) (measured args m (listed (directives_of f.before)) 0 0) e_is
        where
          test : (t : Bool) (q : Result ℕ HostStop) → (if t then q else Err host.BadFormat) ≡ Err stop
              → (if t then and_then q (λ k. run (on_bytes ops) (next (shown args m (listed (directives_of f.before)) 0) ((stretch i 0 (cells_read f) ∷ []) ++ strings_read args m (listed (directives_of f.before)) (i + 1) 0)) m quiet) else Err host.BadFormat) ≡ Err stop
          test true (Ok k) x = absurd (cc)
          test true (Err e) x = let same : e ≡ stop = cc in ap Err same
          test false q x = let same : host.BadFormat ≡ stop = cc in ap Err same

module _ (ops args m : List ℕ) (i : ℕ) (f : Format) (is : IsFormat args m f) (first : get_or ops i 0 ≡ f.at) (lines : Lines ops args (i + 1) 0) where
  abbrev pub text : List ℕ
  text = shown args m (format_directives m f) 0

  abbrev pub from : List Stretch
  from = stretch i 0 (cells_of f.text) ∷ strings_read args m (format_directives m f) (i + 1) 0

  pub text_long : f.length ≡ length text
  text_long = measured_length args m (format_directives m f) 0 0 f.length is.measures ∙ omega arith

  -- it goes on with its text and what it has read
  pub goes_on : (into : List ℕ × List ℕ) (next : List ℕ → List Stretch → Row) → run (on_bytes ops) (printed (length args) i into next) m quiet ≡ run (on_bytes ops) (next text from) m quiet
  goes_on into next =
      printed_is ops args m quiet next (length args) i f.at into first lines
      ∙ ap (λ r. and_then r (λ g. FormatGoes ops args m quiet next (length args) (i + 1) g.before (stretch i 0 (cells_read g) ∷ []))) is.scanned
      ∙ rw (is.takes, is.measures, read_is m f.at f.text is.long) refl

-- the arguments behind a format that is the first operand, or the second
pub behind_first : (a : ℕ) (args : List ℕ) (k : ℕ) → get_or (a ∷ args) (0 + 1 + k) 0 ≡ get_or args (0 + k) 0
behind_first a args k =
    let e : 0 + 1 + k ≡ suc k = omega arith in
    let f : k ≡ 0 + k = omega arith in
    ap (λ z. get_or (a ∷ args) z 0) e ∙ ap (λ z. get_or args z 0) f

pub behind_second : (a b : ℕ) (args : List ℕ) (k : ℕ) → get_or (a ∷ b ∷ args) (1 + 1 + k) 0 ≡ get_or args (0 + k) 0
behind_second a b args k =
    let e : 1 + 1 + k ≡ suc (suc k) = omega arith in
    let f : k ≡ 0 + k = omega arith in
    ap (λ z. get_or (a ∷ b ∷ args) z 0) e ∙ ap (λ z. get_or args z 0) f

pub behind_third : (a b c : ℕ) (args : List ℕ) (k : ℕ) → get_or (a ∷ b ∷ c ∷ args) (2 + 1 + k) 0 ≡ get_or args (0 + k) 0
behind_third a b c args k =
    let e : 2 + 1 + k ≡ suc (suc (suc k)) = omega arith in
    let f : k ≡ 0 + k = omega arith in
    ap (λ z. get_or (a ∷ b ∷ c ∷ args) z 0) e ∙ ap (λ z. get_or args z 0) f
