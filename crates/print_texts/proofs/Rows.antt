-- The rows of prints over the machine's bytes, by the reading functions.
use Rattle.std.proofs.Common.{◌≡◌, ℕ, ◌+◌, max, Bool, true, false, not, ◌&&◌, ◌||◌, eqb, List, [], ◌∷◌, ◌++◌, length, get_or, Option, None, Some, Result, Ok, Err, refl, sym, ap, ◌∙◌, arith, append-nil, append_assoc, length-append}
use Rattle.std.specs.Prelude.{nat_le, if◌then◌else◌}
use Rattle.std.proofs.Math.Nat.{add-zero}
use Rattle.run_meaning.specs.Worlds.{World}
use Rattle.print_formats.specs.declared.conversions.Directive.{Directive}
use Rattle.print_formats.specs.declared.conversions.Directive.TheVariants as directives
use Rattle.print_formats.specs.declared.conversions.Options.{Options}
use Rattle.print_formats.specs.declared.conversions.Specifier.{Specifier}
use Rattle.print_formats.specs.declared.conversions.Specifier.TheVariants as specifiers
use Rattle.print_formats.specs.Formats.{directives_of, conversions_of}
use Rattle.print_formats.specs.Texts.{string_text}
use Rattle.library_meaning.specs.Scan.{Found, and_then}
use Rattle.library_meaning.specs.Rows.{Row, Malformed, Point, Answer, Stretch, stretch, run}
use Rattle.library_meaning.specs.Table.{no_limit, cells_read}
use Rattle.library_meaning.specs.Prints.{texts, converted, formatted, printed, touched_strings}
use Rattle.library_meaning.specs.OnBytes.{address, meets, meets_any, on_bytes}
use Rattle.library_meaning.specs.declared.stops.HostStop.{HostStop}
use Rattle.library_meaning.specs.declared.stops.HostStop.TheVariants as host
use Rattle.host_bytes.specs.Texts.{byte_scan}
use Rattle.print_texts.specs.Printing.{accepted, apart, conversion_reads, listed, measured, shown, counted, converted_text, string_scan, found_part}
use Rattle.print_texts.proofs.Padded.{converted_length}
use Rattle.print_texts.specs.Stretches.{strings_read, string_read}

abbrev Outcome : Type 0
Outcome = Result (Answer (List ℕ)) HostStop

-- a conversion goes on where its characters can be counted
module _ (ops m : List ℕ) (w : World) where
  converted_is : (o : Options) (s : Specifier) (i v : ℕ) (next : List ℕ → List Stretch → Row) → get_or ops i 0 ≡ v
      → run (on_bytes ops) (converted o s i next) m w ≡ and_then (counted m s v) (λ k. run (on_bytes ops) (next (converted_text m o s v) (string_read m s i v)) m w)
  converted_is o (specifiers.Integer numeral of) i v next e = rw e refl
  converted_is o specifiers.Character i v next e = rw e refl
  converted_is o (specifiers.Text precision) i v next e = rw (add-zero (get_or ops i 0), e) (go (string_scan m v precision))
    where
      go : (r : Result Found HostStop) → and_then r (λ s. run (on_bytes ops) (next (string_text o s.before) (stretch i 0 (cells_read s) ∷ [])) m w)
          ≡ and_then (and_then r (λ s. Ok (length s.before))) (λ k. run (on_bytes ops) (next (string_text o (found_part r).before) (stretch i 0 (cells_read (found_part r)) ∷ [])) m w)
      go (Ok f) = refl
      go (Err e) = refl

  chained : (r : Result ℕ HostStop) (g : ℕ → ℕ) (h : ℕ → Result ℕ HostStop) (x : Outcome) (f : ℕ → Outcome) → ((k : ℕ) → r ≡ Ok k → x ≡ and_then (h (g k)) f)
      → and_then r (λ k. x) ≡ and_then (and_then (and_then r (λ k. Ok (g k))) h) f
  chained (Ok k) g h x f e = e k refl
  chained (Err z) g h x f e = refl

module _ (ops args : List ℕ) where
  -- operand i is argument j, and so on
  abbrev pub Lines : ℕ → ℕ → Type 0
  Lines i j = (k : ℕ) → get_or ops (i + k) 0 ≡ get_or args (j + k) 0

  here : (i j : ℕ) → Lines i j → get_or ops i 0 ≡ get_or args j 0
  here i j l = ap (λ z. get_or ops z 0) (sym (add-zero i)) ∙ l 0 ∙ ap (λ z. get_or args z 0) (add-zero j)

  there : (i j : ℕ) → Lines i j → Lines (i + 1) (j + 1)
  there i j l k =
      let e : i + 1 + k ≡ i + (k + 1) = omega arith in
      let f : j + (k + 1) ≡ j + 1 + k = omega arith in
      ap (λ z. get_or ops z 0) e ∙ l (k + 1) ∙ ap (λ z. get_or args z 0) f

  -- what is read meets n bytes at d, or is apart from them
  module _ (m : List ℕ) (d n : ℕ) (to : address ops 0 0 ≡ d) where
    meets_none : (v : ℕ) → meets d n v 0 ≡ false
    meets_none v = go (eqb n 0)
      where
        go : (t : Bool) → not t && false ≡ false
        go true = refl
        go false = refl

    one_more : (a b c : Bool) → a ≡ b → b || not c ≡ not (not a && c)
    one_more a b c e = rw (sym e) (go a)
      where
        go : (t : Bool) → t || not c ≡ not (not t && c)
        go true = refl
        go false = refl

    pub meets_any_is : (ds : List Directive) (i j : ℕ) → Lines i j → meets_any ops (stretch 0 0 n) (strings_read args m ds i j) ≡ not (apart args m d n ds j)
    meets_any_is [] i j l = refl
    meets_any_is (directives.Ordinary b ∷ ds) i j l = meets_any_is ds i j l
    meets_any_is (directives.Converted c ∷ ds) i j l = go c.specifier (meets_any_is ds (i + 1) (j + 1) (there i j l))
      where
        v : ℕ
        v = get_or args j 0

        rest : Bool
        rest = apart args m d n ds (j + 1)

        go : (s : Specifier) → meets_any ops (stretch 0 0 n) (strings_read args m ds (i + 1) (j + 1)) ≡ not rest
            → meets_any ops (stretch 0 0 n) (string_read m s i (get_or args j 0) ++ strings_read args m ds (i + 1) (j + 1)) ≡ not (not (meets d n (get_or args j 0) (conversion_reads m s (get_or args j 0))) && rest)
        go (specifiers.Integer numeral of) e = e ∙ one_more (meets d n (get_or args j 0) 0) false rest (meets_none (get_or args j 0))
        go specifiers.Character e = e ∙ one_more (meets d n (get_or args j 0) 0) false rest (meets_none (get_or args j 0))
        go (specifiers.Text p) e =
            let k : ℕ = conversion_reads m (specifiers.Text p) (get_or args j 0) in
            let at : address ops i 0 ≡ get_or args j 0 = add-zero (get_or ops i 0) ∙ here i j l in
            rw (to, at, e) (one_more (meets d n (get_or args j 0) k) (meets d n (get_or args j 0) k) rest refl)

module _ (ops args m : List ℕ) (w : World) (next : List ℕ → List Stretch → Row) where
  goes_on : List ℕ → List Stretch → Outcome
  goes_on text from = run (on_bytes ops) (next text from) m w

  texts_are : (ds : List Directive) (i j n : ℕ) (so : List ℕ) (from : List Stretch) → Lines ops args i j → length so ≡ n
      → run (on_bytes ops) (texts ds i so from next) m w ≡ and_then (measured args m ds j n) (λ k. run (on_bytes ops) (next (so ++ shown args m ds j) (from ++ strings_read args m ds i j)) m w)
  texts_are [] i j n so from l e = ap (λ x. run (on_bytes ops) (next x from) m w) (sym (append-nil so)) ∙ ap (λ x. run (on_bytes ops) (next (so ++ []) x) m w) (sym (append-nil from))
  texts_are (directives.Ordinary b ∷ ds) i j n so from l e =
      let long : length (so ++ b ∷ []) ≡ n + 1 = length-append so (b ∷ []) ∙ ap (λ z. z + 1) e in
      texts_are ds i j (n + 1) (so ++ b ∷ []) from l long
      ∙ ap (λ x. and_then (measured args m ds j (n + 1)) (λ k. run (on_bytes ops) (next x (from ++ strings_read args m ds i j)) m w)) (append_assoc so (b ∷ []) (shown args m ds j))
  texts_are (directives.Converted c ∷ ds) i j n so from l e =
      let v : ℕ = get_or args j 0 in
      let text : List ℕ = converted_text m c.options c.specifier v in
      let read : List Stretch = string_read m c.specifier i v in
      converted_is ops m w c.options c.specifier i v (λ t r. texts ds (i + 1) (so ++ t) (from ++ r) next) (here ops args i j l)
      ∙ chained ops m w (counted m c.specifier v) (λ k. max c.options.width k) (λ k. measured args m ds (j + 1) (n + k)) _ (λ k. run (on_bytes ops) (next (so ++ (text ++ shown args m ds (j + 1))) (from ++ (read ++ strings_read args m ds (i + 1) (j + 1)))) m w)
      (λ k is. texts_are ds (i + 1) (j + 1) (n + max c.options.width k) (so ++ text) (from ++ read) (there ops args i j l) (length-append so text ∙ ap (λ z. z + length text) e ∙ ap (λ z. n + z) (converted_length m c.options c.specifier v k is))
      ∙ ap (λ x. and_then (measured args m ds (j + 1) (n + max c.options.width k)) (λ q. run (on_bytes ops) (next x ((from ++ read) ++ strings_read args m ds (i + 1) (j + 1))) m w)) (append_assoc so text (shown args m ds (j + 1)))
      ∙ ap (λ x. and_then (measured args m ds (j + 1) (n + max c.options.width k)) (λ q. run (on_bytes ops) (next (so ++ (text ++ shown args m ds (j + 1))) x) m w)) (append_assoc from read (strings_read args m ds (i + 1) (j + 1))))

  -- the format, once it was read
  abbrev pub FormatGoes : ℕ → ℕ → List ℕ → List Stretch → Outcome
  FormatGoes passed i format from =
      if accepted passed 0 (directives_of format)
      then and_then (measured args m (listed (directives_of format)) 0 0) (λ k. run (on_bytes ops) (next (shown args m (listed (directives_of format)) 0) (from ++ strings_read args m (listed (directives_of format)) i 0)) m w)
      else Err host.BadFormat

  formatted_is : (passed i : ℕ) (into : List ℕ × List ℕ) (format : List ℕ) (from : List Stretch) → Lines ops args i 0
      → run (on_bytes ops) (formatted passed (directives_of format) i into from next) m w ≡ FormatGoes passed i format from
  formatted_is passed i into format from l = go (directives_of format)
    where
      go : (o : Option (List Directive)) → run (on_bytes ops) (formatted passed o i into from next) m w
          ≡ (if accepted passed 0 o then and_then (measured args m (listed o) 0 0) (λ k. run (on_bytes ops) (next (shown args m (listed o) 0) (from ++ strings_read args m (listed o) i 0)) m w) else Err host.BadFormat)
      go None = refl
      go (Some ds) = let e : 0 + length (conversions_of ds) ≡ length (conversions_of ds) = omega arith in rw e (test (nat_le (length (conversions_of ds)) passed))
        where
          test : (t : Bool) → run (on_bytes ops) (if t then Point (into.0 ++ touched_strings ds i) (into.1 ++ touched_strings ds i) (texts ds i [] from next) else Malformed) m w
              ≡ (if t then and_then (measured args m ds 0 0) (λ k. run (on_bytes ops) (next (shown args m ds 0) (from ++ strings_read args m ds i 0)) m w) else Err host.BadFormat)
          test true = texts_are ds i 0 0 [] from l refl
          test false = refl

  -- a whole print, whose format stands at an address
  pub printed_is : (passed i format : ℕ) (into : List ℕ × List ℕ) → get_or ops i 0 ≡ format → Lines ops args (i + 1) 0
      → run (on_bytes ops) (printed passed i into next) m w ≡ and_then (byte_scan 0 m format no_limit) (λ f. FormatGoes passed (i + 1) f.before (stretch i 0 (cells_read f) ∷ []))
  printed_is passed i format into e l = rw (add-zero (get_or ops i 0), e) (go (byte_scan 0 m format no_limit))
    where
      go : (r : Result Found HostStop) → and_then r (λ f. run (on_bytes ops) (formatted passed (directives_of f.before) (i + 1) into (stretch i 0 (cells_read f) ∷ []) next) m w)
          ≡ and_then r (λ f. FormatGoes passed (i + 1) f.before (stretch i 0 (cells_read f) ∷ []))
      go (Ok f) = formatted_is passed (i + 1) into f.before (stretch i 0 (cells_read f) ∷ []) l
      go (Err z) = refl
