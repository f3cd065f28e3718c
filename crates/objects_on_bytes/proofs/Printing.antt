-- Prints store bytes: the text of a print is bytes where its format and strings are.
use Rattle.std.proofs.Common.{◌≡◌, ℕ, zero, suc, ◌+◌, ◌-◌, ◌/◌, ◌%◌, ◌<◌, ◌≤◌, Bool, true, false, List, [], ◌∷◌, ◌++◌, length, take, replicate, Option, None, Some, arith}
use Rattle.std.specs.Prelude.{◌==◌, nat_le, nat_lt, ⊤, ℤ, pos, negsuc, unsigned_abs, if◌then◌else◌}
use Rattle.std.specs.Fmt.{digits, digits_onto, digit_glyph}
use Rattle.std.proofs.Math.Nat.{mod-lt}
use Rattle.fc_base.specs.declared.levels.Width.{Width}
use Rattle.run_meaning.specs.Worlds.{AreBytes}
use Rattle.print_formats.specs.declared.automaton.FormatState.{FormatState}
use Rattle.print_formats.specs.declared.automaton.FormatState.TheVariants as states
use Rattle.print_formats.specs.declared.automaton.FormatStep.{FormatStep}
use Rattle.print_formats.specs.declared.automaton.FormatStep.TheVariants as steps
use Rattle.print_formats.specs.declared.conversions.Directive.{Directive}
use Rattle.print_formats.specs.declared.conversions.Directive.TheVariants as directives
use Rattle.print_formats.specs.declared.conversions.Numeral.{Numeral}
use Rattle.print_formats.specs.declared.conversions.Numeral.TheVariants as numerals
use Rattle.print_formats.specs.declared.conversions.Options.{Options}
use Rattle.print_formats.specs.declared.conversions.Specifier.{Specifier}
use Rattle.print_formats.specs.declared.conversions.Specifier.TheVariants as specifiers
use Rattle.print_formats.specs.Formats.{directives_of, directives_from, and_directive, conversions_of, step}
use Rattle.print_formats.specs.Reading.{EndsWith, OrdinaryIs}
use Rattle.print_formats.specs.Texts.{base_of, is_upper, printed_number, sign_of, digits_of, padded, number_text, character_text, string_text}
use Rattle.print_formats.proofs.Bytes.{ordinary_is}
use Rattle.library_meaning.specs.Prints.{converted, texts, formatted, printed, cut_into}
use Rattle.library_meaning.specs.Rows.{Row, Stretch}
use Rattle.objects_on_bytes.specs.Rows.{IsBytewise}
use Rattle.objects_on_bytes.proofs.Bytewise.{bytes_append, bytes_replicate, bytes_take, text_bytewise, if_bytewise}

-- ---- the text of a conversion

if_bytes : (t : Bool) (xs ys : List ℕ) → AreBytes xs → AreBytes ys → AreBytes (if t then xs else ys)
if_bytes true xs ys h k = h
if_bytes false xs ys h k = k

if_below : (t : Bool) (a b : ℕ) → a < 256 → b < 256 → (if t then a else b) < 256
if_below true a b h k = h
if_below false a b h k = k

glyph_below : (upper : Bool) (d : ℕ) → d < 16 → digit_glyph upper d < 256
glyph_below upper d h = if_below (nat_lt d 10) _ _ (omega (arith, h)) (if_below upper _ _ (omega (arith, h)) (omega (arith, h)))

digits_onto_bytes : (k base : ℕ) (upper : Bool) (n : ℕ) (acc : List ℕ) → 0 < base → base ≤ 16 → AreBytes acc → AreBytes (digits_onto k base upper n acc)
digits_onto_bytes zero base upper n acc some low h = h
digits_onto_bytes (suc k) base upper n acc some low h =
    let small : n % base < base = mod-lt n some in
    let one : digit_glyph upper (n % base) < 256 = glyph_below upper (n % base) (omega arith) in
    if_bytes (n / base == 0) _ _ (one, h) (digits_onto_bytes k base upper (n / base) (digit_glyph upper (n % base) ∷ acc) some low (one, h))

digits_bytes : (base : ℕ) (upper : Bool) (n : ℕ) → 0 < base → base ≤ 16 → AreBytes (digits base upper n)
unfolding digits
digits_bytes base upper n some low = digits_onto_bytes 64 base upper n [] some low tt

numeral_bytes : (numeral : Numeral) (z : ℤ) → AreBytes (digits_of numeral z)
numeral_bytes numerals.Signed z = digits_bytes 10 false (unsigned_abs z) (omega arith) (omega arith)
numeral_bytes numerals.Unsigned z = digits_bytes 10 false (unsigned_abs z) (omega arith) (omega arith)
numeral_bytes numerals.Octal z = digits_bytes 8 false (unsigned_abs z) (omega arith) (omega arith)
numeral_bytes numerals.Hexadecimal z = digits_bytes 16 false (unsigned_abs z) (omega arith) (omega arith)
numeral_bytes numerals.UpperHexadecimal z = digits_bytes 16 true (unsigned_abs z) (omega arith) (omega arith)

sign_bytes : (z : ℤ) → AreBytes (sign_of z)
sign_bytes (pos n) = tt
sign_bytes (negsuc n) = (omega arith, tt)

padded_bytes : (o : Options) (sign body : List ℕ) → AreBytes sign → AreBytes body → AreBytes (padded o sign body)
padded_bytes o sign body h k =
    let missing : ℕ = o.width - (length sign + length body) in
    if_bytes o.left _ _ (bytes_append sign _ h (bytes_append body _ k (bytes_replicate missing 32 (omega arith))))
    (if_bytes o.zero _ _ (bytes_append sign _ h (bytes_append (replicate missing 48) body (bytes_replicate missing 48 (omega arith)) k))
    (bytes_append (replicate missing 32) _ (bytes_replicate missing 32 (omega arith)) (bytes_append sign body h k)))

number_bytes : (o : Options) (numeral : Numeral) (of : Width) (v : ℕ) → AreBytes (number_text o numeral of v)
number_bytes o numeral of v =
    let z : ℤ = printed_number numeral of v in padded_bytes o (sign_of z) (digits_of numeral z) (sign_bytes z) (numeral_bytes numeral z)

character_bytes : (o : Options) (v : ℕ) → AreBytes (character_text o v)
character_bytes o v = padded_bytes o [] (v % 256 ∷ []) tt (omega arith, tt)

-- ---- the bytes of a format that are printed as they are

abbrev Ordinary : Directive → Type 0
Ordinary (directives.Ordinary b) = b < 256
Ordinary (directives.Converted c) = ⊤

abbrev AllOrdinary : List Directive → Type 0
AllOrdinary [] = ⊤
AllOrdinary (d ∷ ds) = Ordinary d × AllOrdinary ds

abbrev FormatBytes : Option (List Directive) → Type 0
FormatBytes None = ⊤
FormatBytes (Some ds) = AllOrdinary ds

format_bytes : (s : FormatState) (bs : List ℕ) → AreBytes bs → FormatBytes (directives_from s bs)
format_bytes states.Outside [] h = tt
format_bytes (states.Flags o) [] h = tt
format_bytes (states.Width o) [] h = tt
format_bytes (states.Precision o n) [] h = tt
format_bytes (states.Length o m) [] h = tt
format_bytes s (b ∷ bs) h = go (step s b) (ordinary_is b s) (λ t. format_bytes t bs h.1)
  where
    ends_with : (d : Directive) → EndsWith b d → Ordinary d
    ends_with (directives.Ordinary c) e = let small = h.0 in omega (arith, e, small)
    ends_with (directives.Converted c) e = tt

    more : (d : Directive) (rest : Option (List Directive)) → Ordinary d → FormatBytes rest → FormatBytes (and_directive d rest)
    more d None k l = tt
    more d (Some ds) k l = (k, l)

    go : (x : FormatStep) → OrdinaryIs b x → ((t : FormatState) → FormatBytes (directives_from t bs)) → FormatBytes (elim x [ steps.Malformed ↦ None | steps.Goes t ↦ directives_from t bs | steps.Ends d ↦ and_directive d (directives_from states.Outside bs) ])
    go steps.Malformed e rest = tt
    go (steps.Goes t) e rest = rest t
    go (steps.Ends d) e rest = more d (directives_from states.Outside bs) (ends_with d e) (rest states.Outside)

-- ---- a print stores bytes where its text is bytes

converted_bytewise : (o : Options) (s : Specifier) (i : ℕ) (next : List ℕ → List Stretch → Row) → ((text : List ℕ) (reads : List Stretch) → AreBytes text → IsBytewise (next text reads)) → IsBytewise (converted o s i next)
converted_bytewise o (specifiers.Integer numeral of) i next h = λ v. h _ _ (number_bytes o numeral of v)
converted_bytewise o specifiers.Character i next h = λ v. h _ _ (character_bytes o v)
converted_bytewise o (specifiers.Text precision) i next h = λ f k. h _ _ (padded_bytes o [] f.before tt k)

module _ (next : List ℕ → List Stretch → Row) (goes_on : (text : List ℕ) (from : List Stretch) → AreBytes text → IsBytewise (next text from)) where
  texts_bytewise : (ds : List Directive) (i : ℕ) (so : List ℕ) (from : List Stretch) → AllOrdinary ds → AreBytes so → IsBytewise (texts ds i so from next)
  texts_bytewise [] i so from all h = goes_on so from h
  texts_bytewise (directives.Ordinary b ∷ ds) i so from all h = texts_bytewise ds i (so ++ b ∷ []) from all.1 (bytes_append so (b ∷ []) h (all.0, tt))
  texts_bytewise (directives.Converted c ∷ ds) i so from all h =
      converted_bytewise c.options c.specifier i (λ text reads. texts ds (i + 1) (so ++ text) (from ++ reads) next)
      (λ text reads k. texts_bytewise ds (i + 1) (so ++ text) (from ++ reads) all.1 (bytes_append so text h k))

  formatted_bytewise : (passed i : ℕ) (also : List ℕ × List ℕ) (from : List Stretch) (ds : Option (List Directive)) → FormatBytes ds → IsBytewise (formatted passed ds i also from next)
  formatted_bytewise passed i also from None h = tt
  formatted_bytewise passed i also from (Some ds) h = if_bytewise (nat_le (length (conversions_of ds)) passed) _ _ (texts_bytewise ds i [] from h tt) tt

  pub printed_bytewise : (passed i : ℕ) (also : List ℕ × List ℕ) → IsBytewise (printed passed i also next)
  printed_bytewise passed i also = λ f h. formatted_bytewise passed (i + 1) also _ (directives_of f.before) (format_bytes states.Outside f.before h)

pub cut_bytewise : (n : ℕ) (text : List ℕ) (from : List Stretch) → AreBytes text → IsBytewise (cut_into n text from)
cut_bytewise n text from h = if_bytewise (n == 0) _ _ tt (text_bytewise (take (n - 1) text) (bytes_take (n - 1) text h), tt)
