-- A format's directives, part by part.
use Rattle.std.proofs.Common.{◌≡◌, ◌≢◌, ℕ, ◌+◌, ◌-◌, ◌<◌, ◌≤◌, true, List, [], ◌∷◌, ◌++◌, length, take, drop, get_or, Option, None, Some, is_some, refl, sym, ap, ◌∙◌, arith}
use Rattle.std.specs.Prelude.{nat_le}
use Rattle.std.proofs.lemmas.Bool.{ne_eqb}
use Rattle.std.proofs.lemmas.List.{take_more, drop_more, get_or-drop, length-drop}
use Rattle.print_formats.specs.declared.conversions.Conversion.{Conversion}
use Rattle.print_formats.specs.declared.conversions.Directive.{Directive}
use Rattle.print_formats.specs.declared.conversions.Directive.TheVariants as directives
use Rattle.print_formats.specs.declared.automaton.FormatState.TheVariants as states
use Rattle.print_formats.specs.Formats.{directives_of, and_directive}
use Rattle.print_formats.proofs.Bytes.{ends}
use Rattle.print_texts.specs.Printing.{accepted, apart, listed, measured, ordinaries, ordinary}

-- one more byte that is printed as it is
ordinary_more : (xs : List ℕ) (b : ℕ) (o : Option (List Directive)) → ordinary (xs ++ b ∷ []) o ≡ ordinary xs (and_directive (directives.Ordinary b) o)
ordinary_more [] b o = refl
ordinary_more (x ∷ xs) b o = ap (and_directive (directives.Ordinary x)) (ordinary_more xs b o)

plain_byte : (b : ℕ) (bs : List ℕ) → b ≢ 37 → directives_of (b ∷ bs) ≡ and_directive (directives.Ordinary b) (directives_of bs)
plain_byte b bs ne = ends states.Outside b bs (directives.Ordinary b) (rw (ne_eqb b 37 ne) refl)

pub run_more : (f : List ℕ) (at e : ℕ) → at ≤ e → e < length f → get_or f e 0 ≢ 37
    → ordinary (take (e + 1 - at) (drop at f)) (directives_of (drop (e + 1) f)) ≡ ordinary (take (e - at) (drop at f)) (directives_of (drop e f))
run_more f at e up lt ne =
    let b : ℕ = get_or f e 0 in
    let k : ℕ = e - at in
    let one : e + 1 - at ≡ k + 1 = omega arith in
    let back : at + k ≡ e = omega arith in
    let here : get_or (drop at f) k 0 ≡ b = get_or-drop at f k 0 ∙ ap (λ z. get_or f z 0) back in
    let long : k < length (drop at f) = omega (arith, length-drop at f) in
    ap (λ z. ordinary (take z (drop at f)) (directives_of (drop (e + 1) f))) one
    ∙ ap (λ z. ordinary z (directives_of (drop (e + 1) f))) (take_more (drop at f) k 0 long)
    ∙ ap (λ z. ordinary (take k (drop at f) ++ z ∷ []) (directives_of (drop (e + 1) f))) here
    ∙ ordinary_more (take k (drop at f)) b (directives_of (drop (e + 1) f))
    ∙ ap (ordinary (take k (drop at f))) (sym (plain_byte b (drop (e + 1) f) ne) ∙ ap directives_of (sym (drop_more f e 0 lt)))

-- `%%`
pub one_byte : (f : List ℕ) (behind c : ℕ) (o : Option (List Directive)) → 0 < behind → behind ≤ length f → c ≡ get_or f (behind - 1) 0
    → and_directive (directives.Ordinary c) o ≡ ordinary (take (behind - (behind - 1)) (drop (behind - 1) f)) o
one_byte f behind c o some le is =
    let one : behind - (behind - 1) ≡ 1 = omega arith in
    sym (rw one (ap (λ z. ordinary (take 1 z) o) (drop_more f (behind - 1) 0 (omega arith))) ∙ ap (λ z. and_directive (directives.Ordinary z) o) (sym is))

-- how many arguments are taken
accepted_byte : (passed n b : ℕ) (o : Option (List Directive)) → accepted passed n (and_directive (directives.Ordinary b) o) ≡ accepted passed n o
accepted_byte passed n b None = refl
accepted_byte passed n b (Some ds) = refl

pub accepted_run : (passed n : ℕ) (xs : List ℕ) (o : Option (List Directive)) → accepted passed n (ordinary xs o) ≡ accepted passed n o
accepted_run passed n [] o = refl
accepted_run passed n (b ∷ xs) o = accepted_byte passed n b (ordinary xs o) ∙ accepted_run passed n xs o

pub accepted_conversion : (passed n : ℕ) (c : Conversion) (o : Option (List Directive)) → accepted passed n (and_directive (directives.Converted c) o) ≡ accepted passed (n + 1) o
accepted_conversion passed n c None = refl
accepted_conversion passed n c (Some ds) = ap (λ z. nat_le z passed) (omega arith)

-- a format that goes on
byte_listed : (b : ℕ) (o : Option (List Directive)) → is_some (and_directive (directives.Ordinary b) o) ≡ true → (is_some o ≡ true) × (listed (and_directive (directives.Ordinary b) o) ≡ directives.Ordinary b ∷ listed o)
byte_listed b None well = absurd (cc)
byte_listed b (Some ds) well = (refl, refl)

pub run_listed : (xs : List ℕ) (o : Option (List Directive)) → is_some (ordinary xs o) ≡ true → (is_some o ≡ true) × (listed (ordinary xs o) ≡ ordinaries xs (listed o))
run_listed [] o well = (well, refl)
run_listed (b ∷ xs) o well =
    let first = byte_listed b (ordinary xs o) well in
    let rest = run_listed xs o first.0 in
    (rest.0, first.1 ∙ ap (λ ds. directives.Ordinary b ∷ ds) rest.1)

pub conversion_listed : (c : Conversion) (o : Option (List Directive)) → is_some (and_directive (directives.Converted c) o) ≡ true → (is_some o ≡ true) × (listed (and_directive (directives.Converted c) o) ≡ directives.Converted c ∷ listed o)
conversion_listed c None well = absurd (cc)
conversion_listed c (Some ds) well = (refl, refl)

pub measured_run : (args m xs : List ℕ) (ds : List Directive) (j n : ℕ) → measured args m (ordinaries xs ds) j n ≡ measured args m ds j (n + length xs)
measured_run args m [] ds j n = ap (measured args m ds j) (omega arith)
measured_run args m (b ∷ xs) ds j n = measured_run args m xs ds j (n + 1) ∙ ap (measured args m ds j) (omega arith)

-- what directives read, behind bytes that are printed as they are
pub apart_run : (args m : List ℕ) (d n : ℕ) (xs : List ℕ) (ds : List Directive) (j : ℕ) → apart args m d n (ordinaries xs ds) j ≡ apart args m d n ds j
apart_run args m d n [] ds j = refl
apart_run args m d n (b ∷ xs) ds j = apart_run args m d n xs ds j
