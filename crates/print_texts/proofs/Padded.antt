-- How long what a conversion prints is.
use Rattle.std.proofs.Common.{◌≡◌, ℕ, ◌+◌, ◌-◌, ◌%◌, max, Bool, true, false, List, [], ◌∷◌, ◌++◌, length, replicate, Result, Ok, Err, refl, sym, ap, ◌∙◌, arith, append-nil, length-append}
use Rattle.std.specs.Prelude.{if◌then◌else◌}
use Rattle.std.proofs.lemmas.List.{length-replicate}
use Rattle.print_formats.specs.declared.conversions.Options.{Options}
use Rattle.print_formats.specs.declared.conversions.Specifier.{Specifier}
use Rattle.print_formats.specs.declared.conversions.Specifier.TheVariants as specifiers
use Rattle.print_formats.specs.Texts.{padded, string_text, sign_of, digits_of, printed_number}
use Rattle.library_meaning.specs.Scan.{Found, and_then}
use Rattle.library_meaning.specs.declared.stops.HostStop.{HostStop}
use Rattle.print_texts.specs.Paddings.{padding_of, in_parts}
use Rattle.print_texts.specs.Printing.{counted, converted_text, string_scan, found_part}

pub padded_length : (o : Options) (sign body : List ℕ) → length (padded o sign body) ≡ max o.width (length sign + length body)
padded_length o sign body = go o.left o.zero
  where
    gap : ℕ
    gap = o.width - (length sign + length body)

    go : (l z : Bool) → length (if l then sign ++ (body ++ replicate gap 32) else (if z then sign ++ (replicate gap 48 ++ body) else replicate gap 32 ++ (sign ++ body))) ≡ max o.width (length sign + length body)
    go true z = omega (arith, length-append {A = ℕ}, length-replicate {A = ℕ})
    go false true = omega (arith, length-append {A = ℕ}, length-replicate {A = ℕ})
    go false false = omega (arith, length-append {A = ℕ}, length-replicate {A = ℕ})

-- the same text, part by part
pub padded_parts : (o : Options) (sign body : List ℕ) (n : ℕ) → n ≡ length sign + length body → padded o sign body ≡ in_parts (padding_of o n) sign body
padded_parts o sign body n e = rw e (go o.left o.zero)
  where
    gap : ℕ
    gap = o.width - (length sign + length body)

    go : (l z : Bool) → (if l then sign ++ (body ++ replicate gap 32) else (if z then sign ++ (replicate gap 48 ++ body) else replicate gap 32 ++ (sign ++ body)))
        ≡ in_parts (if l then record { before = 0; zeros = 0; behind = gap } else (if z then record { before = 0; zeros = gap; behind = 0 } else record { before = gap; zeros = 0; behind = 0 })) sign body
    go true z = refl
    go false true = ap (λ x. sign ++ (replicate gap 48 ++ x)) (sym (append-nil body))
    go false false = ap (λ x. replicate gap 32 ++ (sign ++ x)) (sym (append-nil body))

pub converted_length : (m : List ℕ) (o : Options) (s : Specifier) (v k : ℕ) → counted m s v ≡ Ok k → length (converted_text m o s v) ≡ max o.width k
converted_length m o (specifiers.Integer numeral of) v k e =
    let z = printed_number numeral of v in
    let is : length (sign_of z) + length (digits_of numeral z) ≡ k = cc in
    padded_length o (sign_of z) (digits_of numeral z) ∙ ap (max o.width) is
converted_length m o specifiers.Character v k e =
    let is : 1 ≡ k = cc in
    padded_length o [] (v % 256 ∷ []) ∙ ap (max o.width) is
converted_length m o (specifiers.Text precision) v k e = go (string_scan m v precision) e
  where
    go : (r : Result Found HostStop) → and_then r (λ s. Ok (length s.before)) ≡ Ok k → length (string_text o (found_part r).before) ≡ max o.width k
    go (Ok f) h = let one : length f.before ≡ k = cc in let is : 0 + length f.before ≡ k = omega arith in padded_length o [] f.before ∙ ap (max o.width) is
    go (Err z) h = absurd (cc)
