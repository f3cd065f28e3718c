-- A byte that is printed as it is, is the one that was read last.
use Rattle.std.proofs.Common.{◌≡◌, ℕ, Bool, true, false, List, ◌∷◌, Option, None, Some, refl}
use Rattle.std.specs.Prelude.{◌==◌, nat_lt, ◌||◌, if◌then◌else◌}
use Rattle.std.specs.Str.{byte}
use Rattle.fc_base.specs.declared.levels.Width.{Width}
use Rattle.fc_base.specs.declared.levels.Width.TheVariants.{W4}
use Rattle.print_formats.specs.declared.conversions.Numeral.{Numeral}
use Rattle.print_formats.specs.declared.conversions.LengthModifier.{LengthModifier}
use Rattle.print_formats.specs.declared.conversions.Directive.{Directive}
use Rattle.print_formats.specs.declared.conversions.Options.{Options}
use Rattle.print_formats.specs.declared.conversions.Specifier.{Specifier}
use Rattle.print_formats.specs.declared.conversions.Specifier.TheVariants as specifiers
use Rattle.print_formats.specs.declared.automaton.FormatState.{FormatState}
use Rattle.print_formats.specs.declared.automaton.FormatState.TheVariants as states
use Rattle.print_formats.specs.declared.automaton.FormatStep.{FormatStep}
use Rattle.print_formats.specs.declared.automaton.FormatStep.TheVariants as steps
use Rattle.print_formats.specs.Formats.{step, in_flags, in_width, in_precision, in_length, behind_width, and_directive, directives_from, directives_of, ended, ended_integer, ended_without_zero, numeral_of, modifier_of, modified_width, doubled, greatest, more_digits, is_digit}
use Rattle.print_formats.specs.Reading.{OrdinaryIs}

module _ (b : ℕ) where
  abbrev Is : FormatStep → Type 0
  Is x = OrdinaryIs b x

  either : (t : Bool) (x y : FormatStep) → Is x → Is y → Is (if t then x else y)
  either true x y p q = p
  either false x y p q = q

  integer : (o : Options) (of : Width) → Is (ended_integer o of b)
  integer o of = go (numeral_of b)
    where
      go : (n : Option Numeral) → Is (elim n [ Some numeral ↦ ended o (specifiers.Integer numeral of) | None ↦ steps.Malformed ])
      go None = tt
      go (Some n) = tt

  without_zero : (o : Options) (s : Specifier) → Is (ended_without_zero o s)
  without_zero o s = either o.zero steps.Malformed (ended o s) tt tt

  behind : (o : Options) → Is (behind_width o b)
  behind o = either (b == byte ".") _ _ tt (either (b == byte "c") _ _ (without_zero o specifiers.Character) (either (b == byte "s") _ _ (without_zero o (specifiers.Text None)) (go (modifier_of b))))
    where
      go : (n : Option LengthModifier) → Is (elim n [ Some m ↦ steps.Goes (states.Length o m) | None ↦ ended_integer o W4 b ])
      go None = integer o W4
      go (Some m) = tt

  width : (o : Options) → Is (in_width o b)
  width o = either (is_digit b) _ _ (either (nat_lt greatest (more_digits o.width b)) _ _ tt tt) (behind o)

  flags : (o : Options) → Is (in_flags o b)
  flags o = either (b == byte "-") _ _ (either o.left _ _ tt tt) (either (b == byte "0") _ _ (either o.zero _ _ tt tt) (either (b == byte "%") _ _ (either (o.left || o.zero) _ _ tt refl) (width o)))

  precision : (o : Options) (n : ℕ) → Is (in_precision o n b)
  precision o n = either (is_digit b) _ _ (either (nat_lt greatest (more_digits n b)) _ _ tt tt) (either (b == byte "s") _ _ (without_zero o (specifiers.Text (Some n))) tt)

  length_of : (o : Options) (m : LengthModifier) → Is (in_length o m b)
  length_of o m = go (doubled m b)
    where
      go : (n : Option LengthModifier) → Is (elim n [ Some k ↦ steps.Goes (states.Length o k) | None ↦ ended_integer o (modified_width m) b ])
      go None = integer o (modified_width m)
      go (Some k) = tt

  pub ordinary_is : (s : FormatState) → OrdinaryIs b (step s b)
  ordinary_is states.Outside = either (b == byte "%") _ _ tt refl
  ordinary_is (states.Flags o) = flags o
  ordinary_is (states.Width o) = width o
  ordinary_is (states.Precision o n) = precision o n
  ordinary_is (states.Length o m) = length_of o m

-- a directive that ends
pub ends : (s : FormatState) (b : ℕ) (bs : List ℕ) (d : Directive) → steps.Ends d ≡ step s b → directives_from s (b ∷ bs) ≡ and_directive d (directives_of bs)
ends s b bs d e = rw (← e, directives_from) refl
