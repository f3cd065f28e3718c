-- Directives and the arguments that they take.
use Rattle.std.proofs.Common.{◌≡◌, ℕ, Bool, true, false, List, [], ◌∷◌, drop, Option, None, Some, refl}
use Rattle.print_formats.specs.declared.conversions.Conversion.{Conversion}
use Rattle.print_formats.specs.declared.conversions.Directive.{Directive}
use Rattle.print_formats.specs.declared.conversions.Directive.TheVariants.{Ordinary, Converted}
use Rattle.print_formats.specs.Formats.{and_directive}
use Rattle.c_tree.specs.declared.typed.TypedExpr.{TypedExpr}
use Rattle.elab_expressions.specs.Words.{fits_rest, takes}

-- a byte that is printed as it is takes no argument
pub ordinary_takes_none : (fit : Bool) (xs : List TypedExpr) (b : ℕ) (ds : Option (List Directive)) →
    fits_rest fit xs (and_directive (Ordinary b) ds) ≡ fits_rest fit xs ds
ordinary_takes_none fit xs b None = refl
ordinary_takes_none fit xs b (Some ds) = refl

-- a conversion takes one
pub converted_takes_one : (fit : Bool) (xs : List TypedExpr) (k : Conversion) (ds : Option (List Directive)) →
    fits_rest fit xs (and_directive (Converted k) ds) ≡ fits_rest (takes fit k.specifier xs) (drop 1 xs) ds
converted_takes_one fit xs k None = refl
converted_takes_one true [] k (Some ds) = refl
converted_takes_one false [] k (Some ds) = refl
converted_takes_one true (x ∷ xs) k (Some ds) = refl
converted_takes_one false (x ∷ xs) k (Some ds) = refl
