-- The field width of a conversion, as the code hands its padding on.
use Rattle.std.specs.Prelude.{ℕ, ◌-◌, List, ◌++◌, replicate, if◌then◌else◌}
use Rattle.std.specs.Str.{byte}
use Rattle.print_formats.specs.declared.conversions.Options.{Options}
use Rattle.print_texts.specs.declared.padding.Padding.{Padding}

abbrev pub padding_of : Options → ℕ → Padding
padding_of o count =
    if o.left then record { before = 0; zeros = 0; behind = o.width - count }
    else (if o.zero then record { before = 0; zeros = o.width - count; behind = 0 }
    else record { before = o.width - count; zeros = 0; behind = 0 })

-- a sign and a body with this padding, part by part
abbrev pub in_parts : Padding → List ℕ → List ℕ → List ℕ
in_parts p sign body =
    replicate p.before (byte " ") ++ (sign ++ (replicate p.zeros (byte "0") ++ (body ++ replicate p.behind (byte " "))))
