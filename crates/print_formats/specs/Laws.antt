-- What the laws of formats speak of.
use Rattle.std.specs.Prelude.{false}
use Rattle.print_formats.specs.declared.conversions.Options.{Options}

-- neither flags nor a field width
abbrev pub plain : Options
plain = record { left = false; zero = false; width = 0 }
