-- What a token is among brackets.
use Rattle.std.specs.Prelude.{Option, Some, None}
use Rattle.parse_meaning.specs.declared.terminals.Brackets.{Brackets}
use Rattle.parse_meaning.specs.declared.terminals.Terminal.{Terminal}
use Rattle.parse_meaning.specs.declared.terminals.Terminal.TheVariants as k
use Rattle.parse_meaning.specs.Expressions.{opening, closing}
use Rattle.parse_leaves.specs.declared.attributes.Side.{Side}
use Rattle.parse_leaves.specs.declared.attributes.Side.TheVariants.{Opens, Closes, Neither}

abbrev pub side_by : Option Brackets → Option Brackets → Side
side_by (Some b) close = Opens b
side_by None (Some b) = Closes b
side_by None None = Neither

abbrev pub side_of : Terminal → Side
side_of (k.Punct a) = side_by (opening a) (closing a)
side_of _ = Neither
