-- How a token changes the number of open brackets, as the code says it.
use Rattle.parse_meaning.specs.File.{Bracket, opens, closes, neither}
use Rattle.parse_limits.specs.declared.limits.Change.{Change}
use Rattle.parse_limits.specs.declared.limits.Change.TheVariants as change

abbrev pub bracket_of : Change → Bracket
bracket_of change.Opens = opens
bracket_of change.Closes = closes
bracket_of change.Neither = neither
