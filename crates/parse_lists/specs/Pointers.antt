-- What stands before the name of a parameter.
use Rattle.std.specs.Prelude.{List, [], ◌∷◌, Bool, false, is_some}
use Rattle.parse_meaning.specs.Terminals.{Lexeme, at}
use Rattle.parse_meaning.specs.Expressions.{pointer_word}

-- whether a star or a qualifier comes next
abbrev pub begins_pointer_word : List Lexeme → Bool
begins_pointer_word [] = false
begins_pointer_word (at c o ∷ t) = is_some (pointer_word c)
