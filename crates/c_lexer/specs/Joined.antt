-- The text with its lines joined, byte after byte: what the code computes.
use Rattle.std.specs.Prelude.{ℕ, ◌+◌, ◌==◌, ◌&&◌, Bool, true, false, if◌then◌else◌, List, [], ◌∷◌}
use Rattle.std.specs.Str.{byte}
use Rattle.c_tokens.specs.Bytes.{is_newline}
use Rattle.c_lexer.specs.Places.{Cell, cell_at}

abbrev pub begins_line : List ℕ → Bool
begins_line [] = false
begins_line (b ∷ bs) = is_newline b

-- the cells of the bytes from this place on; `is_joined`: a newline comes next that is left out
unfoldable pub joined : Bool → ℕ → ℕ → List ℕ → List Cell
joined is_joined line col [] = []
joined true line col (b ∷ bs) = joined false (line + 1) 1 bs
joined false line col (b ∷ bs) =
    if b == byte "\\" && begins_line bs then joined true line col bs
    else cell_at b line col ∷ (if is_newline b then joined false (line + 1) 1 bs else joined false line (col + 1) bs)
