-- The line of a size, in parts.
use Rattle.std.proofs.Common.{◌≡◌, ℕ, List, [], ◌∷◌, ◌++◌, codes, decimal, append_assoc}
use Rattle.fc_base.specs.declared.levels.Mode.{Mode}
use Rattle.run_meaning.specs.Events.{mode_number, size_text, size_line}

abbrev pub line_part : ℕ → List ℕ
line_part line = codes "size " ++ decimal line

abbrev pub column_part : ℕ → List ℕ
column_part column = codes ":" ++ decimal column

abbrev pub mode_part : ℕ → List ℕ
mode_part mode = codes " mode " ++ decimal mode

abbrev pub value_part : ℕ → List ℕ
value_part value = codes " = " ++ decimal value

grouped : (a b c d e f g h t : List ℕ)
    → (a ++ b ++ c ++ d ++ e ++ f ++ g ++ h) ++ t ≡ (a ++ b) ++ ((c ++ d) ++ ((e ++ f) ++ ((g ++ h) ++ t)))
grouped a b c d e f g h t = simp append_assoc

pub in_parts : (line column value : ℕ) (mode : Mode) → size_line (record { line = line; col = column }) mode value
    ≡ line_part line ++ (column_part column ++ (mode_part (mode_number mode) ++ (value_part value ++ 10 ∷ [])))
unfolding size_text
in_parts line column value mode =
    grouped (codes "size ") (decimal line) (codes ":") (decimal column) (codes " mode ") (decimal (mode_number mode)) (codes " = ") (decimal value) (10 ∷ [])
