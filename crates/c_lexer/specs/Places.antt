-- The text with its lines joined (C11 5.1.1.2, phase 2), each byte with its place in the file.
use Rattle.std.specs.Prelude.{ℕ, ◌+◌, ◌-◌, ◌==◌, ◌&&◌, ◌||◌, Bool, not, List, length, map, reverse, take, slice_index}
use Rattle.std.specs.List.{count_by, filter, prefix_len, range_with_len}
use Rattle.std.specs.Str.{byte}
use Rattle.fc_base.specs.declared.refusals.Place.{Place}
use Rattle.c_tokens.specs.Bytes.{is_newline}

pub record Cell : Type 0 where
  pub byte : ℕ
  pub place : Place

abbrev pub place_at : ℕ → ℕ → Place
place_at line col = record { line = line; col = col }

abbrev pub cell_at : ℕ → ℕ → ℕ → Cell
cell_at byte line col = record { byte = byte; place = place_at line col }

-- a backslash stands at this index, and a newline behind it
abbrev pub is_splice : List ℕ → ℕ → Bool
is_splice bytes i = slice_index bytes i == byte "\\" && is_newline (slice_index bytes (i + 1))

-- the byte at this index is left out: such a backslash or its newline
abbrev pub is_left_out : List ℕ → ℕ → Bool
is_left_out bytes i = is_splice bytes i || is_splice bytes (i - 1)

-- from 1, the newlines before this index counted
abbrev pub line_of : List ℕ → ℕ → ℕ
line_of bytes i = 1 + count_by is_newline (take i bytes)

-- from 1, the bytes between the last newline and this index counted
abbrev pub column_of : List ℕ → ℕ → ℕ
column_of bytes i = 1 + prefix_len (λ b. not (is_newline b)) (reverse (take i bytes))

abbrev pub cell_of : List ℕ → ℕ → Cell
cell_of bytes i = cell_at (slice_index bytes i) (line_of bytes i) (column_of bytes i)

-- the bytes that are left, each with its place
unfoldable pub placed : List ℕ → List Cell
placed bytes = map (cell_of bytes) (filter (λ i. not (is_left_out bytes i)) (range_with_len 0 (length bytes)))

abbrev pub bytes_of : List Cell → List ℕ
bytes_of = map (λ c. c.byte)

abbrev pub places_of : List Cell → List Place
places_of = map (λ c. c.place)
