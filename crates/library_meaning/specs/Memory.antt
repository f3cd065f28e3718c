-- The machine's memory: how many bytes it has, which of them may be touched, and bytes that are stored. This project's own.
use Rattle.std.specs.Prelude.{ℕ, ◌+◌, Bool, ◌&&◌, ◌||◌, List, length, take, drop, eqb, leb}
use Rattle.std.specs.List.{splice}

-- below the first valid address no byte may be touched, and memory has this many
abbrev pub first_valid : ℕ
first_valid = 65536

abbrev pub memory_size : ℕ
memory_size = 17825792

-- n bytes from an address on may be touched
abbrev pub are_valid : ℕ → ℕ → Bool
are_valid a n = eqb n 0 || (leb first_valid a && leb (a + n) memory_size)

-- the bytes of a memory from an address on
abbrev pub bytes_at : List ℕ → ℕ → ℕ → List ℕ
bytes_at m a n = take n (drop a m)

-- a list with others in place of its own from a place on
abbrev pub put : {X : Type 0} → ℕ → List X → List X → List X
put a ys xs = splice xs a (a + length ys) ys
