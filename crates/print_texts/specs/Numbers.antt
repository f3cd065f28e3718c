-- The sign and the digits of a number, as the code has them.
use Rattle.std.specs.Prelude.{Bool, List, ℕ, ◌+◌, [], ◌∷◌, if◌then◌else◌}
use Rattle.std.specs.Fmt.{digits_onto}
use Rattle.std.specs.Str.{byte}

abbrev pub sign_text : Bool → List ℕ
sign_text negative = if negative then byte "-" ∷ [] else []

-- the digits of a number with at most as many as there are places left, before those that are written already
unfoldable pub unwritten : ℕ → Bool → ℕ → ℕ → List ℕ → List ℕ
unwritten base upper at n written = digits_onto (42 + at) base upper n written
