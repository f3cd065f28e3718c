use Rattle.std.proofs.Common.{◌≡◌, ℕ, nat_le, List, Some, None, refl, arith}
use Rattle.std.specs.Prelude.{if◌then◌else◌}
use Rattle.parse_meaning.specs.Terminals.{Lexeme}
use Rattle.parse_reading.specs.Reading.{bounded, found}
use Rattle.parse_externals.specs.Externals.{external_of}
use Rattle.parse_initialisers.proofs.ReaderAnswers.{kept_gives_as}
use Rattle.parse_externals.proofs.externals.within.Goals as goal

bounded_by : {A : Type 0} (limit other height : ℕ) (x : A) (t : List Lexeme) → other ≡ limit →
    bounded limit (found x height t) ≡ (if nat_le height other then Some (found x height t) else None)
bounded_by limit other height x t same = rw same refl

pub returns : goal.returns
returns c = λ t. kept_gives_as external_of _ _ _ t _ c.kept.ensures.ok c.kept.ensures.err (bounded_by _ _ _ _ _ (omega arith))
