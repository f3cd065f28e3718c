-- A row that exceeds where a scan found no end.
use Rattle.std.proofs.Common.{◌≡◌, ℕ, Bool, true, false, Option, None, Some}
use Rattle.library_meaning.specs.Rows.{Row, Check, Gives, Nowhere}
use Rattle.library_meaning.specs.Scan.{Found}
use Rattle.library_meaning.specs.Table.{ended}

pub ended_keeps : (P : Row → Type 0) (f : Found) (next : Row) → P (Check true (Gives Nowhere)) → P next → P (ended f next)
ended_keeps P f next exceeds h = go f.stop
  where
    go : (o : Option ℕ) → P (elim o [ None ↦ Check true (Gives Nowhere) | Some b ↦ next ])
    go None = exceeds
    go (Some b) = h
