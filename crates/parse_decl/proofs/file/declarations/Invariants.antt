use Rattle.std.proofs.Common.{◌≡◌, ◌-◌, [], length}
use Rattle.parse_reading.specs.ReadingFile.{file, highest_part}
use Rattle.parse_decl.proofs.FileSteps.{behind_all}
use Rattle.parse_decl.proofs.file.declarations.Given as goal

abbrev pub invariant-loop-turn : goal.invariant-loop-turn
invariant-loop-turn l =
    file highest_part (length l.tokens) [] l.tokens ≡ behind_all l.found (file highest_part (l._turn-end - l._turn) l.types l.rest)
