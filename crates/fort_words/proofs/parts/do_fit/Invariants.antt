use Rattle.std.proofs.Common.{◌≡◌, ◌+◌, drop}
use Rattle.run_meaning.specs.Worlds.{arguments_size, most_arguments}
use Rattle.fort_words.proofs.parts.do_fit.Given as goal

abbrev pub invariant-loop-at : goal.invariant-loop-at
invariant-loop-at l = arguments_size (drop l.first l.words) + l.room ≡ arguments_size (drop l.at l.words) + most_arguments
