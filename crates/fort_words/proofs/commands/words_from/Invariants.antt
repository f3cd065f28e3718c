use Rattle.std.proofs.Common.{◌≡◌, ◌++◌, drop}
use Rattle.fort_words.proofs.commands.words_from.Given as goal

abbrev pub invariant-loop-at : goal.invariant-loop-at
invariant-loop-at l = l.list ++ drop l.at l.words ≡ drop l.first l.words
