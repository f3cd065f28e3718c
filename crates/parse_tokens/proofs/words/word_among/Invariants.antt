use Rattle.std.proofs.Common.{◌≡◌, drop}
use Rattle.parse_meaning.specs.Terminals.{keyword_in}
use Rattle.parse_tokens.specs.Words.{rows_of}
use Rattle.parse_tokens.proofs.words.word_among.Given as goal

abbrev pub invariant-loop-word : goal.invariant-loop-word
invariant-loop-word l = keyword_in (rows_of l.words) l.name ≡ keyword_in (rows_of (drop l.word-index l.words)) l.name
