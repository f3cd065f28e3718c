use Rattle.c_lexer.proofs.LawLemmas.{spelling_read}
use Rattle.c_lexer.proofs.laws.readings_of_spellings.Goals as goal

pub returns : goal.returns
returns c = spelling_read
