use Rattle.c_lexer.proofs.Longest.{longest_tells}
use Rattle.c_lexer.proofs.laws.longest_fronts.Goals as goal

pub returns : goal.returns
returns c = λ f text. longest_tells f text
