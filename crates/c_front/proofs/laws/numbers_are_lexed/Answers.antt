use Rattle.c_front.proofs.Numbers.{number_lexed}
use Rattle.c_front.proofs.laws.numbers_are_lexed.Goals as goal

pub returns : goal.returns
returns c = number_lexed
