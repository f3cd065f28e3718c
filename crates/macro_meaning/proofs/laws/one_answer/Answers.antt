use Rattle.macro_meaning.proofs.Answering.{one_answer}
use Rattle.macro_meaning.proofs.laws.one_answer.Goals as goal

pub returns : goal.returns
returns c = λ ms line a b x y. one_answer ms x y
