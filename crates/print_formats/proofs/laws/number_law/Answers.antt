use Rattle.print_formats.proofs.Numbers.{read_back}
use Rattle.print_formats.proofs.laws.number_law.Goals as goal

pub returns : goal.returns
returns c = read_back
