use Rattle.c_tree.proofs.RowCounts.{form_row, counting_row}
use Rattle.c_tree.proofs.laws.counts_law.Goals as goal

pub returns-clause-form : goal.returns-clause-form
returns-clause-form c = form_row

pub returns-clause-counting : goal.returns-clause-counting
returns-clause-counting c = counting_row
