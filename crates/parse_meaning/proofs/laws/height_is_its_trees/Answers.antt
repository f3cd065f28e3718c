use Rattle.parse_meaning.proofs.TreeHeights.{expr_high}
use Rattle.parse_meaning.proofs.FileHeights.{external_high}
use Rattle.parse_meaning.proofs.laws.height_is_its_trees.Goals as goal

pub returns-clause-expr : goal.returns-clause-expr
returns-clause-expr c l h s t x d = expr_high d

pub returns-clause-external : goal.returns-clause-external
returns-clause-external c h s t x names d = external_high d
