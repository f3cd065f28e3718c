use Rattle.c_tokens.proofs.Comments.{closed_comment, open_comment}
use Rattle.c_tokens.proofs.laws.ends_of_comments.Goals as goal

pub returns-clause-closed : goal.returns-clause-closed
returns-clause-closed c = closed_comment

pub returns-clause-open : goal.returns-clause-open
returns-clause-open c = open_comment
