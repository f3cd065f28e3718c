use Rattle.c_lexer.proofs.RunLemmas.{line_is}
use Rattle.c_lexer.proofs.bytes.line_length.Goals as goal

pub returns-clause-value : goal.returns-clause-value
returns-clause-value c = rw c.unwrap_or.ensures (line_is c.args.bytes.now c.memchr.result c.memchr.ensures)
