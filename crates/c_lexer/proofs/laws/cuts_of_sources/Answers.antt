use Rattle.c_lexer.proofs.Cuts.{lexed_is, lexed_only}
use Rattle.c_lexer.proofs.laws.cuts_of_sources.Goals as goal

pub returns-clause-each : goal.returns-clause-each
returns-clause-each c = lexed_is

pub returns-clause-only : goal.returns-clause-only
returns-clause-only c = lexed_only
