use Rattle.c_tokens.proofs.TokenFacts.{token_facts}
use Rattle.c_tokens.proofs.Spelled.{kind_spelled}
use Rattle.c_tokens.proofs.laws.kinds_of_tokens.Goals as goal

pub returns-clause-only : goal.returns-clause-only
returns-clause-only c = λ after_include text kind is. (token_facts after_include text kind is).lexed

pub returns-clause-each : goal.returns-clause-each
returns-clause-each c = kind_spelled
