use Rattle.c_tokens.proofs.PunctLaw.{punct_text, punct_back}
use Rattle.c_tokens.proofs.laws.spellings_of_punctuators.Goals as goal

pub returns-clause-only : goal.returns-clause-only
returns-clause-only c = punct_text

pub returns-clause-each : goal.returns-clause-each
returns-clause-each c = punct_back
