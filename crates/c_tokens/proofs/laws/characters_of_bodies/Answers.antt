use Rattle.c_tokens.proofs.Characters.{characters_only, characters_each}
use Rattle.c_tokens.proofs.laws.characters_of_bodies.Goals as goal

pub returns-clause-only : goal.returns-clause-only
returns-clause-only c = characters_only

pub returns-clause-each : goal.returns-clause-each
returns-clause-each c = characters_each
