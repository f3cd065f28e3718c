use Rattle.fort_words.proofs.Reading.{is_its_words}
use Rattle.fort_words.proofs.commands.command_is_its_words.Goals as goal

pub returns : goal.returns
returns c = is_its_words
