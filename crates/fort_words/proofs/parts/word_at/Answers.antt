use Rattle.fort_words.proofs.Reading.{at_place}
use Rattle.fort_words.proofs.parts.word_at.Goals as goal

pub returns : goal.returns
returns c = at_place c.args.words.now c.args.at c.in-Some.word.now c.in-Some.ensures.word
