-- Another verb.
use Rattle.std.proofs.Common.{drop, ◌∙◌, ap}
use Rattle.fort_words.specs.Commands.{served}
use Rattle.fort_words.proofs.Reading.{at_place, other_verb}
use Rattle.fort_words.proofs.commands.read_command.Goals as goal

pub returns-in_default-clause-none : goal.returns-in_default-clause-none
returns-in_default-clause-none c =
    let words = c.args.words.now in
    let verb = c.in_ok-get.field-0.now in
    λ none. ap served (at_place words 0 verb c.in_ok-get.ensures.word) ∙ other_verb verb (drop 1 words) c.in_default.not-exec c.in_default.not-run
