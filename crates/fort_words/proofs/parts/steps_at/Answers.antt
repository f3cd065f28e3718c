use Rattle.std.proofs.Common.{drop, sym, ◌∙◌}
use Rattle.std.proofs.lemmas.List.{drop-drop}
use Rattle.fort_words.proofs.Reading.{steps_left, nothing_left_out}
use Rattle.fort_words.proofs.parts.steps_at.Goals as goal

pub returns-in-Some-clause-rest : goal.returns-in-Some-clause-rest
returns-in-Some-clause-rest c =
    let rest = drop c.args.at c.args.words.now in
    sym (drop-drop 2 c.args.at c.args.words.now) ∙ steps_left rest c.in-Some.bound c.in-Some.ensures

pub returns-in-None-clause-rest : goal.returns-in-None-clause-rest
returns-in-None-clause-rest c = nothing_left_out (drop c.args.at c.args.words.now) c.in-None.ensures
