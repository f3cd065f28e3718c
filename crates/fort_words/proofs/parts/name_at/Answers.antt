use Rattle.std.proofs.Common.{◌+◌, drop, sym, ◌∙◌}
use Rattle.fort_words.proofs.Reading.{at_place, name_here}
use Rattle.fort_words.proofs.parts.name_at.Goals as goal

pub returns-then-is_name-clause-some : goal.returns-then-is_name-clause-some
returns-then-is_name-clause-some c =
    (sym c.is_name.ensures ∙ c.if-is_name.true, at_place c.args.words.now c.args.at c.in_ok-word.word.now c.in_ok-word.ensures.word)

pub returns-else-is_name-clause-none : goal.returns-else-is_name-clause-none
returns-else-is_name-clause-none c =
    let words = c.args.words.now in
    let at = c.args.at in
    let word = c.in_ok-word.word.now in
    λ none. name_here (drop at words) (drop (at + 1) words) word (at_place words at word c.in_ok-word.ensures.word) (sym c.if-is_name.false ∙ c.is_name.ensures)
