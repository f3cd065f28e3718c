use Rattle.std.proofs.Common.{◌≡◌, ◌≢◌, ◌+◌, ◌≤◌, [], drop, length, codes, ◌∙◌, rules, arith}
use Rattle.std.specs.Cmp.Lexicographic.{same_text}
use Rattle.std.proofs.lemmas.List.{drop_all}
use Rattle.fort_words.proofs.Reading.{at_place, other_here, steps_alone_here, steps_here}
use Rattle.fort_words.proofs.parts.bound_at.Goals as goal

pub returns-then-ne : goal.returns-then-ne
returns-then-ne c =
    let words = c.args.words.now in
    let at = c.args.at in
    let word = c.in_ok-get.field-0.now in
    let other : word ≢ codes "--steps" = search (rules, same_text) in
    other_here (drop at words) (drop (at + 1) words) word (at_place words at word c.in_ok-get.ensures.word) other

pub returns-in_err-get-2 : goal.returns-in_err-get-2
returns-in_err-get-2 c =
    let words = c.args.words.now in
    let at = c.args.at in
    let word = c.in_ok-get.field-0.now in
    let named : word ≡ codes "--steps" = search (rules, same_text) in
    let past : length words ≤ at + 1 = grind (arith, c.in_err-get-2.ensures.none) in
    let last : drop (at + 1) words ≡ [] = drop_all (at + 1) words past in
    c.from_residual-in_err-get-2.ensures
    ∙ steps_alone_here (drop at words) (drop (at + 1) words) word (at_place words at word c.in_ok-get.ensures.word) named last

pub returns : goal.returns
returns c =
    let words = c.args.words.now in
    let at = c.args.at in
    let word = c.in_ok-get.field-0.now in
    let value = c.in_ok-get-2.field-0.now in
    let named : word ≡ codes "--steps" = search (rules, same_text) in
    c.number_of.ensures
    ∙ steps_here (drop at words) (drop (at + 1) words) (drop (at + 1 + 1) words) word value (at_place words at word c.in_ok-get.ensures.word) named
    (at_place words (at + 1) value c.in_ok-get-2.ensures.word)
