use Rattle.std.proofs.Common.{◌≡◌, ◌≢◌, ◌+◌, drop, codes, sym, ◌∙◌, rules}
use Rattle.std.specs.Cmp.Lexicographic.{same_text}
use Rattle.fort_words.proofs.Reading.{at_place, args_here, args_over, no_args_here}
use Rattle.fort_words.proofs.parts.args_at.Goals as goal
use Rattle.fort_words.proofs.parts.args_at.Goals.{else-eq-via-then-eq+else-do_fit, else-eq-via-else-eq}

pub returns-then-do_fit-clause-args : goal.returns-then-do_fit-clause-args
returns-then-do_fit-clause-args c =
    let words = c.args.words.now in
    let at = c.args.at in
    let word = c.in-Some.word.now in
    let named : word ≡ codes "--" = search (rules, same_text) in
    λ made. args_here (drop at words) (drop (at + 1) words) word made (at_place words at word c.in-Some.ensures.word) named (sym c.if-do_fit.true ∙ c.do_fit.ensures)

pub returns-else-eq-clause-args : goal.returns-else-eq-clause-args
returns-else-eq-clause-args c =
    let words = c.args.words.now in
    let at = c.args.at in
    let word = c.in-Some.word.now in
    let stands = at_place words at word c.in-Some.ensures.word in
    elim c.else-eq.branch [
      | else-eq-via-then-eq+else-do_fit w ↦ λ made. args_over (drop at words) (drop (at + 1) words) word made stands (sym w.if-do_fit.false ∙ w.do_fit.ensures)
      | else-eq-via-else-eq w ↦ λ made. let other : word ≢ codes "--" = search (rules, same_text) in
          no_args_here (drop at words) (drop (at + 1) words) word made stands other
    ]
