use Rattle.std.proofs.Common.{[], ◌∷◌, ◌++◌, drop, ◌+◌, ap, append_assoc, append-nil, sym, ◌∙◌, arith}
use Rattle.std.proofs.lemmas.List.{drop_all}
use Rattle.fort_words.proofs.commands.words_from.Goals as goal

pub loop-at-preserved : goal.loop-at-preserved
loop-at-preserved c =
    let rest = drop (c.loop-at.at + 1) c.args.words.now in
    ap (λ l. l ++ rest) c.in_ok-push.ensures.ok
    ∙ (append_assoc c.loop-at.list (c.word_at.result.now ∷ []) rest ∙ (ap (λ l. c.loop-at.list ++ l) (sym c.word_at.ensures) ∙ c.loop-at.invariant))

pub returns : goal.returns
returns c =
    let none = drop_all c.loop-at.at c.args.words.now (omega (arith, c.loop-at-test.false, c.len-at-end.ensures)) in
    sym (append-nil c.loop-at.list) ∙ (ap (λ l. c.loop-at.list ++ l) (sym none) ∙ c.loop-at.invariant)
