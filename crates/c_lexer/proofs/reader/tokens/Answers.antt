use Rattle.std.proofs.Common.{◌∙◌}
use Rattle.c_lexer.specs.Lexed.{lexed}
use Rattle.c_lexer.proofs.Joining.{placed_is}
use Rattle.c_lexer.proofs.Cutting.{cut_is}
use Rattle.c_lexer.proofs.LawLemmas.{kinds_given}
use Rattle.c_lexer.proofs.Cuts.{given_as}
use Rattle.c_lexer.proofs.reader.tokens.Goals as goal

pub returns-clause-gives : goal.returns-clause-gives
unfolding lexed
returns-clause-gives c =
    let bytes = c.deref.ensures.value ∙ (c.in_ok-joined.ensures {u = tt}).bytes in
    let places = c.deref-2.ensures.value ∙ (c.in_ok-joined.ensures {u = tt}).places in
    rw (placed_is, cut_is) (rw (bytes, places) at c.scan.ensures)

pub returns-clause-kinds : goal.returns-clause-kinds
returns-clause-kinds c = kinds_given (λ v. v.items) c.scan.result c.args.bytes.now (returns-clause-gives c)

pub returns-clause-is : goal.returns-clause-is
returns-clause-is c = given_as (λ v. v.items) c.scan.result c.args.bytes.now (returns-clause-gives c)
