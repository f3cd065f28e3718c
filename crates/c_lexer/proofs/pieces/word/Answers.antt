use Rattle.std.proofs.Common.{sym}
use Rattle.c_lexer.proofs.FrontLemmas.{word_is}
use Rattle.c_lexer.proofs.pieces.word.Goals as goal

pub returns-then-begins_literal : goal.returns-then-begins_literal
returns-then-begins_literal c =
    rw (sym c.if-begins_literal.ensures) at (word_is c.args.bytes.now c.rest_from.result.now c.run_length-size.result c.requires.length
    c.rest_from.ensures c.run_length-size.ensures.value)

pub returns : goal.returns
returns c =
    rw (c.in_ok-name.ensures {u = tt})
    (rw (sym c.if-begins_literal.ensures) at (word_is c.args.bytes.now c.rest_from.result.now c.run_length-size.result c.requires.length
    c.rest_from.ensures c.run_length-size.ensures.value))
