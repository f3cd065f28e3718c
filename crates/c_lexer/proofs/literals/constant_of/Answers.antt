use Rattle.std.proofs.Common.{sym}
use Rattle.c_lexer.proofs.LiteralLemmas.{empty_from_test, some_from_test, constant_none, constant_several, constant_one}
use Rattle.c_lexer.proofs.literals.constant_of.Goals as goal

pub returns-then-is_empty : goal.returns-then-is_empty
returns-then-is_empty c = constant_none c.args.body.now (empty_from_test c.args.body.now (sym c.if-is_empty.ensures))

pub returns-then-size-body : goal.returns-then-size-body
returns-then-size-body c =
    constant_several c.args.body.now c.character-size.result
    (some_from_test c.args.body.now (sym c.if-is_empty.ensures)) c.character-size.ensures.value c.if-size-body.true

pub returns-in-Some : goal.returns-in-Some
returns-in-Some c =
    constant_one c.args.body.now c.character-size.result _
    (some_from_test c.args.body.now (sym c.if-is_empty.ensures)) c.character-size.ensures.value c.if-size-body.false c.in-Some.is

pub returns-in-None : goal.returns-in-None
returns-in-None c =
    constant_one c.args.body.now c.character-size.result _
    (some_from_test c.args.body.now (sym c.if-is_empty.ensures)) c.character-size.ensures.value c.if-size-body.false c.in-None.is
