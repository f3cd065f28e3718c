-- Each string in its turn.
use Rattle.byte_machine.specs.Opening.{argument_words, string_block}
use Rattle.byte_machine.proofs.Arguments.{short_argument, pieces_more}
use Rattle.byte_machine.proofs.opening.strings.Goals as goal

pub push_string-requires : goal.push_string-requires
push_string-requires c = short_argument c.args.args.now c.loop-k.k c.argument.result.now c.requires c.argument.ensures

pub loop-k-preserved : goal.loop-k-preserved
loop-k-preserved c = pieces_more string_block (argument_words c.args.args.now) c.loop-k.k c.argument.result.now _ _ _ c.argument.ensures
    c.in_ok-push_string.ensures c.loop-k.invariant
