-- The rooms of the strings, one after the other.
use Rattle.std.proofs.Common.{arith}
use Rattle.byte_machine.specs.Opening.{argument_words, string_room}
use Rattle.byte_machine.proofs.Arguments.{short_argument, rooms_more, argv_low}
use Rattle.byte_machine.proofs.opening.argv_address.Goals as goal

pub room-requires : goal.room-requires
room-requires c = short_argument c.args.args.now c.loop-k.k c.argument.result.now c.requires c.argument.ensures

pub overflow_add-address : goal.overflow_add-address
overflow_add-address c =
    let low = argv_low c.args.args.now c.requires in
    let more = rooms_more string_room (argument_words c.args.args.now) c.loop-k.k c.argument.result.now c.argument.ensures in
    omega (arith, c.loop-k.invariant, c.room.ensures)

pub loop-k-preserved : goal.loop-k-preserved
loop-k-preserved c =
    let more = rooms_more string_room (argument_words c.args.args.now) c.loop-k.k c.argument.result.now c.argument.ensures in
    omega (arith, c.loop-k.invariant, c.room.ensures)
