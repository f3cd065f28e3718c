-- Each address in its turn.
use Rattle.std.proofs.Common.{◌+◌, ◌++◌, arith, ap, ◌∙◌}
use Rattle.std.specs.Int.{to_le_bytes, w64}
use Rattle.byte_machine.specs.Opening.{argument_words, string_room}
use Rattle.byte_machine.proofs.Arguments.{short_argument, rooms_more, argv_low, addresses_more, addresses_done, section_closed}
use Rattle.byte_machine.proofs.opening.argument_section.Goals as goal

pub room-requires : goal.room-requires
room-requires c = short_argument c.args.args.now c.loop-k.k c.argument.result.now c.requires c.argument.ensures

pub overflow_add-address : goal.overflow_add-address
overflow_add-address c =
    let low = argv_low c.args.args.now c.requires in
    let more = rooms_more string_room (argument_words c.args.args.now) c.loop-k.k c.argument.result.now c.argument.ensures in
    omega (arith, c.loop-k.invariant.address, c.room.ensures)

pub loop-k-preserved : goal.loop-k-preserved
loop-k-preserved c =
    let words = argument_words c.args.args.now in
    let more = rooms_more string_room words c.loop-k.k c.argument.result.now c.argument.ensures in
    record {
      section = addresses_more (to_le_bytes w64) words c.loop-k.k c.loop-k.address (c.loop-k.address + c.room.result)
          c.argument.result.now c.loop-k.section.items _ _
          c.argument.ensures (ap (λ n. c.loop-k.address + n) c.room.ensures)
          (c.in_ok-extend_from_slice.ensures.items ∙ ap (λ l. c.loop-k.section.items ++ l) c.to_le_bytes.ensures)
          c.loop-k.invariant.section;
      address = omega (arith, c.loop-k.invariant.address, c.room.ensures);
    }

pub returns : goal.returns
returns c =
    section_closed c.args.args.now c.in_ok-section.section.items c.loop-k.section.items _ _ c.in_ok-section.ensures
    (addresses_done (to_le_bytes w64) (argument_words c.args.args.now) c.loop-k.k c.loop-k.address _ _
    (omega (arith, c.count-k-end.ensures.total)) c.loop-k.invariant.section)
    c.to_le_bytes-2.ensures c.in_ok-extend_from_slice-2.ensures.items
