-- A string, and zero bytes up to its room.
use Rattle.std.proofs.Common.{◌∙◌}
use Rattle.byte_machine.proofs.Arguments.{block_pushed}
use Rattle.byte_machine.proofs.opening.push_string.Goals as goal

pub returns : goal.returns
returns c = block_pushed c.len.result _ c.room.result c.args.section.now.items c.args.word.now c.extend_from_slice.new.self.items _
    (c.len.ensures ∙ c.args.section.now.ok.0) (c.extend_from_slice.new.self.ok.0) c.room.ensures c.in_ok-extend_from_slice.ensures.items
    c.in_ok-resize.ensures.items
