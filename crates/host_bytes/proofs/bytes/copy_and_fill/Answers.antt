use Rattle.host_bytes.proofs.Shapes.{put_both}
use Rattle.host_bytes.proofs.bytes.copy_and_fill.Goals as goal

pub returns-then-zeros-gt0 : goal.returns-then-zeros-gt0
returns-then-zeros-gt0 c = put_both _ c.copy.new.memory _ c.args.to c.args.from c.args.count c.args.zeros c.requires.size c.requires.to c.requires.from c.if-zeros-gt0.true c.copy.ensures c.fill.ensures
