use Rattle.std.proofs.Common.{◌∙◌}
use Rattle.src_lib.proofs.Tests.{both_is}
use Rattle.src_lib.proofs.reaches.touch_both.Goals as goal

pub returns : goal.returns
returns c = c.test_both.ensures ∙ both_is c.args.memory.now c.args.first c.args.second
