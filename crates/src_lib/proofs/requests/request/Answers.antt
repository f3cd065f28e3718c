use Rattle.std.proofs.Common.{ap, ◌∙◌}
use Rattle.src_lib.specs.Requests.{check_as}
use Rattle.src_lib.proofs.Asking.{request_is}
use Rattle.src_lib.proofs.requests.request.Goals as goal

pub returns : goal.returns
returns c w =
    ap check_as c.check.ensures ∙ request_is c.args.f c.args.args.now c.args.memory.now w c.requires.built c.requires.typed
