use Rattle.std.proofs.Common.{◌≡◌, ◌+◌, suc, arith}
use Rattle.parse_externals.proofs.externals.undeclared.Goals as goal

pub returns : goal.returns
returns c = λ t.
    let within = c.within.ensures t in
    let higher : c.args.specs.height + 1 ≡ suc c.args.specs.height = omega arith in
    rw (c.finish.ensures, c.new.ensures, c.new-2.ensures, higher) at within
