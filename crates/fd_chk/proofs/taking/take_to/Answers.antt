use Rattle.std.proofs.Common.{arith}
use Rattle.fd_chk.proofs.Taken.{took-append, took-none, failed_later}
use Rattle.fd_chk.proofs.taking.take_to.Goals as goal

pub loop-count-init : goal.loop-count-init
loop-count-init g c = record {
  within = omega arith;
  took = took-none c.args.at c.args.mem.now _;
  grew = omega arith;
}

pub loop-count-preserved : goal.loop-count-preserved
loop-count-preserved g c = record {
  within = omega (arith, c.in-Ok.ensures.bound);
  took = took-append c.args.at c.loop-count.count c.in-Ok.more _ _ _ _ _ _ (omega (arith, c.requires)) c.loop-count.invariant.took c.in-Ok.ensures.took;
  grew = omega (arith, c.loop-count.invariant.grew, c.take_some.ensures.grew);
}

pub returns-in-Err-clause-failed : goal.returns-in-Err-clause-failed
returns-in-Err-clause-failed g c =
    failed_later c.args.at c.loop-count.count c.args.most _ _ _ _ _ c.loop-count.invariant.within c.loop-count.invariant.took c.loop-count.invariant.grew c.in-Err.ensures.failed
