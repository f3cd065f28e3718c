use Rattle.std.proofs.Common.{◌≡◌, ◌+◌, [], length, take, ◌-◌, sym, subst, arith}
use Rattle.std.proofs.lemmas.Grind.{common_steps}
use Rattle.std.proofs.lemmas.List.{length-take, take-append-le}
use Rattle.fc_base.specs.Outside.{Takes}
use Rattle.run_meaning.specs.Worlds.{AreBytes}
use Rattle.run_meaning.proofs.Moved.{takes-none}
use Rattle.fd_chk.proofs.Taken.{are_bytes-by, are_bytes-between, put_is}
use borrow.Rule.Slice.PartMut.{put_mid}
use Rattle.fd_chk.proofs.taking.take_some.Goals as goal

pub returns-in-Ok-clause-took : goal.returns-in-Ok-clause-took
returns-in-Ok-clause-took g c =
    let same : c.copy_from_slice.new.self ≡ take c.in-Ok.n c.read.new.buf = grind (arith, common_steps, take-append-le) in
    let long : length (take c.in-Ok.n c.read.new.buf) ≡ c.in-Ok.n = omega (arith, length-take c.in-Ok.n c.read.new.buf, c.in-Ok.ensures.bound) in
    record {
      bytes = take c.in-Ok.n c.read.new.buf;
      long = long;
      has = record {
        are_bytes = subst AreBytes same (are_bytes-between (take c.args.at c.args.mem.now) c.copy_from_slice.new.self _ (are_bytes-by (put_mid c.args.at (c.args.at + c.in-Ok.n - c.args.at) c.args.mem.now c.copy_from_slice.new.self) (λ i. c.type_inv.mem i)));
        taken = c.in-Ok.ensures.taken;
        untold = c.in-Ok.ensures.untold;
      };
      stored = put_is c.args.at c.in-Ok.n c.args.mem.now c.copy_from_slice.new.self _ same long;
    }

pub returns-in-Err-clause-failed : goal.returns-in-Err-clause-failed
returns-in-Err-clause-failed g c =
    let old = g.I.Source.left c.args.input.now in
    record {
      bytes = [];
      short = c.requires.some;
      has = record { are_bytes = tt; taken = subst (Takes [] old) (sym c.in-Err.ensures.none_taken) (takes-none old); untold = c.in-Err.ensures.untold };
      rose = c.in-Err.ensures.failed;
    }
