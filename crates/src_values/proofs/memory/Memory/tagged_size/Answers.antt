use Rattle.std.proofs.Common.{arith}
use Rattle.std.proofs.lemmas.Int.{ints}
use Rattle.src_values.proofs.Pointers.{valid_by}
use Rattle.src_values.proofs.memory.Memory.tagged_size.Goals as goal

pub rest_of-requires-clause-small : goal.rest_of-requires-clause-small
rest_of-requires-clause-small c = (valid_by c.args.self.now c.args.p c.in-At.place c.object_size.result c.requires.pointer
    c.requires.live c.in-At.is c.object_size.ensures).small

pub rest_of-requires-clause-starts : goal.rest_of-requires-clause-starts
rest_of-requires-clause-starts c =
    let valid = valid_by c.args.self.now c.args.p c.in-At.place c.object_size.result c.requires.pointer c.requires.live c.in-At.is
    c.object_size.ensures in
    let starts = valid.starts in
    let small = valid.small in
    (omega (arith, ints, starts, small), omega (arith, ints, starts, small))

pub rest_of-requires-clause-ends : goal.rest_of-requires-clause-ends
rest_of-requires-clause-ends c =
    let valid = valid_by c.args.self.now c.args.p c.in-At.place c.object_size.result c.requires.pointer c.requires.live c.in-At.is
    c.object_size.ensures in
    let ends = valid.ends in
    let small = valid.small in
    (omega (arith, ints, ends, small), omega (arith, ints, ends, small))
