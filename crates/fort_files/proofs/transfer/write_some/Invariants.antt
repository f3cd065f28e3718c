use Rattle.std.proofs.Common.{[]}
use Rattle.fc_base.specs.Outside.{Appends}
use Rattle.fort_files.proofs.transfer.write_some.Given as goal

-- no byte has been written
abbrev pub invariant-loop : goal.invariant-loop
invariant-loop g l = Appends [] (g.W.Write.contents l.fn.writer) (g.W.Write.contents l.writer)
