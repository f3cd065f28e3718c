use Rattle.std.proofs.Common.{[]}
use Rattle.fc_base.specs.Outside.{Takes}
use Rattle.fort_files.proofs.transfer.read_some.Given as goal

-- no byte has been taken
abbrev pub invariant-loop : goal.invariant-loop
invariant-loop g l = Takes [] (g.R.Read.remaining l.fn.reader) (g.R.Read.remaining l.reader)
