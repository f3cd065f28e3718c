use Rattle.std.proofs.Common.{arith, map}
use Rattle.std.proofs.lemmas.Grind.{common_steps}
use Rattle.elab_meaning.specs.Trees.{read_spec}
use Rattle.elab_scope.specs.States.{state_of}
use Rattle.elab_types.proofs.Gathering.{gathered_whole}
use Rattle.elab_types.proofs.typer.Typer.specifiers.Goals as goal

pub loop-spec-init : goal.loop-spec-init
loop-spec-init g c = record {
  types = rw c.nothing-gathered.ensures (gathered_whole (map read_spec c.args.specs.now) (state_of c.args.state.now));
  grows = record { names = grind (arith, common_steps) };
  low = c.requires.low;
}
