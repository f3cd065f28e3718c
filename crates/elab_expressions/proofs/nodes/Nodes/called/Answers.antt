use Rattle.elab_expressions.proofs.Callees.{by_name, by_other}
use Rattle.elab_expressions.proofs.nodes.Nodes.called.Goals as goal

pub returns-in-Some-clause-types : goal.returns-in-Some-clause-types
returns-in-Some-clause-types g c = by_name c.args.callee.now _ c.called_named.result c.args.state.now c.in-Some.ensures (rw c.bytes.ensures at c.called_named.ensures)

pub returns-in-None-clause-types : goal.returns-in-None-clause-types
returns-in-None-clause-types g c = by_other c.args.callee.now c.called_other.result c.args.state.now _ c.in-None.ensures c.called_other.ensures.types
