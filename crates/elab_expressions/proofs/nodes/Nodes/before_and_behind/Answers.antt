use Rattle.std.proofs.Common.{take, drop}
use Rattle.elab_expressions.proofs.Following.{then_types}
use Rattle.elab_expressions.proofs.Lists.{front_low, front_fault, behind_low, front_parts, behind_parts}
use Rattle.elab_expressions.specs.Calls.{format_onto}
use Rattle.elab_expressions.specs.Words.{parts_of, values_onto}
use Rattle.elab_expressions.proofs.nodes.Nodes.before_and_behind.Goals as goal

pub values-requires-clause-low : goal.values-requires-clause-low
values-requires-clause-low g c = front_low c.args.count _ c.args.exprs.now _ c.front.ensures c.requires.low

pub format_and_further-requires-clause-low : goal.format_and_further-requires-clause-low
format_and_further-requires-clause-low g c = behind_low c.args.count _ c.args.exprs.now _ c.behind.ensures c.requires.low

pub returns-in-Ok-clause-types : goal.returns-in-Ok-clause-types
returns-in-Ok-clause-types g c =
    let parts = parts_of c.args.exprs.now in
    let before = rw (front_parts c.args.count c.args.exprs.now _ c.front.ensures) at c.in-Ok.ensures.types in
    let further = rw (behind_parts c.args.count c.args.exprs.now _ c.behind.ensures) at c.format_and_further.ensures.types in
    then_types (values_onto c.args.values (take c.args.count parts)) (λ values. format_onto values (drop c.args.count parts)) c.args.state.now _ _ _ _ before further

pub returns-in-Err-clause-types : goal.returns-in-Err-clause-types
returns-in-Err-clause-types g c =
    front_fault c.args.count c.args.exprs.now _ c.args.values c.args.state.now _ c.in-Err.fault c.front.ensures c.in-Err.ensures.types
