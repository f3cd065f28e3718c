use Rattle.std.proofs.Common.{rules}
use Rattle.elab_types.proofs.Nodes.{name_first, name_last}
use Rattle.elab_types.proofs.typer.Typer.type_name.Goals as goal

pub returns-in_err-specs-clause-types : goal.returns-in_err-specs-clause-types
returns-in_err-specs-clause-types g c =
    let fact = name_first c.args.name.now c.as_slice.result.now c.as_slice.ensures c.args.state.now c.in_err-specs.field-0.0 c.specifiers.new.state
    c.in_err-specs.ensures.types in
    search (rules, fact)

pub returns-clause-types : goal.returns-clause-types
returns-clause-types g c =
    let parts = rw c.in_ok-specs-2.ensures.ok.1 at c.parts-parts.ensures.types in
    let given = rw (c.in_ok-specs-2.ensures.ok.0, c.tags.ensures, c.place_of-at.ensures) at c.named_type.ensures in
    name_last c.args.name.now c.as_slice.result.now c.as_slice.ensures c.args.state.now c.specifiers.new.state c.parts-parts.new.state
    c.in_ok-specs.specs c.in_ok-specs-2.parts c.in_ok-specs.ensures.types parts c.named_type.result given
