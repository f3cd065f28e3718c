use Rattle.std.proofs.Common.{rules}
use Rattle.elab_types.specs.Specifiers.{finished, nothing}
use Rattle.elab_types.proofs.Nodes.{param_first, param_second, param_third, param_last}
use Rattle.elab_types.proofs.typer.Typer.+declared.Goals as goal

pub param-returns-in_err-specs-clause-types : goal.param-returns-in_err-specs-clause-types
param-returns-in_err-specs-clause-types g t c =
    let fact = param_first c.args.param.now c.args.start c.args.number c.as_slice.result.now c.as_slice.ensures c.args.state.now c.args.state.now (finished nothing)
    c.in_err-specs.field-0.0 c.specifiers.new.state c.in_err-specs.ensures.types in
    search (rules, fact)

pub param-returns-in_err-specs-2-clause-types : goal.param-returns-in_err-specs-2-clause-types
param-returns-in_err-specs-2-clause-types g t c =
    let given = rw c.in_err-specs-2.ensures.err at c.parts-parts.ensures.types in
    let fact = param_second c.args.param.now c.args.start c.args.number c.as_slice.result.now c.as_slice.ensures c.args.state.now c.specifiers.new.state
    c.in_ok-specs.specs c.in_ok-specs.ensures.types c.in_err-specs-2.field-0.0 c.parts-parts.new.state given in
    search (rules, fact)

pub param-returns-in_err-ctype-clause-types : goal.param-returns-in_err-ctype-clause-types
param-returns-in_err-ctype-clause-types g t c =
    let parts = rw c.in_ok-specs-2.ensures.ok.1 at c.parts-parts.ensures.types in
    let given = rw (c.in_ok-specs-2.ensures.ok.0, c.tags-tags.ensures, c.is_repeated-repeated.ensures, c.name_of-name.ensures, c.place_of-place.ensures, c.in_err-ctype.was) at c.param_type.ensures in
    let fact = param_third c.args.param.now c.args.start c.args.number c.as_slice.result.now c.as_slice.ensures c.args.state.now c.specifiers.new.state
    c.in_ok-specs.specs c.parts-parts.new.state c.in_ok-specs-2.parts c.in_ok-specs.ensures.types parts c.in_err-ctype.field-0.0 c.parts-parts.new.state given in
    search (rules, fact)

pub param-returns-clause-types : goal.param-returns-clause-types
param-returns-clause-types g t c =
    let parts = rw c.in_ok-specs-2.ensures.ok.1 at c.parts-parts.ensures.types in
    let given = rw (c.in_ok-specs-2.ensures.ok.0, c.tags-tags.ensures, c.is_repeated-repeated.ensures, c.name_of-name.ensures, c.place_of-place.ensures) at c.in_ok-ctype.ensures in
    let named = rw (c.name_of-name.ensures, c.place_of-place.ensures) at c.in_ok-param.ensures.param in
    let added = rw c.name_of-name.ensures at c.in_ok-param.ensures.added in
    let fact = param_last c.args.param.now c.args.start c.in-Ok.number c.as_slice.result.now c.as_slice.ensures c.args.state.now c.specifiers.new.state
    c.in_ok-specs.specs c.parts-parts.new.state c.in_ok-specs-2.parts c.in_ok-specs.ensures.types parts c.in_ok-ctype.ctype c.param.new.scope
    c.in_ok-param.field-0 given named added in
    search (rules, fact)
