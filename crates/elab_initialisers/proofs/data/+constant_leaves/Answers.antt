use Rattle.std.proofs.Common.{sym, ap, ◌∙◌}
use Rattle.std.specs.Prelude.{flat_map}
use Rattle.std.proofs.lemmas.List.{at_drop_all}
use Rattle.std.proofs.lemmas.Result.{err_from_is_err_and}
use Rattle.elab_meaning.specs.Initialisers.{is_constant_leaf, leaves}
use Rattle.elab_meaning.specs.Statements.{constant_leaves}
use Rattle.elab_scope.specs.States.{state_of}
use Rattle.elab_initialisers.proofs.Gathered.{leaves-List}
use Rattle.elab_initialisers.proofs.InTurn.{known, unknown, stops, goes}
use Rattle.elab_initialisers.proofs.data.+constant_leaves.Goals as goal

pub returns-then-is_constant_leaf : goal.returns-then-is_constant_leaf
returns-then-is_constant_leaf t c =
    let value = c.in-Expr.value in
    let holds = rw (c.tags.ensures, c.objects.ensures) at (c.is_constant_leaf.ensures c.in-Expr.at) in
    known (state_of c.args.state.now) c.args.init.now c.in-Expr.at value c.in-Expr.is (sym holds ∙ c.if-is_constant_leaf.true)

pub returns-else-is_constant_leaf : goal.returns-else-is_constant_leaf
returns-else-is_constant_leaf t c =
    let value = c.in-Expr.value in
    let holds = rw (c.tags.ensures, c.objects.ensures) at (c.is_constant_leaf.ensures c.in-Expr.at) in
    rw c.refused.ensures (unknown (state_of c.args.state.now) c.args.init.now c.in-Expr.at value c.in-Expr.is (sym holds ∙ c.if-is_constant_leaf.false))

pub returns-in_err-constant_leaves-in-List : goal.returns-in_err-constant_leaves-in-List
returns-in_err-constant_leaves-in-List t c =
    let left = err_from_is_err_and c.from_residual.result c.from_residual.ensures.1 in
    let items = c.as_slice-item-items in
    let all = ap (flat_map leaves) items.ensures ∙ sym (leaves-List c.in-List.items c.in-List.place) ∙ ap leaves (sym c.in-List.is) in
    let whole = ap (λ ls. constant_leaves ls (state_of c.args.state.now)) (sym all) ∙ sym c.loop-item.invariant in
    rw (left.1, left.2)
    (stops _ c.args.state.now (constant_leaves (leaves c.args.init.now)) items.result.now c.loop-item.item-index c.item-item.result c.loop-item-test.true c.item-item.is
    whole (c.in_err-constant_leaves-in-List).ensures)

pub loop-item-preserved : goal.loop-item-preserved
loop-item-preserved t c =
    sym (goes c.args.state.now c.as_slice-item-items.result.now c.loop-item.item-index c.item-item.result c.loop-item-test.true c.item-item.is
    (c.in_ok-constant_leaves-in-List).ensures)
    ∙ c.loop-item.invariant

pub returns-after-loop-item : goal.returns-after-loop-item
returns-after-loop-item t c =
    let items = c.as_slice-item-items in
    let all = ap (flat_map leaves) items.ensures ∙ sym (leaves-List c.in-List.items c.in-List.place) ∙ ap leaves (sym c.in-List.is) in
    ap (λ ls. constant_leaves ls (state_of c.args.state.now)) (sym all) ∙ sym c.loop-item.invariant
    ∙ at_drop_all (λ rest. constant_leaves (flat_map leaves rest) (state_of c.args.state.now)) items.result.now c.loop-item.item-index c.loop-item-test.false
