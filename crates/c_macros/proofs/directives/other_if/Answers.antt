use Rattle.std.proofs.Common.{Err, reverse, refl, sym, ap, ◌∙◌, arith}
use Rattle.std.proofs.lemmas.Result.{err_from_is_err_and}
use Rattle.macro_meaning.specs.Moves.{State, on_elif}
use Rattle.c_macros.specs.States.{state_view}
use Rattle.c_macros.proofs.DirectiveAnswers.{refuses_at, same_move, chain, no_condition, no_groups, after_else, no_more, asks}
use Rattle.c_macros.proofs.directives.other_if.Goals as goal

pub returns-in_default : goal.returns-in_default
returns-in_default c =
    let e = rw c.in_default.is at c.pop.ensures.cases in
    let n = no_groups c.args.st.now.groups.items (omega arith) in
    rw c.refused.ensures (refuses_at (state_view c.args.st.now) c.args.count _ _ _
    (state_view c.args.st.now) c.args.done.now.items c.args.done.now.items
    (ap (on_elif (state_view c.args.st.now) c.args.place c.args.line.now) n))

pub returns-then-group : goal.returns-then-group
returns-then-group c =
    rw c.refused-then-group.ensures
    (refuses_at (state_view c.args.st.now) c.args.count _ _ _ (state_view c.args.st.now) c.args.done.now.items c.args.done.now.items
    (after_else (state_view c.args.st.now) c.args.place c.args.line.now c.args.st.now.groups.items c.pop.new.self.items c.in-Some.group
    c.in-Some.ensures.items c.if-group.true))

pub returns-then-not-waits : goal.returns-then-not-waits
returns-then-not-waits c =
    same_move _ _ c.give.result _ _ _ _ _
    (no_more (state_view c.args.st.now) c.args.place c.args.line.now c.args.st.now.groups.items c.pop.new.self.items c.in-Some.group
    c.in-Some.ensures.items c.if-group.false
    (sym c.waits.ensures ∙ c.if-not-waits.true))
    (c.give.ensures (state_view c.args.st.now) (state_view c.reopen-given.new.st) _ c.reopen-given.ensures)

pub returns-in_err-holds : goal.returns-in_err-holds
returns-in_err-holds c =
    let p = err_from_is_err_and c.from_residual.result c.from_residual.ensures.1 in
    let st : State = record (state_view c.args.st.now) { groups = reverse c.pop.new.self.items } in
    rw (p.1, p.2)
    (same_move (state_view c.args.st.now) c.args.count (Err c.in_err-holds.field-0.0) _ _ st c.args.done.now.items c.args.done.now.items
    (asks (state_view c.args.st.now) c.args.place c.args.line.now c.args.st.now.groups.items c.pop.new.self.items c.in-Some.group
    c.in-Some.ensures.items c.if-group.false
    (sym c.waits.ensures ∙ c.if-not-waits.false))
    (no_condition (state_view c.args.st.now) c.args.count c.args.place c.args.line.now c.in-Some.group
    (reverse c.pop.new.self.items) c.in_err-holds.field-0.0
    c.in_err-holds.ensures st c.args.done.now.items c.args.done.now.items))

pub returns : goal.returns
returns c =
    let d = rw c.by_condition.ensures at c.reopen-given-2.ensures in
    same_move _ _ c.give-2.result _ _ _ _ _
    (asks (state_view c.args.st.now) c.args.place c.args.line.now c.args.st.now.groups.items c.pop.new.self.items c.in-Some.group
    c.in-Some.ensures.items c.if-group.false
    (sym c.waits.ensures ∙ c.if-not-waits.false))
    (chain (c.in_ok-holds.ensures (state_view c.args.st.now) c.in-Some.group (reverse c.pop.new.self.items) refl) c.give-2.result _ _ _
    (c.give-2.ensures (state_view c.args.st.now) (state_view c.reopen-given-2.new.st) _ d))
