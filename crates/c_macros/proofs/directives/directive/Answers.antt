use Rattle.std.proofs.Common.{reverse, Ok, sym, refl}
use Rattle.c_macros.specs.States.{state_view}
use Rattle.macro_lines.proofs.Fronts.{some_item, no_item}
use Rattle.c_macros.proofs.DirectiveAnswers.{same_move, gives_nothing, alone, at_word, other_line, where_taken, where_skipped}
use Rattle.c_macros.proofs.directives.directive.Goals as goal

pub returns-then-is_empty : goal.returns-then-is_empty
returns-then-is_empty c =
    same_move (state_view c.args.st.now) c.args.count (Ok c.args.count) _ _
    (state_view c.args.st.now) c.args.done.now.items c.args.done.now.items
    (alone (state_view c.args.st.now) c.args.hash.now c.args.line.now (no_item c.args.line.now (sym c.if-is_empty.ensures)))
    (gives_nothing (state_view c.args.st.now) c.args.count (state_view c.args.st.now) _ c.args.done.now.items refl)

pub returns-in-Elif : goal.returns-in-Elif
returns-in-Elif c =
    same_move _ _ c.other_if.result _ _ _ _ _
    (at_word (state_view c.args.st.now) c.args.hash.now c.args.line.now c.index-line-0.result
    (some_item c.args.line.now (sym c.if-is_empty.ensures)) _ c.in-Elif.ensures)
    (other_line c.other_if.result (state_view c.args.st.now) c.args.count c.args.hash.now.place _ _ (reverse c.args.st.now.groups.items)
    (state_view c.other_if.new.st) c.args.done.now.items c.other_if.new.done.items
    c.after-rest.ensures c.other_if.ensures)

pub returns-in-Else : goal.returns-in-Else
returns-in-Else c =
    same_move _ _ c.give.result _ _ _ _ _
    (at_word (state_view c.args.st.now) c.args.hash.now c.args.line.now c.index-line-0.result
    (some_item c.args.line.now (sym c.if-is_empty.ensures)) _ c.in-Else.ensures)
    (c.give.ensures (state_view c.args.st.now) (state_view c.otherwise.new.st) _ c.otherwise.ensures)

pub returns-in-Endif : goal.returns-in-Endif
returns-in-Endif c =
    same_move _ _ c.give-in-Endif.result _ _ _ _ _
    (at_word (state_view c.args.st.now) c.args.hash.now c.args.line.now c.index-line-0.result
    (some_item c.args.line.now (sym c.if-is_empty.ensures)) _ c.in-Endif.ensures)
    (c.give-in-Endif.ensures (state_view c.args.st.now) (state_view c.end.new.st) _ c.end.ensures)

pub returns-then-takes : goal.returns-then-takes
returns-then-takes c =
    same_move _ _ c.taken_directive.result _ _ _ _ _
    (where_taken (state_view c.args.st.now) c.args.hash.now c.args.line.now c.index-line-0.result
    (some_item c.args.line.now (sym c.if-is_empty.ensures)) c.directive_word.result c.directive_word.ensures
    c.in_default.not-Elif c.in_default.not-Else c.in_default.not-Endif (sym (rw c.deref.ensures.value at c.if-takes.ensures)))
    (rw c.after-rest.ensures at c.taken_directive.ensures)

pub returns-else-takes : goal.returns-else-takes
returns-else-takes c =
    same_move _ _ c.skipped_directive.result _ _ _ _ _
    (where_skipped (state_view c.args.st.now) c.args.hash.now c.args.line.now c.index-line-0.result
    (some_item c.args.line.now (sym c.if-is_empty.ensures)) c.directive_word.result c.directive_word.ensures
    c.in_default.not-Elif c.in_default.not-Else c.in_default.not-Endif (sym (rw c.deref.ensures.value at c.if-takes.ensures)))
    c.skipped_directive.ensures
