use Rattle.std.proofs.Common.{◌≡◌, ◌≤◌, List, ◌++◌, map, length, refl, ap, sym, ◌∙◌, arith}
use Rattle.std.proofs.lemmas.Result.{err_from_is_err_and}
use Rattle.std.proofs.lemmas.List.{map_push, drop_all, append-nil}
use Rattle.macro_items.specs.declared.Argument.{Argument}
use Rattle.macro_items.specs.declared.BodyPart.TheVariants.{Plain, Parameter}
use Rattle.macro_meaning.specs.Macros.{Item}
use Rattle.macro_meaning.specs.Replacement.{hidden}
use Rattle.macro_meaning.specs.Macros.{has}
use Rattle.macro_items.specs.Views.{view, views}
use Rattle.macro_items.proofs.Gathering.{left_pop, left_none}
use Rattle.macro_replacement.proofs.Completions.{completes_kept, completes_over, completes_refused, call_refused, count_refused, argument_refused, it_becomes, adds_plain, adds_parameter, finishes_whole, parameter_refused}
use Rattle.macro_replacement.proofs.Arguments.{is_absent, is_again, is_expanded, is_refused, text_at, text_absent, dropped, put_back, put_count}
use Rattle.macro_replacement.proofs.replacement.+replacement.Goals.{substitute-in-Plain+in_ok-push_replacing-in-Plain, substitute-in-Parameter+then-k-args+in_ok-count-in-Parameter+in_ok-push_hidden-in-Parameter, substitute-in-Parameter+else-k-args}
use Rattle.macro_replacement.proofs.replacement.+replacement.Goals as goal

pub make_ready-returns-in-Expanded-clause-outcome : goal.make_ready-returns-in-Expanded-clause-outcome
make_ready-returns-in-Expanded-clause-outcome t c =
    is_again _ _ _ c.args.args.now c.args.k _ c.replace.new.dest c.in-Expanded.tokens c.requires.index c.index-args-k.is
    (c.in-Expanded.ensures.value ∙ sym c.index-args-k.is)

pub make_ready-returns-in_ok-tokens-in-Written-clause-outcome : goal.make_ready-returns-in_ok-tokens-in-Written-clause-outcome
make_ready-returns-in_ok-tokens-in-Written-clause-outcome t c =
    is_expanded _ _ _ _ c.args.args.now c.args.k _ c.replace.new.dest c.in-Written.tokens c.reverse.new.self
    c.in_ok-tokens-in-Written.tokens c.requires.index c.index-args-k.is
    (c.in-Written.ensures.value ∙ sym c.index-args-k.is) c.reverse.ensures.items c.in_ok-tokens-in-Written.ensures.outcome

pub make_ready-returns-in_err-tokens-in-Written-clause-outcome : goal.make_ready-returns-in_err-tokens-in-Written-clause-outcome
make_ready-returns-in_err-tokens-in-Written-clause-outcome t c =
    let p = err_from_is_err_and c.from_residual.result c.from_residual.ensures.1 in
    rw (p.1, p.2) (is_refused c.in_err-tokens-in-Written.field-0.0 _ _ _ c.args.args.now c.args.k _ c.in-Written.tokens c.reverse.new.self
    c.requires.index c.index-args-k.is
    (c.in-Written.ensures.value ∙ sym c.index-args-k.is) c.reverse.ensures.items c.in_err-tokens-in-Written.ensures.outcome)

pub put-returns-clause-outcome : goal.put-returns-clause-outcome
put-returns-clause-outcome t c = let m = rw c.as_mut_slice.ensures.value at c.substitute.ensures.outcome in m

pub stays-returns-in-BadCall-clause-outcome : goal.stays-returns-in-BadCall-clause-outcome
stays-returns-in-BadCall-clause-outcome t c =
    let f = rw c.in-BadCall.is at c.in_ok-turn_of.ensures.found in
    rw c.refused.ensures (call_refused _ _ _ (view c.args.item.now) _ _ c.in-Some.ensures f)

pub stays-returns-in_err-now-in-Becomes-clause-outcome : goal.stays-returns-in_err-now-in-Becomes-clause-outcome
stays-returns-in_err-now-in-Becomes-clause-outcome t c =
    let p = err_from_is_err_and c.from_residual-in_err-now-in-Becomes.result c.from_residual-in_err-now-in-Becomes.ensures.1 in
    let f = rw c.in-Becomes.is at c.in_ok-turn_of.ensures.found in
    let m = c.in_err-now-in-Becomes.ensures.outcome in
    rw (p.1, p.2) (argument_refused _ _ _ (view c.args.item.now) _ _ c.in-Some.ensures _ f c.in_err-now-in-Becomes.field-0.0 m)

pub stays-returns-then-passes_limit-clause-outcome : goal.stays-returns-then-passes_limit-clause-outcome
stays-returns-then-passes_limit-clause-outcome t c =
    let f = rw c.in-Becomes.is at c.in_ok-turn_of.ensures.found in
    let m = c.in_ok-now-in-Becomes.ensures.outcome in
    let n = put_count c.turn_of.new.pending.items c.put.new.new.items m.0 c.len-start.result (omega arith) m.1 c.len.result (omega arith) in
    rw c.refused-then-passes_limit.ensures
    (count_refused _ _ _ (view c.args.item.now) _ _ c.in-Some.ensures _ f m.0 c.in_ok-now-in-Becomes.now m.2
    (omega (arith, n, c.if-passes_limit.ensures)))

pub stays-returns-else-passes_limit-clause-outcome : goal.stays-returns-else-passes_limit-clause-outcome
stays-returns-else-passes_limit-clause-outcome t c =
    let f = rw c.in-Becomes.is at c.in_ok-turn_of.ensures.found in
    let m = c.in_ok-now-in-Becomes.ensures.outcome in
    let start : c.len-start.result ≡ length c.turn_of.new.pending.items = omega arith in
    let n = put_count c.turn_of.new.pending.items c.put.new.new.items m.0 c.len-start.result start m.1 c.len.result (omega arith) in
    let back = put_back c.turn_of.new.pending.items c.put.new.new.items m.0 c.len-start.result start m.1 c.reverse_from.new.list.items
    c.reverse_from.ensures in
    rw (n, back) (it_becomes _ _ _ (view c.args.item.now) _ _ c.in-Some.ensures _ f m.0 c.in_ok-now-in-Becomes.now m.2
    (omega (arith, n, c.if-passes_limit.ensures)))

pub expand_into-loop-item-preserved-in-Continue-branch-2 : goal.expand_into-loop-item-preserved-in-Continue-branch-2
expand_into-loop-item-preserved-in-Continue-branch-2 t c =
    let s = rw c.if-branch.true at c.in_ok-stays.ensures.outcome in
    let o = rw (left_pop c.loop-item.pending.items _ c.in-Some.item c.in-Some.ensures.items) at c.loop-item.invariant.owed in record {
      from = omega (arith, c.in_ok-stays.ensures.counts);
      owed = rw (c.in_ok-push.ensures.items, map_push, s.1, s.2) (completes_kept _ _ _ _ _ _ _ _ s.0 o);
    }

pub expand_into-returns-in_err-stays-clause-outcome : goal.expand_into-returns-in_err-stays-clause-outcome
expand_into-returns-in_err-stays-clause-outcome t c =
    let p = err_from_is_err_and c.from_residual.result c.from_residual.ensures.1 in
    let o = rw (left_pop c.loop-item.pending.items _ c.in-Some.item c.in-Some.ensures.items) at c.loop-item.invariant.owed in
    rw (p.1, p.2) (completes_refused _ _ _ _ _ _ c.in_err-stays.field-0.0 _ c.in_err-stays.ensures.outcome o)

pub expand_into-returns-clause-outcome : goal.expand_into-returns-clause-outcome
expand_into-returns-clause-outcome t c =
    let e = rw c.in_default.is at c.pop.ensures.cases in
    let o = rw (left_none c.loop-item.pending.items (omega arith)) at c.loop-item.invariant.owed in
    completes_over _ _ _ _ _ _ o

pub substitute-loop-part-preserved : goal.substitute-loop-part-preserved
substitute-loop-part-preserved t c =
    elim c.match-part.branch [
      | substitute-in-Plain+in_ok-push_replacing-in-Plain w ↦
          let o = rw (dropped c.args.list.now.body.now c.loop-part.part-index c.part-item.result (Plain w.in-Plain.kind w.in-Plain.spaced)
          (omega arith) (sym c.part-item.is ∙ w.in-Plain.is)) at c.loop-part.invariant.owed in record {
            deep = rw w.args-is c.loop-part.invariant.deep;
            from = rw w.count-is c.loop-part.invariant.from;
            owed = rw (w.new-is, w.args-is, w.count-is)
                (adds_plain _ _ _ _ _ _ _ _ _ _ _ w.in-Plain.kind.now w.in-Plain.spaced _ _ w.in_ok-push_replacing-in-Plain.ensures o);
          }
      | substitute-in-Parameter+then-k-args+in_ok-count-in-Parameter+in_ok-push_hidden-in-Parameter w ↦
          let o = rw (dropped c.args.list.now.body.now c.loop-part.part-index c.part-item.result (Parameter w.in-Parameter.k) (omega arith)
          (sym c.part-item.is ∙ w.in-Parameter.is)) at c.loop-part.invariant.owed in
          let text = w.text.ensures
          ∙ sym (text_at w.make_ready.new.args w.in-Parameter.k w.index-args-k.result
          (omega (arith, w.in_ok-count-in-Parameter.ensures.len))) in
          let put = w.in_ok-push_hidden-in-Parameter.ensures
          ∙ ap (λ (ts : List Item). views c.loop-part.new.items ++ map (hidden (has c.args.list.now.hides.new)) ts) text in record {
            deep = λ h. c.loop-part.invariant.deep
                (omega (arith, ap (λ (xs : List Argument). length xs) w.args-is, w.in_ok-count-in-Parameter.ensures.len));
            from = rw w.count-is (omega (arith, w.in_ok-count-in-Parameter.ensures.counts));
            owed = rw (w.new-is, w.args-is, w.count-is)
                (adds_parameter _ _ _ _ _ _ _ _ _ _ _ w.in-Parameter.k _ _ _ _ w.in_ok-count-in-Parameter.ensures.outcome put o);
          }
      | substitute-in-Parameter+else-k-args w ↦
          let o = rw (dropped c.args.list.now.body.now c.loop-part.part-index c.part-item.result (Parameter w.in-Parameter.k) (omega arith)
          (sym c.part-item.is ∙ w.in-Parameter.is)) at c.loop-part.invariant.owed in
          let none = is_absent _ _ _ c.loop-part.args w.in-Parameter.k (omega arith) in record {
            deep = rw w.args-is c.loop-part.invariant.deep;
            from = rw w.count-is c.loop-part.invariant.from;
            owed = rw (w.new-is, w.args-is, w.count-is)
                (adds_parameter _ _ _ _ _ _ _ _ _ _ _ w.in-Parameter.k _ _ _ _ none
                (rw (text_absent c.loop-part.args w.in-Parameter.k (omega arith), append-nil) refl) o);
          }
    ]

pub substitute-returns-in_err-count-in-Parameter-clause-outcome : goal.substitute-returns-in_err-count-in-Parameter-clause-outcome
substitute-returns-in_err-count-in-Parameter-clause-outcome t c =
    let p = err_from_is_err_and c.from_residual-in_err-count-in-Parameter.result c.from_residual-in_err-count-in-Parameter.ensures.1 in
    let o = rw (dropped c.args.list.now.body.now c.loop-part.part-index c.part-item.result (Parameter c.in-Parameter.k) (omega arith)
    (sym c.part-item.is ∙ c.in-Parameter.is)) at c.loop-part.invariant.owed in
    rw (p.1, p.2) (parameter_refused _ _ _ _ _ _ _ _ _ _ c.in_err-count-in-Parameter.field-0.0 c.in-Parameter.k _
    c.in_err-count-in-Parameter.ensures.outcome o.owed)

pub substitute-returns-clause-outcome : goal.substitute-returns-clause-outcome
substitute-returns-clause-outcome t c =
    let past : length c.args.list.now.body.now ≤ c.loop-part.part-index = omega arith in
    let o = rw (drop_all c.loop-part.part-index c.args.list.now.body.now past) at c.loop-part.invariant.owed in
    (o.added, o.stands, finishes_whole _ _ _ _ _ _ _ _ _ _ o.owed)
