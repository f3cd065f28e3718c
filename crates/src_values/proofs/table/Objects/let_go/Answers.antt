use Rattle.std.proofs.Common.{◌≤◌, length, set, sym, ap, subst, ◌∙◌, arith}
use Rattle.src_values.specs.Pages.{in_pages}
use Rattle.src_values.proofs.Paging.{let_go_in, filled_set}
use Rattle.src_values.proofs.table.Objects.let_go.Goals as goal

pub invariant_of-self : goal.invariant_of-self
invariant_of-self c =
    let ok = c.self.inside.pages.ok.0 in
    let len = c.len-then-at-len.ensures in
    let more = c.if-len-at-gt1.true in
    let gone = ap (λ p. in_pages 512 (set c.self.inside.pages.items c.args.at p)) c.none.ensures
    ∙ let_go_in 512 c.self.inside.pages.items c.args.at c.index.result.now c.self.invariant.filled
    (omega (arith, ok, len, more)) c.index.ensures (c.has_ended.ensures c.if-has_ended.true) in
    record {
      filled = filled_set 512 c.self.inside.pages.items c.args.at c.none.result c.self.invariant.filled
          (subst (λ p. length p ≤ 512) (sym c.none.ensures) (omega arith));
      count = c.self.invariant.count ∙ sym (ap length gone);
    }

pub returns-then-has_ended : goal.returns-then-has_ended
returns-then-has_ended c =
    let ok = c.self.inside.pages.ok.0 in
    let len = c.len-then-at-len.ensures in
    let more = c.if-len-at-gt1.true in
    let gone = ap (λ p. in_pages 512 (set c.self.inside.pages.items c.args.at p)) c.none.ensures
    ∙ let_go_in 512 c.self.inside.pages.items c.args.at c.index.result.now c.self.invariant.filled
    (omega (arith, ok, len, more)) c.index.ensures (c.has_ended.ensures c.if-has_ended.true) in
    gone ∙ c.self.view_is
