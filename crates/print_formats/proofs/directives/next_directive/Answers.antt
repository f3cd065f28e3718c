use Rattle.std.proofs.Common.{◌≡◌, ◌+◌, ◌-◌, drop, get_or, sym, ap, ◌∙◌, subst, arith}
use Rattle.std.proofs.lemmas.List.{drop_more}
use Rattle.print_formats.specs.Formats.{directives_from}
use Rattle.print_formats.specs.Reading.{EndsWith, OrdinaryIs}
use Rattle.print_formats.proofs.Bytes.{ends, ordinary_is}
use Rattle.print_formats.proofs.directives.next_directive.Goals as goal

pub returns-in-Ends : goal.returns-in-Ends
returns-in-Ends c =
    let f = c.args.format.now in
    let i = c.loop-i.i in
    let b = get_or f i 0 in
    let behind : i + 1 - 1 ≡ i = omega arith in (
      c.loop-i.invariant ∙ ap (directives_from c.loop-i.state) (drop_more f i 0 c.loop-i-test.true) ∙ ends c.loop-i.state b (drop (i + 1) f) c.in-Ends.directive c.in-Ends.ensures,
      omega arith,
      omega arith,
      subst (λ k. EndsWith (get_or f k 0) c.in-Ends.directive) (sym behind) (subst (OrdinaryIs b) (sym c.in-Ends.ensures) (ordinary_is b c.loop-i.state)),
    )
