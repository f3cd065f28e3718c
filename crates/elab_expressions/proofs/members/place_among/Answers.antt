use Rattle.std.proofs.Common.{◌≡◌, None, Some, drop, sym, ◌∙◌, arith}
use Rattle.std.specs.List.{position_from}
use Rattle.std.specs.Str.{bytes_eq}
use Rattle.std.proofs.lemmas.Grind.{common_steps}
use Rattle.std.proofs.lemmas.Iterator.Adapters.{position_from-zero}
use Rattle.c_layout.specs.declared.tags.Member.{Member}
use Rattle.elab_expressions.proofs.members.place_among.Goals as goal

pub returns-then-is_named : goal.returns-then-is_named
returns-then-is_named c =
    let test = λ (m : Member). bytes_eq m.name c.args.name.now in
    let here : position_from test c.loop-member.place (drop c.loop-member.member-index c.args.members.now) ≡ Some c.loop-member.place = grind (arith, common_steps) in
    sym (position_from-zero test c.args.members.now ∙ (sym c.loop-member.invariant.rest ∙ here))

pub returns : goal.returns
returns c =
    let test = λ (m : Member). bytes_eq m.name c.args.name.now in
    let none : position_from test c.loop-member.place (drop c.loop-member.member-index c.args.members.now) ≡ None = grind (arith, common_steps) in
    sym (position_from-zero test c.args.members.now ∙ (sym c.loop-member.invariant.rest ∙ none))
