use Rattle.std.proofs.Common.{ap, map, ◌∙◌}
use Rattle.parse_initialisers.specs.declared.declarations.Declared.{Declared}
use Rattle.std.proofs.lemmas.List.{take_all}
use Rattle.parse_externals.proofs.externals.names_of.Goals as goal

pub returns : goal.returns
returns c = c.loop-one.invariant ∙ ap (map (λ (one : Declared). one.name.now)) (take_all _ _ c.loop-one-test.false)
