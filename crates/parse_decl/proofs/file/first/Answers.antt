use Rattle.std.proofs.Common.{◌-◌, length, refl, ap, ◌∙◌}
use Rattle.parse_reading.specs.Reading.{found}
use Rattle.parse_externals.specs.Externals.{external_of}
use Rattle.parse_decl.proofs.FileSteps.{take_behind}
use Rattle.parse_decl.proofs.file.first.Goals as goal

pub returns-clause-found : goal.returns-clause-found
returns-clause-found c = (
  found (external_of c.in_ok-found.found.tree) c.in_ok-found.found.height c.external.new.tokens,
  rw c.new-tokens.ensures at c.in_ok-found.ensures,
  refl,
  take_behind c.args.rest.now c.saturating_sub.result (length c.args.rest.now - length c.external.new.tokens)
      (c.saturating_sub.ensures ∙ ap (λ k. length c.args.rest.now - k) c.left-left.ensures.all),
)
