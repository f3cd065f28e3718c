use Rattle.std.proofs.Common.{◌∙◌, ap, sym}
use Rattle.parse_leaves.specs.Runs.{joined, strings_behind}
use Rattle.parse_leaves.proofs.Words.{strings_first}
use Rattle.parse_leaves.proofs.literals.strings.Goals as goal

pub loop-token-init : goal.loop-token-init
loop-token-init c =
    strings_first c.args.first.now c.args.tokens.now
    ∙ ap (λ bytes. joined bytes (strings_behind c.args.tokens.now)) (sym (c.in_ok-bytes.ensures.items ∙ c.text_of.ensures))
