use Rattle.std.proofs.Common.{◌∙◌}
use Rattle.parse_meaning.specs.Terminals.{left_out_keywords}
use Rattle.parse_limits.proofs.Words.{by_first}
use Rattle.parse_limits.proofs.limits.is_left_out_keyword.Goals as goal

pub returns-in-len1-up : goal.returns-in-len1-up
returns-in-len1-up c =
    c.is_among.ensures ∙ by_first c.left_out_from.result.now left_out_keywords c.args.name.now _ c.in-len1-up.len_at_least
    c.left_out_from.ensures
