use Rattle.std.proofs.Common.{◌∙◌}
use Rattle.macro_definitions.proofs.Pairs.{names_same}
use Rattle.macro_definitions.proofs.sameness.same_names.Goals as goal

pub returns : goal.returns
returns c = let e = rw (c.as_slice.ensures.keys, c.as_slice-2.ensures.keys) at c.eq.ensures in e
    ∙ names_same c.args.a.now.keys c.args.b.now.keys
