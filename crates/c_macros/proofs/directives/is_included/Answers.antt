use Rattle.std.proofs.Common.{sym, ◌∙◌}
use Rattle.macro_meaning.specs.Sameness.{same_header}
use Rattle.c_macros.proofs.Included.{header_here, header_later}
use Rattle.c_macros.proofs.directives.is_included.Goals as goal

pub returns-then-same_header : goal.returns-then-same_header
returns-then-same_header c =
    sym (c.loop-other.invariant
    ∙ header_here (same_header c.args.header) c.args.headers.now c.loop-other.other-index _ c.loop-other-test.true
    (sym c.same_header.ensures ∙ c.if-same_header.true))

pub loop-other-preserved : goal.loop-other-preserved
loop-other-preserved c =
    c.loop-other.invariant
    ∙ header_later (same_header c.args.header) c.args.headers.now c.loop-other.other-index _ c.loop-other-test.true
    (sym c.same_header.ensures ∙ c.if-same_header.false)
