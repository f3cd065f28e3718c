use Rattle.std.proofs.Common.{[], ◌∷◌, false, ◌||◌, sym, ◌∙◌}
use Rattle.fc_base.specs.declared.undefined.UndefKind.TheVariants as kind
use Rattle.object_meaning.specs.Touches.{test, touch_tests}
use Rattle.src_lib.specs.Reaches.{overlaps, reach_of}
use Rattle.src_lib.proofs.Tests.{stopped_tests}
use Rattle.src_lib.proofs.reaches.apart.Goals as goal

pub returns-in-Err : goal.returns-in-Err
returns-in-Err c =
    sym (stopped_tests (touch_tests c.args.memory.now (reach_of c.args.to ∷ reach_of c.args.from ∷ []))
    (test (overlaps c.args.to c.args.from || false) kind.Overlap ∷ []) c.in-Err.kind (sym c.touch_both.ensures ∙ c.in-Err.is))
