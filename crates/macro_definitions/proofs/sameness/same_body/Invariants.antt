use Rattle.std.proofs.Common.{◌≡◌, drop}
use Rattle.std.specs.Cmp.Lexicographic.{pointwise}
use Rattle.macro_meaning.specs.Sameness.{same_part}
use Rattle.macro_items.specs.Views.{body_part_views}
use Rattle.macro_definitions.proofs.sameness.same_body.Given as goal

abbrev pub invariant-loop-i : goal.invariant-loop-i
invariant-loop-i l = pointwise same_part (body_part_views (drop l.i l.a)) (body_part_views (drop l.i l.b)) ≡ pointwise same_part
    (body_part_views l.a) (body_part_views l.b)
