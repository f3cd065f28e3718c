use Rattle.std.specs.Prelude.{◌≡◌, take, replicate}
use Rattle.object_meaning.specs.Objects.{ended}
use Rattle.src_values.proofs.pages.Page.has_ended.Given as goal

abbrev pub invariant-loop-i : goal.invariant-loop-i
invariant-loop-i l = take l.i l.self-inside.objects.items ≡ replicate l.i ended
