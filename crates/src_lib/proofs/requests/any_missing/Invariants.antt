use Rattle.std.specs.Prelude.{◌≡◌, drop}
use Rattle.std.specs.List.{list_any}
use Rattle.object_meaning.specs.OnObjects.{is_missing}
use Rattle.src_lib.proofs.requests.any_missing.Given as goal

abbrev pub invariant-loop-value : goal.invariant-loop-value
invariant-loop-value l = list_any is_missing (drop l.value-index l.args) ≡ list_any is_missing l.args
