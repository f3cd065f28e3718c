use Rattle.std.proofs.Common.{[], ◌∷◌, Err}
use Rattle.library_meaning.specs.Table.{no_limit}
use Rattle.object_meaning.specs.declared.values.Value.TheVariants.{Pointer}
use Rattle.src_lib.specs.declared.ends.Stop.TheVariants as stops
use Rattle.src_lib.proofs.Appends.{nul_found, undefined_first}
use Rattle.src_lib.proofs.Rows.{stops_as}
use Rattle.src_lib.proofs.strings.strlen.Goals as goal

pub returns-in-Err : goal.returns-in-Err
returns-in-Err c w =
    stops_as (Pointer c.args.s ∷ []) w _ c.args.memory.now (stops.Undefined c.in-Err.kind)
    (undefined_first _ c.in-Err.kind _ (nul_found c.args.memory.now c.args.s no_limit (Err c.in-Err.kind) c.in-Err.ensures.found))
