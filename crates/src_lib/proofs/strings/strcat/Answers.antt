use Rattle.std.proofs.Common.{◌-◌, [], ◌∷◌, Err, sym, subst, ◌∙◌}
use Rattle.library_meaning.specs.Table.{appended, pointers}
use Rattle.object_meaning.specs.declared.values.Value.TheVariants.{Pointer}
use Rattle.src_lib.specs.Does.{Does}
use Rattle.src_lib.specs.declared.ends.Stop.TheVariants as stops
use Rattle.src_lib.proofs.Appends.{head_row, nul_found, undefined_first}
use Rattle.src_lib.proofs.Rows.{stops_as}
use Rattle.src_lib.proofs.strings.strcat.Goals as goal

pub returns-in-Err : goal.returns-in-Err
returns-in-Err c w =
    stops_as (Pointer c.args.d ∷ Pointer c.args.s ∷ []) w _ c.args.memory.now (stops.Undefined c.in-Err.kind)
    (undefined_first _ c.in-Err.kind _ (nul_found c.args.memory.now c.args.d c.args.size (Err c.in-Err.kind) c.in-Err.ensures.found))

pub returns : goal.returns
returns c w =
    let args = Pointer c.args.d ∷ Pointer c.args.s ∷ [] in
    subst (λ r. Does args w r c.args.memory.now c.append.new.memory c.append.result)
    (sym (head_row args c.args.d c.args.memory.now c.in-Ok.head c.args.size (λ k. appended pointers c.args.size k (c.args.size - k)) w
    c.in-Ok.ensures.found c.in-Ok.ensures.short (sym c.has_ended.ensures ∙ c.if-not-has_ended.false)))
    (c.append.ensures [] w)
