use Rattle.std.proofs.Common.{◌-◌, ltb, min, [], ◌∷◌, Err, sym, subst, ap, ◌∙◌}
use Rattle.library_meaning.specs.Rows.{run}
use Rattle.library_meaning.specs.Table.{appended, second_for}
use Rattle.object_meaning.specs.OnObjects.{on_objects}
use Rattle.object_meaning.specs.declared.values.Value.TheVariants.{Int, Pointer}
use Rattle.src_lib.specs.Does.{Does}
use Rattle.src_lib.specs.Reaches.{touched_for}
use Rattle.src_lib.specs.declared.ends.Stop.TheVariants as stops
use Rattle.src_lib.proofs.Appends.{head_row, nul_found, second_is, undefined_first}
use Rattle.src_lib.proofs.Rows.{stops_as}
use Rattle.src_lib.proofs.strings.strncat.Goals as goal

pub returns-in-Err : goal.returns-in-Err
returns-in-Err c w =
    stops_as (Pointer c.args.d ∷ Pointer c.args.s ∷ Int c.args.n ∷ []) w _ c.args.memory.now (stops.Undefined c.in-Err.kind)
    (undefined_first _ c.in-Err.kind _ (nul_found c.args.memory.now c.args.d c.args.size (Err c.in-Err.kind) c.in-Err.ensures.found))

pub returns : goal.returns
returns c w =
    let args = Pointer c.args.d ∷ Pointer c.args.s ∷ Int c.args.n ∷ [] in
    let objs = c.args.memory.now in
    let k = c.in-Ok.head.len in
    subst (λ r. Does args w r objs c.append.new.memory c.append.result)
    (sym (head_row args c.args.d objs c.in-Ok.head c.args.size
    (λ h. appended (second_for c.args.n) c.args.size h (min c.args.n (c.args.size - h))) w
    c.in-Ok.ensures.found c.in-Ok.ensures.short (sym c.has_ended.ensures ∙ c.if-not-has_ended.false)
    ∙ ap (λ touched. run (on_objects args) (appended touched c.args.size k (min c.args.n (c.args.size - k))) objs w) (sym (second_is c.args.n))))
    (subst (λ most. Does args w (run (on_objects args) (appended (touched_for (ltb 0 c.args.n)) c.args.size k most) objs w) objs
    c.append.new.memory c.append.result) c.min-most.ensures (c.append.ensures (Int c.args.n ∷ []) w))
