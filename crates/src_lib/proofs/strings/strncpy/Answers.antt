use Rattle.std.proofs.Common.{◌-◌, [], ◌∷◌, sym, subst, ◌∙◌}
use Rattle.library_meaning.specs.Rows.{Behind}
use Rattle.object_meaning.specs.declared.values.Value.TheVariants.{Int, Pointer}
use Rattle.src_lib.specs.Does.{Does}
use Rattle.src_lib.specs.Stores.{text_put}
use Rattle.src_lib.specs.declared.ends.Stop.TheVariants as stops
use Rattle.src_lib.proofs.Appends.{pad_first, pad_is, pad_stops, undefined_first}
use Rattle.src_lib.proofs.Rows.{behind_none, does_gave, stops_as}
use Rattle.src_lib.proofs.strings.strncpy.Goals as goal

pub returns-in-Err : goal.returns-in-Err
returns-in-Err c w =
    stops_as (Pointer c.args.d ∷ Pointer c.args.s ∷ Int c.args.n ∷ []) w _ c.args.memory.now (stops.Undefined c.in-Err.kind)
    (pad_first c.args.d c.args.s c.args.n c.args.memory.now w c.args.size c.if-n-size.false
    ∙ undefined_first _ c.in-Err.kind _ (sym c.point.ensures ∙ c.in-Err.is))

pub returns-in-Err-scan_text : goal.returns-in-Err-scan_text
returns-in-Err-scan_text c w =
    stops_as (Pointer c.args.d ∷ Pointer c.args.s ∷ Int c.args.n ∷ []) w _ c.args.memory.now (stops.Undefined c.in-Err-scan_text.kind)
    (pad_stops c.args.d c.args.s c.args.n c.args.memory.now w c.args.size c.in-Ok.field-0 c.in-Err-scan_text.kind c.if-n-size.false
    (sym c.point.ensures ∙ c.in-Ok.is) c.in-Err-scan_text.ensures.found)

pub returns-in-Ok-scan_text : goal.returns-in-Ok-scan_text
returns-in-Ok-scan_text c w =
    let args = Pointer c.args.d ∷ Pointer c.args.s ∷ Int c.args.n ∷ [] in
    let objs = c.args.memory.now in
    let t = c.in-Ok-scan_text.found in
    subst (λ r. Does args w r objs c.put_text.new.memory c.gives.result)
    (sym (pad_is c.args.d c.args.s c.args.n objs w c.args.size c.in-Ok.field-0 t c.if-n-size.false (sym c.point.ensures ∙ c.in-Ok.is)
    c.in-Ok-scan_text.ensures.found c.in-Ok-scan_text.ensures.short))
    (does_gave args w (Behind 0 0) (Pointer c.args.d) objs c.put_text.new.memory
    (text_put objs c.args.d 0 c.args.s t (c.args.n - t.len)) c.put_text.result c.gives.result c.put_text.ensures.changes
    (behind_none c.args.d) c.gives.ensures)
