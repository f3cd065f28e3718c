use Rattle.std.proofs.Common.{List, ◌∷◌, true, Ok, Err, sym, subst, ◌∙◌}
use Rattle.library_meaning.specs.Rows.{Behind, answer}
use Rattle.object_meaning.specs.Objects.{Object}
use Rattle.object_meaning.specs.OnObjects.{unless_undefined}
use Rattle.object_meaning.specs.declared.values.Value.TheVariants.{Pointer}
use Rattle.library_meaning.specs.Scan.{and_then}
use Rattle.src_lib.specs.Does.{Does}
use Rattle.src_lib.specs.Reaches.{pointed}
use Rattle.src_lib.specs.Stores.{text_put}
use Rattle.src_lib.specs.declared.ends.Stop.TheVariants as stops
use Rattle.src_lib.proofs.Appends.{append_exceeds, append_row, done_first, nul_found, undefined_first}
use Rattle.src_lib.proofs.Rows.{behind_none, does_gave, stops_as}
use Rattle.src_lib.proofs.strings.append.Goals as goal

pub returns-in-Err : goal.returns-in-Err
returns-in-Err c rest w =
    stops_as (Pointer c.args.d ∷ Pointer c.args.s ∷ rest) w _ c.args.memory.now (stops.Undefined c.in-Err.kind)
    (undefined_first _ c.in-Err.kind _ (nul_found c.args.memory.now c.args.s c.args.most (Err c.in-Err.kind) c.in-Err.ensures.found))

pub returns-then-k-tail : goal.returns-then-k-tail
returns-then-k-tail c rest w =
    stops_as (Pointer c.args.d ∷ Pointer c.args.s ∷ rest) w _ c.args.memory.now stops.Overflow
    (append_exceeds rest c.args.d c.args.s c.args.memory.now c.in-Ok.tail c.args.most c.in-Ok.ensures.found c.in-Ok.ensures.short
    c.args.reads c.args.k c.args.size w c.if-k-tail.true)

pub returns-in-Err-point : goal.returns-in-Err-point
returns-in-Err-point c rest w =
    stops_as (Pointer c.args.d ∷ Pointer c.args.s ∷ rest) w _ c.args.memory.now (stops.Undefined c.in-Err-point.kind)
    (append_row rest c.args.d c.args.s c.args.memory.now c.in-Ok.tail c.args.most c.in-Ok.ensures.found c.in-Ok.ensures.short
    c.args.reads c.args.k c.args.size w c.if-k-tail.false
    ∙ undefined_first _ c.in-Err-point.kind _ (sym c.point.ensures ∙ c.in-Err-point.is))

pub returns : goal.returns
returns c rest w =
    let args = Pointer c.args.d ∷ Pointer c.args.s ∷ rest in
    let objs = c.args.memory.now in
    subst (λ r. Does args w r objs c.put_text.new.memory c.gives.result)
    (sym (append_row rest c.args.d c.args.s objs c.in-Ok.tail c.args.most c.in-Ok.ensures.found c.in-Ok.ensures.short
    c.args.reads c.args.k c.args.size w c.if-k-tail.false
    ∙ done_first (pointed objs c.args.d c.args.s true c.args.reads) c.in-Ok-point.field-0
    (λ u. and_then (unless_undefined (text_put objs c.args.d c.args.k c.args.s c.in-Ok.tail 1)) (λ (l : List Object). Ok (answer l w (Behind 0 0))))
    (sym c.point.ensures ∙ c.in-Ok-point.is)))
    (does_gave args w (Behind 0 0) (Pointer c.args.d) objs c.put_text.new.memory (text_put objs c.args.d c.args.k c.args.s c.in-Ok.tail 1)
    c.put_text.result c.gives.result c.put_text.ensures.changes (behind_none c.args.d) c.gives.ensures)
