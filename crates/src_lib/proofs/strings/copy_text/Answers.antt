use Rattle.std.proofs.Common.{List, [], true, Ok, Err, sym, subst, ◌∙◌}
use Rattle.library_meaning.specs.Rows.{answer}
use Rattle.library_meaning.specs.Scan.{and_then}
use Rattle.object_meaning.specs.Objects.{Object}
use Rattle.object_meaning.specs.OnObjects.{unless_undefined}
use Rattle.src_lib.specs.Does.{GivesWith}
use Rattle.src_lib.specs.Reaches.{pointed}
use Rattle.src_lib.specs.Stores.{text_put}
use Rattle.src_lib.specs.declared.ends.Stop.TheVariants as stops
use Rattle.src_lib.proofs.Appends.{copy_row, done_first, nul_found, undefined_first}
use Rattle.src_lib.proofs.Rows.{gives_as, gives_changed, gives_stopped}
use Rattle.src_lib.proofs.strings.copy_text.Goals as goal

pub returns-in-Err-clause-gives : goal.returns-in-Err-clause-gives
returns-in-Err-clause-gives c given w =
    gives_as given w _ c.args.memory.now (stops.Undefined c.in-Err.kind)
    (undefined_first _ c.in-Err.kind _ (nul_found c.args.memory.now c.args.s c.args.size (Err c.in-Err.kind) c.in-Err.ensures.found))

pub returns-in-Ok-put_text-clause-gives : goal.returns-in-Ok-put_text-clause-gives
returns-in-Ok-put_text-clause-gives c given w =
    let objs = c.args.memory.now in
    let t = c.in-Ok.found in
    subst (λ r. GivesWith given w r objs c.put_text.new.memory (Ok t.len))
    (sym (copy_row [] c.args.d c.args.s objs t c.args.size c.in-Ok.ensures.found c.in-Ok.ensures.short given w
    (sym c.has_ended.ensures ∙ c.if-not-has_ended.false)
    ∙ done_first (pointed objs c.args.d c.args.s true true) c.in-Ok-point.field-0
    (λ u. and_then (unless_undefined (text_put objs c.args.d 0 c.args.s t 1)) (λ (l : List Object). Ok (answer l w (given t.len))))
    (sym c.point.ensures ∙ c.in-Ok-point.is)))
    (gives_changed given w t.len objs c.put_text.new.memory (text_put objs c.args.d 0 c.args.s t 1) c.in-Ok-put_text.field-0
    c.in-Ok-put_text.ensures.changes)

pub returns-in-Err-put_text-clause-gives : goal.returns-in-Err-put_text-clause-gives
returns-in-Err-put_text-clause-gives c given w =
    let objs = c.args.memory.now in
    let t = c.in-Ok.found in
    subst (λ r. GivesWith given w r objs c.put_text.new.memory (Err (stops.Undefined c.in-Err-put_text.kind)))
    (sym (copy_row [] c.args.d c.args.s objs t c.args.size c.in-Ok.ensures.found c.in-Ok.ensures.short given w
    (sym c.has_ended.ensures ∙ c.if-not-has_ended.false)
    ∙ done_first (pointed objs c.args.d c.args.s true true) c.in-Ok-point.field-0
    (λ u. and_then (unless_undefined (text_put objs c.args.d 0 c.args.s t 1)) (λ (l : List Object). Ok (answer l w (given t.len))))
    (sym c.point.ensures ∙ c.in-Ok-point.is)))
    (gives_stopped given w (λ (l : List Object). Ok (answer l w (given t.len))) objs c.put_text.new.memory
    (text_put objs c.args.d 0 c.args.s t 1) c.in-Err-put_text.kind c.in-Err-put_text.ensures.changes)
