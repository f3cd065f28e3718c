use Rattle.std.proofs.Common.{[], ◌∷◌, refl, sym, ◌∙◌}
use Rattle.library_meaning.specs.Rows.{Count}
use Rattle.object_meaning.specs.Touches.{touch_tests}
use Rattle.object_meaning.specs.declared.values.Value.TheVariants.{Int, Pointer}
use Rattle.src_lib.specs.Reaches.{reach_of}
use Rattle.src_lib.specs.Stores.{read_at}
use Rattle.src_lib.specs.declared.ends.Stop.TheVariants as stops
use Rattle.src_lib.proofs.Appends.{done_first, undefined_first}
use Rattle.src_lib.proofs.Ordering.{blocks_row}
use Rattle.src_lib.proofs.Rows.{reads_as, stops_as}
use Rattle.src_lib.proofs.Tests.{all_pass}
use Rattle.src_lib.proofs.blocks.memcmp.Goals as goal

pub returns-in-Ok-order_of_both : goal.returns-in-Ok-order_of_both
returns-in-Ok-order_of_both c w =
    let a = c.args.a in
    let b = c.args.b in
    let n = c.args.n in
    let objs = c.args.memory.now in
    let pass = all_pass (touch_tests objs (reach_of (read_at a n) ∷ reach_of (read_at b n) ∷ [])) c.in-Ok.field-0
    (sym c.touch_both.ensures ∙ c.in-Ok.is) in
    reads_as (Pointer a ∷ Pointer b ∷ Int n ∷ []) w _ objs (Count c.in-Ok-order_of_both.order) (Int c.in-Ok-order_of_both.order)
    (blocks_row objs w a b n c.is_kept.ensures c.requires.a pass
    ∙ done_first _ c.in-Ok-order_of_both.order _ (sym c.order_of_both.ensures ∙ c.in-Ok-order_of_both.is)) refl

pub returns-in-Err-order_of_both : goal.returns-in-Err-order_of_both
returns-in-Err-order_of_both c w =
    let a = c.args.a in
    let b = c.args.b in
    let n = c.args.n in
    let objs = c.args.memory.now in
    let pass = all_pass (touch_tests objs (reach_of (read_at a n) ∷ reach_of (read_at b n) ∷ [])) c.in-Ok.field-0
    (sym c.touch_both.ensures ∙ c.in-Ok.is) in
    stops_as (Pointer a ∷ Pointer b ∷ Int n ∷ []) w _ objs (stops.Undefined c.in-Err-order_of_both.kind)
    (blocks_row objs w a b n c.is_kept.ensures c.requires.a pass
    ∙ undefined_first _ c.in-Err-order_of_both.kind _ (sym c.order_of_both.ensures ∙ c.in-Err-order_of_both.is))
