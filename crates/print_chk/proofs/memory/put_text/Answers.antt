use Rattle.std.proofs.Common.{◌≡◌, ◌+◌, ◌-◌, ◌∷◌, [], length, take, refl, sym, ap, ◌∙◌, arith}
use Rattle.std.proofs.lemmas.List.{length-take}
use Rattle.library_meaning.specs.Memory.{put}
use Rattle.host_bytes.proofs.Shapes.{put-put}
use Rattle.print_texts.specs.Printing.{shown}
use Rattle.print_chk.specs.Readable.{format_directives}
use Rattle.print_chk.proofs.Puts.{apart_fewer, free_parts}
use Rattle.print_chk.proofs.Read.{measured_length}
use Rattle.print_chk.proofs.memory.put_text.Goals as goal

pub store_format-requires-clause-apart : goal.store_format-requires-clause-apart
store_format-requires-clause-apart c =
    let args = c.args.args.now in
    let m = c.args.mem.now in
    let free = free_parts args m c.args.to c.args.count c.args.format c.requires.some (sym c.is_free.ensures ∙ c.if-not-is_free.false) in
    apart_fewer args m c.args.to c.args.count (c.args.count - 1) (format_directives m c.args.format) 0 (omega arith) free.0

pub returns : goal.returns
returns c =
    let args = c.args.args.now in
    let m = c.args.mem.now in
    let f = c.args.format in
    let to = c.args.to in
    let count = c.args.count in
    let text = shown args m (format_directives m f) 0 in
    let front = take (count - 1) text in
    let long = measured_length args m (format_directives m f) 0 0 f.length c.requires.is.measures in
    let stored : length front ≡ count - 1 = omega (arith, long, length-take (count - 1) text) in
    let free = free_parts args m to count f c.requires.some (sym c.is_free.ensures ∙ c.if-not-is_free.false) in
    let high = free.2 in (
      sym c.is_free.ensures ∙ c.if-not-is_free.false,
      refl,
      c.fill.ensures ∙ ap (λ z. put (to + (count - 1)) (0 ∷ []) z) c.store_format.ensures.stores.stored ∙ ap (λ i. put (to + i) (0 ∷ []) (put to front m)) (sym stored)
          ∙ put-put to front (0 ∷ []) m (omega arith),
    )
