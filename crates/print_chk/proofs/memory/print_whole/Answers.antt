use Rattle.std.proofs.Common.{◌+◌, ◌∷◌, refl, sym, ◌∙◌, arith}
use Rattle.host_bytes.proofs.Endings.{does_stop}
use Rattle.print_chk.proofs.Into.{whole_exceeds, whole_leaves, whole_puts}
use Rattle.print_chk.specs.Readable.{format_directives}
use Rattle.print_chk.proofs.Puts.{apart_fewer}
use Rattle.print_chk.proofs.memory.print_whole.Goals as goal

pub returns-in-Err : goal.returns-in-Err
returns-in-Err c =
    let m = c.args.mem.now in
    let args = c.args.args.now in
    does_stop (c.args.d ∷ c.args.format ∷ args) m m _ c.in-Err.stop (whole_leaves args m c.args.d c.args.format c.args.size c.in-Err.stop c.in-Err.ensures) refl

pub returns-then-format-size : goal.returns-then-format-size
returns-then-format-size c =
    let m = c.args.mem.now in
    let args = c.args.args.now in
    let f = c.in-Ok.format in
    does_stop (c.args.d ∷ c.args.format ∷ args) m m _ _ (whole_exceeds args m c.args.d c.args.format c.args.size f c.in-Ok.ensures.1 c.in-Ok.ensures.0 c.if-format-size.true) refl

pub returns : goal.returns
returns c =
    let m = c.args.mem.now in
    let args = c.args.args.now in
    let f = c.in-Ok.format in
    whole_puts args m c.args.d c.args.format c.args.size f c.in-Ok.ensures.1 c.in-Ok.ensures.0 c.put_text.result c.put_text.new.mem c.if-format-size.false c.put_text.ensures

pub put_text-requires-clause-known : goal.put_text-requires-clause-known
put_text-requires-clause-known c clear =
    let m = c.args.mem.now in
    let f = c.in-Ok.format in
    apart_fewer c.args.args.now m c.args.d c.args.size (f.length + 1) (format_directives m f) 0 (omega arith) (sym c.in-Ok.ensures.2 ∙ clear)
