use Rattle.std.proofs.Common.{◌∷◌, refl, sym, ◌∙◌, arith}
use Rattle.host_bytes.proofs.Endings.{does_stop}
use Rattle.print_chk.proofs.Into.{cut_exceeds, cut_leaves, cut_none, cut_puts}
use Rattle.print_chk.specs.Readable.{format_directives}
use Rattle.print_chk.proofs.Puts.{apart_fewer}
use Rattle.print_chk.proofs.memory.print_bounded.Goals as goal

pub returns-then-n-size : goal.returns-then-n-size
returns-then-n-size c =
    let m = c.args.mem.now in
    let args = c.args.args.now in
    does_stop (c.args.d ∷ c.args.n ∷ c.args.format ∷ args) m m _ _ (cut_exceeds args m c.args.d c.args.n c.args.format c.args.size c.if-n-size.true) refl

pub returns-in-Err : goal.returns-in-Err
returns-in-Err c =
    let m = c.args.mem.now in
    let args = c.args.args.now in
    does_stop (c.args.d ∷ c.args.n ∷ c.args.format ∷ args) m m _ c.in-Err.stop (cut_leaves args m c.args.d c.args.n c.args.format c.args.size c.in-Err.stop c.if-n-size.false c.in-Err.ensures) refl

pub returns-then-n-eq0 : goal.returns-then-n-eq0
returns-then-n-eq0 c =
    let m = c.args.mem.now in
    let args = c.args.args.now in
    cut_none args m c.args.d c.args.n c.args.format c.args.size c.in-Ok.format c.in-Ok.ensures.1 c.in-Ok.ensures.0 c.if-n-size.false c.if-n-eq0.true

pub returns : goal.returns
returns c =
    let m = c.args.mem.now in
    let args = c.args.args.now in
    cut_puts args m c.args.d c.args.n c.args.format c.args.size c.in-Ok.format c.in-Ok.ensures.1 c.in-Ok.ensures.0 c.if-n-size.false
    c.put_text.result c.put_text.new.mem c.stored_of.result c.if-n-eq0.false c.stored_of.ensures c.put_text.ensures

pub put_text-requires-clause-known : goal.put_text-requires-clause-known
put_text-requires-clause-known c clear =
    let m = c.args.mem.now in
    let f = c.in-Ok.format in
    apart_fewer c.args.args.now m c.args.d c.args.n c.stored_of.result (format_directives m f) 0 (omega (arith, c.stored_of.ensures)) (sym c.in-Ok.ensures.2 ∙ clear)
