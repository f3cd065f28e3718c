use Rattle.std.proofs.Common.{◌∷◌, Ok, Err, refl, sym, subst}
use Rattle.run_meaning.specs.Objects.{stream}
use Rattle.print_formats.specs.Formats.{directives_of}
use Rattle.print_texts.specs.Printing.{listed, shown}
use Rattle.print_chk.specs.Written.{Wrote}
use Rattle.print_chk.proofs.Parts.{wrote_grew}
use Rattle.print_chk.proofs.Read.{behind_first, behind_second}
use Rattle.print_chk.proofs.Shown.{stops, writes}
use Rattle.print_chk.proofs.printing.print_out.Goals as goal

pub returns-in-Err-clause-printf : goal.returns-in-Err-clause-printf
returns-in-Err-clause-printf g c =
    let a = c.args.format in
    let args = c.args.args.now in
    stops (a ∷ args) args c.args.mem.now 1 0 (behind_first a args) a c.in-Err.stop (stream (g.S.Sink.written c.args.sink.now) (g.S.Sink.count c.args.sink.now)) refl c.in-Err.ensures

pub returns-in-Ok-put_format-clause-printf : goal.returns-in-Ok-put_format-clause-printf
returns-in-Ok-put_format-clause-printf g c =
    let a = c.args.format in
    let args = c.args.args.now in
    let m = c.args.mem.now in
    let x = stream (g.S.Sink.written c.args.sink.now) (g.S.Sink.count c.args.sink.now) in
    let y = stream (g.S.Sink.written c.put_format.new.sink) (g.S.Sink.count c.put_format.new.sink) in
    writes (a ∷ args) args m 1 0 (behind_first a args) c.in-Ok.format c.in-Ok.ensures.1 (sym c.in-Ok.ensures.0) (Ok tt) x y
    (subst (λ b. Wrote (shown args m (listed (directives_of b)) 0) (Ok tt) x y) c.bytes.ensures c.in-Ok-put_format.ensures)

pub returns-in-Err-put_format-clause-printf : goal.returns-in-Err-put_format-clause-printf
returns-in-Err-put_format-clause-printf g c =
    let a = c.args.format in
    let args = c.args.args.now in
    let m = c.args.mem.now in
    let x = stream (g.S.Sink.written c.args.sink.now) (g.S.Sink.count c.args.sink.now) in
    let y = stream (g.S.Sink.written c.put_format.new.sink) (g.S.Sink.count c.put_format.new.sink) in
    writes (a ∷ args) args m 1 0 (behind_first a args) c.in-Ok.format c.in-Ok.ensures.1 (sym c.in-Ok.ensures.0) (Err c.in-Err-put_format.stop) x y
    (subst (λ b. Wrote (shown args m (listed (directives_of b)) 0) (Err c.in-Err-put_format.stop) x y) c.bytes.ensures c.in-Err-put_format.ensures)

pub returns-in-Err-clause-dprintf : goal.returns-in-Err-clause-dprintf
returns-in-Err-clause-dprintf g c first descriptor =
    let a = c.args.format in
    let args = c.args.args.now in
    stops (first ∷ a ∷ args) args c.args.mem.now descriptor 1 (behind_second first a args) a c.in-Err.stop (stream (g.S.Sink.written c.args.sink.now) (g.S.Sink.count c.args.sink.now)) refl c.in-Err.ensures

pub returns-in-Ok-put_format-clause-dprintf : goal.returns-in-Ok-put_format-clause-dprintf
returns-in-Ok-put_format-clause-dprintf g c first descriptor =
    let a = c.args.format in
    let args = c.args.args.now in
    let m = c.args.mem.now in
    let x = stream (g.S.Sink.written c.args.sink.now) (g.S.Sink.count c.args.sink.now) in
    let y = stream (g.S.Sink.written c.put_format.new.sink) (g.S.Sink.count c.put_format.new.sink) in
    writes (first ∷ a ∷ args) args m descriptor 1 (behind_second first a args) c.in-Ok.format c.in-Ok.ensures.1 (sym c.in-Ok.ensures.0) (Ok tt) x y
    (subst (λ b. Wrote (shown args m (listed (directives_of b)) 0) (Ok tt) x y) c.bytes.ensures c.in-Ok-put_format.ensures)

pub returns-in-Err-put_format-clause-dprintf : goal.returns-in-Err-put_format-clause-dprintf
returns-in-Err-put_format-clause-dprintf g c first descriptor =
    let a = c.args.format in
    let args = c.args.args.now in
    let m = c.args.mem.now in
    let x = stream (g.S.Sink.written c.args.sink.now) (g.S.Sink.count c.args.sink.now) in
    let y = stream (g.S.Sink.written c.put_format.new.sink) (g.S.Sink.count c.put_format.new.sink) in
    writes (first ∷ a ∷ args) args m descriptor 1 (behind_second first a args) c.in-Ok.format c.in-Ok.ensures.1 (sym c.in-Ok.ensures.0) (Err c.in-Err-put_format.stop) x y
    (subst (λ b. Wrote (shown args m (listed (directives_of b)) 0) (Err c.in-Err-put_format.stop) x y) c.bytes.ensures c.in-Err-put_format.ensures)

pub returns-in-Ok-put_format-clause-grew : goal.returns-in-Ok-put_format-clause-grew
returns-in-Ok-put_format-clause-grew g c =
    wrote_grew _ (Ok tt) (stream (g.S.Sink.written c.args.sink.now) (g.S.Sink.count c.args.sink.now))
    (stream (g.S.Sink.written c.put_format.new.sink) (g.S.Sink.count c.put_format.new.sink)) c.in-Ok-put_format.ensures

pub returns-in-Err-put_format-clause-grew : goal.returns-in-Err-put_format-clause-grew
returns-in-Err-put_format-clause-grew g c =
    wrote_grew _ (Err c.in-Err-put_format.stop) (stream (g.S.Sink.written c.args.sink.now) (g.S.Sink.count c.args.sink.now))
    (stream (g.S.Sink.written c.put_format.new.sink) (g.S.Sink.count c.put_format.new.sink)) c.in-Err-put_format.ensures
