use Rattle.std.proofs.Common.{[], sym, ap, ◌∙◌, subst}
use Rattle.run_meaning.specs.Objects.{stream}
use Rattle.host_bytes.specs.Texts.{byte_scan}
use Rattle.print_texts.specs.Paddings.{in_parts, padding_of}
use Rattle.print_chk.specs.Written.{Wrote}
use Rattle.print_chk.proofs.Shown.{string_parts}
use Rattle.print_chk.proofs.printing.put_conversion.Goals as goal

pub returns-in-Ok : goal.returns-in-Ok
returns-in-Ok g c =
    let m = c.args.mem.now in
    let v = c.args.value in
    let o = c.args.conversion.options in
    let len = c.in-Ok.text.len in
    let r = c.put_padded-in-Ok.result in
    let x = stream (g.S.Sink.written c.args.sink.now) (g.S.Sink.count c.args.sink.now) in
    let y = stream (g.S.Sink.written c.put_padded-in-Ok.new.sink) (g.S.Sink.count c.put_padded-in-Ok.new.sink) in
    subst (λ t. Wrote t r x y)
    (ap (λ p. in_parts p [] c.bytes.result.now) c.padding_of-in-Ok.ensures ∙ ap (in_parts (padding_of o len) []) c.bytes.ensures
    ∙ string_parts m o c.args.conversion.specifier v c.in-Text.precision _ len c.in-Text.is (ap (byte_scan 0 m v) (sym c.most.ensures) ∙ c.in-Ok.ensures.found) (sym c.in-Ok.ensures.lies.long))
    c.put_padded-in-Ok.ensures
