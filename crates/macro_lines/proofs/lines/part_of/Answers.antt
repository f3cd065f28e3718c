use Rattle.std.proofs.Common.{sym, true, false}
use Rattle.macro_lines.proofs.Fronts.{front_none, front_line, front_text, text_some, some_item, no_item, here}
use Rattle.macro_lines.proofs.lines.part_of.Goals as goal

pub returns-then-is_empty : goal.returns-then-is_empty
returns-then-is_empty c = record { is = front_none c.args.tokens.now (no_item c.args.tokens.now (sym c.if-is_empty.ensures)) }

pub returns-then-is_directive : goal.returns-then-is_directive
returns-then-is_directive c =
    let some = some_item c.args.tokens.now (sym c.if-is_empty.ensures) in
    let n = rw c.after.ensures at c.line_len.ensures.value in
    let w = rw c.after.ensures at c.line_len.ensures.within in
    record {
      is = front_line c.args.tokens.now c.index-tokens-0.result c.line_len.result some
          (here c.args.tokens.now c.index-tokens-0.result true c.index-tokens-0.is (sym c.if-is_directive.ensures)) n w;
    }

pub returns-else-is_directive : goal.returns-else-is_directive
returns-else-is_directive c =
    let some = some_item c.args.tokens.now (sym c.if-is_empty.ensures) in
    let test = here c.args.tokens.now c.index-tokens-0.result false c.index-tokens-0.is (sym c.if-is_directive.ensures) in
    record {
      is = (
        front_text c.args.tokens.now c.index-tokens-0.result c.text_len.result some test c.text_len.ensures.value,
        rw c.text_len.ensures.value (text_some c.args.tokens.now c.index-tokens-0.result some test),
        c.text_len.ensures.within,
      );
    }
