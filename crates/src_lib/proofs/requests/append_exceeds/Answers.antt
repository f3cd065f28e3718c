use Rattle.std.proofs.Common.{sym, ◌∙◌}
use Rattle.src_lib.proofs.Asking.{append_stops, second_ends, second_stops}
use Rattle.src_lib.proofs.requests.append_exceeds.Goals as goal

pub returns-in-Err : goal.returns-in-Err
returns-in-Err c = sym (append_stops c.args.memory.now c.args.d c.args.s c.args.n c.args.size c.in-Err.kind c.in-Err.ensures.found)

pub returns-in-Ok-scan_text : goal.returns-in-Ok-scan_text
returns-in-Ok-scan_text c =
    sym (second_ends c.args.memory.now c.args.d c.args.s c.args.n c.args.size c.in-Ok.head c.in-Ok.ensures.found c.in-Ok.ensures.short
    (sym c.has_ended.ensures ∙ c.if-not-has_ended.false) c.most_of.result c.in-Ok-scan_text.tail c.most_of.ensures
    c.in-Ok-scan_text.ensures.found c.in-Ok-scan_text.ensures.short)

pub returns-in-Err-scan_text : goal.returns-in-Err-scan_text
returns-in-Err-scan_text c =
    sym (second_stops c.args.memory.now c.args.d c.args.s c.args.n c.args.size c.in-Ok.head c.in-Ok.ensures.found c.in-Ok.ensures.short
    (sym c.has_ended.ensures ∙ c.if-not-has_ended.false) c.most_of.result c.in-Err-scan_text.kind c.most_of.ensures
    c.in-Err-scan_text.ensures.found)
