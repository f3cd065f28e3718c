-- The first part that is refused is found by the first stage that refuses one.
use Rattle.std.proofs.Common.{◌∙◌, ap, subst, length, Some, Err, rules, arith}
use Rattle.std.proofs.lemmas.Result.{err_from_is_err_and}
use Rattle.bm_image.specs.Parts.{Judges, header_parts, functions_count}
use Rattle.bm_image.proofs.Judged.{handed_on, same_error, judged_first, judged_over}
use Rattle.bm_image.proofs.Accepted.{one_image, none_spelled}
use Rattle.bm_image.proofs.Spelled.{Bytes, is_header, in_order, records_length, spelled}
use Rattle.bm_image.proofs.reading.read_image.Goals as goal

pub read_code-requires-clause-order : goal.read_code-requires-clause-order
read_code-requires-clause-order c =
    let bytes = c.args.bytes.now in
    let small : Bytes bytes = λ i. search rules in
    rw (c.deref.ensures.value, c.in_ok-functions.ensures.functions, c.in_ok-header.ensures.code)
    (in_order bytes (is_header bytes small c.in_ok-header.ensures.accepted) c.in_ok-functions.ensures.accepted)

pub read_code-requires-clause-count : goal.read_code-requires-clause-count
read_code-requires-clause-count c =
    let bytes = c.args.bytes.now in
    ap length (c.deref.ensures.value ∙ c.in_ok-functions.ensures.functions) ∙ records_length bytes 32 (functions_count bytes)

pub read_code-requires-clause-some : goal.read_code-requires-clause-some
read_code-requires-clause-some c =
    let bytes = c.args.bytes.now in
    let small : Bytes bytes = λ i. search rules in
    let header = is_header bytes small c.in_ok-header.ensures.accepted in
    let some = header.functions.0 in
    let count = ap length (c.deref.ensures.value ∙ c.in_ok-functions.ensures.functions) ∙ records_length bytes 32 (functions_count bytes) in
    omega (arith, some, count)

pub read_code-requires-clause-few : goal.read_code-requires-clause-few
read_code-requires-clause-few c =
    let bytes = c.args.bytes.now in
    let small : Bytes bytes = λ i. search rules in
    let header = is_header bytes small c.in_ok-header.ensures.accepted in
    let few = header.functions.1 in
    let count = ap length (c.deref.ensures.value ∙ c.in_ok-functions.ensures.functions) ∙ records_length bytes 32 (functions_count bytes) in
    omega (arith, few, count)

pub returns-in_err-header-clause-refused : goal.returns-in_err-header-clause-refused
returns-in_err-header-clause-refused c = λ fault is.
    let p = err_from_is_err_and c.from_residual.result c.from_residual.ensures.1 in
    let same = handed_on c.from_residual.result p.0 c.in_err-header.field-0.0 fault p.1 p.2 is in
    judged_first _ (subst (λ f. Judges c.args.bytes.now (header_parts c.args.bytes.now) (Some f)) same c.in_err-header.ensures.refused)

pub returns-in_err-functions-clause-refused : goal.returns-in_err-functions-clause-refused
returns-in_err-functions-clause-refused c = λ fault is.
    let p = err_from_is_err_and c.from_residual-in_err-functions.result c.from_residual-in_err-functions.ensures.1 in
    judged_over c.in_ok-header.ensures.accepted
    (judged_first _ (c.in_err-functions.ensures.refused fault (ap Err
    (same_error c.from_residual-in_err-functions.result p.0 c.in_err-functions.field-0.0 fault p.1 p.2 is))))

pub returns-in_err-code-clause-refused : goal.returns-in_err-code-clause-refused
returns-in_err-code-clause-refused c = λ fault is.
    let p = err_from_is_err_and c.from_residual-in_err-code.result c.from_residual-in_err-code.ensures.1 in
    judged_over c.in_ok-header.ensures.accepted (judged_over c.in_ok-functions.ensures.accepted
    (judged_first _ (c.in_err-code.ensures.refused fault (ap Err
    (same_error c.from_residual-in_err-code.result p.0 c.in_err-code.field-0.0 fault p.1 p.2 is)))))

pub returns-in_err-rest-clause-refused : goal.returns-in_err-rest-clause-refused
returns-in_err-rest-clause-refused c = λ fault is.
    let p = err_from_is_err_and c.from_residual-in_err-rest.result c.from_residual-in_err-rest.ensures.1 in
    judged_over c.in_ok-header.ensures.accepted (judged_over c.in_ok-functions.ensures.accepted (judged_over c.in_ok-code.ensures.accepted
    (c.in_err-rest.ensures.refused fault (ap Err (same_error c.from_residual-in_err-rest.result p.0 c.in_err-rest.field-0.0 fault p.1 p.2 is)))))

pub returns-clause-spelled : goal.returns-clause-spelled
returns-clause-spelled c =
    let bytes = c.args.bytes.now in
    let small : Bytes bytes = λ i. search rules in
    spelled bytes _ small c.in_ok-header.ensures.accepted c.in_ok-functions.ensures.accepted c.in_ok-rest.ensures.accepted
    c.in_ok-functions.ensures.functions c.in_ok-code.ensures.read c.in_ok-code.ensures.count c.in_ok-rest.ensures.items c.in_ok-header.ensures.entry

pub returns-in_err-header-clause-none : goal.returns-in_err-header-clause-none
returns-in_err-header-clause-none c = λ fault is. none_spelled c.args.bytes.now fault (returns-in_err-header-clause-refused c fault is)

pub returns-in_err-functions-clause-none : goal.returns-in_err-functions-clause-none
returns-in_err-functions-clause-none c = λ fault is. none_spelled c.args.bytes.now fault
    (returns-in_err-functions-clause-refused c fault is)

pub returns-in_err-code-clause-none : goal.returns-in_err-code-clause-none
returns-in_err-code-clause-none c = λ fault is. none_spelled c.args.bytes.now fault (returns-in_err-code-clause-refused c fault is)

pub returns-in_err-rest-clause-none : goal.returns-in_err-rest-clause-none
returns-in_err-rest-clause-none c = λ fault is. none_spelled c.args.bytes.now fault (returns-in_err-rest-clause-refused c fault is)

pub returns-clause-one : goal.returns-clause-one
returns-clause-one c = λ other s. one_image c.args.bytes.now other _ s (returns-clause-spelled c)
