-- The first word that is refused is the first part that is.
use Rattle.std.proofs.lemmas.Result.{err_from_is_err_and}
use Rattle.bm_image.specs.Parts.{all, refused, next}
use Rattle.bm_image.proofs.reading.read_header.Goals as goal

pub returns-in_err-read_magic-clause-refused : goal.returns-in_err-read_magic-clause-refused
returns-in_err-read_magic-clause-refused c =
    let p = err_from_is_err_and c.from_residual.result c.from_residual.ensures.1 in
    rw (p.1, p.2) (refused c.in_err-read_magic.ensures.refused)

pub returns-in_err-header_word-clause-refused : goal.returns-in_err-header_word-clause-refused
returns-in_err-header_word-clause-refused c =
    let p = err_from_is_err_and c.from_residual-in_err-header_word.result c.from_residual-in_err-header_word.ensures.1 in
    rw (p.1, p.2) (next c.in_ok-read_magic.ensures.accepted (refused c.in_err-header_word.ensures.refused))

pub returns-in_err-functions-clause-refused : goal.returns-in_err-functions-clause-refused
returns-in_err-functions-clause-refused c =
    let p = err_from_is_err_and c.from_residual-in_err-functions.result c.from_residual-in_err-functions.ensures.1 in
    rw (p.1, p.2) (next c.in_ok-read_magic.ensures.accepted (next c.in_ok-header_word.ensures.accepted
    (refused c.in_err-functions.ensures.refused)))

pub returns-in_err-code-clause-refused : goal.returns-in_err-code-clause-refused
returns-in_err-code-clause-refused c =
    let p = err_from_is_err_and c.from_residual-in_err-code.result c.from_residual-in_err-code.ensures.1 in
    rw (p.1, p.2) (next c.in_ok-read_magic.ensures.accepted (next c.in_ok-header_word.ensures.accepted
    (next c.in_ok-functions.ensures.accepted
    (refused c.in_err-code.ensures.refused))))

pub returns-in_err-size-clause-refused : goal.returns-in_err-size-clause-refused
returns-in_err-size-clause-refused c =
    let p = err_from_is_err_and c.from_residual-in_err-size.result c.from_residual-in_err-size.ensures.1 in
    rw (p.1, p.2) (next c.in_ok-read_magic.ensures.accepted (next c.in_ok-header_word.ensures.accepted
    (next c.in_ok-functions.ensures.accepted
    (next c.in_ok-code.ensures.accepted (refused c.in_err-size.ensures.refused)))))

pub returns-in_err-entry-clause-refused : goal.returns-in_err-entry-clause-refused
returns-in_err-entry-clause-refused c =
    let p = err_from_is_err_and c.from_residual-in_err-entry.result c.from_residual-in_err-entry.ensures.1 in
    rw (p.1, p.2) (next c.in_ok-read_magic.ensures.accepted (next c.in_ok-header_word.ensures.accepted
    (next c.in_ok-functions.ensures.accepted
    (next c.in_ok-code.ensures.accepted (next c.in_ok-size.ensures.accepted (refused
    (rw c.in_ok-functions.ensures.word at c.in_err-entry.ensures.refused)))))))

pub returns-in_err-header_word-2-clause-refused : goal.returns-in_err-header_word-2-clause-refused
returns-in_err-header_word-2-clause-refused c =
    let p = err_from_is_err_and c.from_residual-in_err-header_word-2.result c.from_residual-in_err-header_word-2.ensures.1 in
    rw (p.1, p.2) (next c.in_ok-read_magic.ensures.accepted (next c.in_ok-header_word.ensures.accepted
    (next c.in_ok-functions.ensures.accepted
    (next c.in_ok-code.ensures.accepted (next c.in_ok-size.ensures.accepted (next
    (rw c.in_ok-functions.ensures.word at c.in_ok-entry.ensures.accepted)
    (refused c.in_err-header_word-2.ensures.refused)))))))

pub returns-clause-accepted : goal.returns-clause-accepted
returns-clause-accepted c =
    next c.in_ok-read_magic.ensures.accepted (next c.in_ok-header_word.ensures.accepted (next c.in_ok-functions.ensures.accepted
    (next c.in_ok-code.ensures.accepted (next c.in_ok-size.ensures.accepted (next
    (rw c.in_ok-functions.ensures.word at c.in_ok-entry.ensures.accepted)
    (next c.in_ok-header_word-2.ensures.accepted all))))))
