-- The phase that refuses first gives the outcome.
use Rattle.std.proofs.lemmas.Result.{err_from_is_err_and}
use Rattle.c_front.specs.Front.{accepted}
use Rattle.c_front.proofs.Phases.{refused_lexing, refused_expansion, refused_parsing}
use Rattle.c_front.proofs.front.read_source.Goals as goal

pub returns-in_err-lexed : goal.returns-in_err-lexed
returns-in_err-lexed c =
    let p = err_from_is_err_and c.from_residual.result c.from_residual.ensures.1 in
    rw (p.1, p.2) (refused_lexing c.args.level c.args.source.now c.in_err-lexed.field-0.0 c.in_err-lexed.ensures.gives)

pub returns-in_err-expanded : goal.returns-in_err-expanded
returns-in_err-expanded c =
    let p = err_from_is_err_and c.from_residual-in_err-expanded.result c.from_residual-in_err-expanded.ensures.1 in
    rw (p.1, p.2) (refused_expansion c.args.level c.args.source.now c.in_err-expanded.field-0.0 c.in_ok-lexed.ensures.gives (rw c.deref.ensures.value at c.in_err-expanded.ensures.is))

pub returns-in_err-parse : goal.returns-in_err-parse
returns-in_err-parse c =
    let p = err_from_is_err_and c.from_residual-in_err-parse.result c.from_residual-in_err-parse.ensures.1 in
    rw (p.1, p.2)
    (refused_parsing c.args.level c.args.source.now c.in_err-parse.field-0.0 c.in_ok-lexed.ensures.gives (rw c.deref.ensures.value at c.in_ok-expanded.ensures.is)
    (rw c.deref-2.ensures.value at c.in_err-parse.ensures))

pub returns : goal.returns
returns c =
    accepted c.in_ok-lexed.ensures.gives (rw c.deref.ensures.value at c.in_ok-expanded.ensures.is) (rw c.deref-2.ensures.value at c.in_ok-parse.ensures)
