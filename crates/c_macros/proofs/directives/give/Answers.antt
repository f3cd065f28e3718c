use Rattle.std.proofs.lemmas.Result.{err_from_is_err_and}
use Rattle.c_macros.proofs.DirectiveAnswers.{gives_nothing, gives_one, gives_fault}
use Rattle.c_macros.proofs.directives.give.Goals as goal

pub returns-in_err-token : goal.returns-in_err-token
returns-in_err-token c = λ from st n g.
    let p = err_from_is_err_and c.from_residual.result c.from_residual.ensures.1 in
    rw (p.1, p.2) (gives_fault from c.args.count st n c.args.done.now.items c.in_err-token.field-0.0 c.args.done.now.items
    (rw c.in_err-token.was at g))

pub returns-in_ok-push : goal.returns-in_ok-push
returns-in_ok-push c = λ from st n g.
    gives_one from c.args.count st n c.args.done.now.items c.in-Some.token c.push.new.self.items
    (rw (c.in_ok-token.was, c.in-Some.is) at g) c.in_ok-push.ensures.items

pub returns-in_default : goal.returns-in_default
returns-in_default c =
    λ from st n g. gives_nothing from c.args.count st n c.args.done.now.items (rw (c.in_ok-token.was, c.in_default.is) at g)
