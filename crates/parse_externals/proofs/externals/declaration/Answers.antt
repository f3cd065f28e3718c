use Rattle.std.proofs.Common.{◌≡◌, ◌≢◌, None, rules}
use Rattle.std.specs.Result.{IsErrAnd}
use Rattle.parse_tokens.specs.declared.faults.ParseFault.TheVariants as fault
use Rattle.parse_reading.specs.Reading.{found}
use Rattle.parse_leaves.specs.Counts.{specs_of}
use Rattle.parse_initialisers.proofs.ReaderAnswers.{err_gives_as}
use Rattle.parse_externals.proofs.Behind.{declaration_fails, declaration_body, declaration_rest}
use Rattle.parse_reading.specs.ReadingFile.{body, declaration}
use Rattle.parse_externals.proofs.externals.declaration.Goals as goal

pub returns-then-takes_brace : goal.returns-then-takes_brace
unfolding body
returns-then-takes_brace c =
    let first = rw c.in_ok-specs.ensures.ok.1 at c.declarator-first.ensures.reads in
    let given = rw (c.place-start.ensures, c.in_ok-specs.ensures.ok.0) at c.function.ensures in
    rw (declaration_body _ _ _ _ _ _ first c.if-takes_brace.ensures) given

pub returns-else-takes_brace : goal.returns-else-takes_brace
returns-else-takes_brace c =
    let first = rw c.in_ok-specs.ensures.ok.1 at c.declarator-first.ensures.reads in
    let given = rw (c.left-turns.ensures.all, c.in_ok-specs.ensures.ok.0) at c.declared.ensures in
    rw (declaration_rest _ _ _ _ _ _ first c.if-takes_brace.ensures) given

pub returns-in_err-specs : goal.returns-in_err-specs
returns-in_err-specs c =
    let missed = rw c.in_err-specs.ensures.err at c.declarator-first.ensures.reads in
    let none : c.in_err-specs.field-0.0 ≢ fault.NoMemory
    → declaration c.args.depth c.args.place (found (specs_of c.args.specs.tree) c.args.specs.height c.args.tokens.now)
    c.args.tokens.now ≡ None =
    λ other. declaration_fails _ _ _ _ (missed other) in
    let same : IsErrAnd c.from_residual.result (λ f. c.in_err-specs.field-0.0 ≡ f) = search rules in
    err_gives_as _ _ _ _ _ same none
