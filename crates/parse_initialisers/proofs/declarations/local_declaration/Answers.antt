use Rattle.std.proofs.Common.{◌≡◌, ◌≢◌, None, ap, ◌∙◌, map, rules}
use Rattle.std.specs.Result.{IsErrAnd}
use Rattle.parse_tokens.specs.declared.faults.ParseFault.TheVariants as fault
use Rattle.parse_meaning.specs.Statements.{are_objects}
use Rattle.parse_initialisers.specs.Declarations.{declared_of, local_of}
use Rattle.parse_initialisers.specs.Readers.{locals}
use Rattle.parse_initialisers.proofs.ReaderAnswers.{err_gives_as, kept_gives_as}
use Rattle.parse_initialisers.proofs.Locals.{local_no_first, local_fail, local_read}
use Rattle.parse_initialisers.proofs.declarations.local_declaration.Goals as goal

pub returns-in_err-listed-clause-reads : goal.returns-in_err-listed-clause-reads
returns-in_err-listed-clause-reads c =
    let missed = rw c.in_err-listed.ensures.err at c.declarator-first.ensures.reads in
    let none : c.in_err-listed.field-0.0 ≢ fault.NoMemory → locals c.args.depth c.args.tokens.now ≡ None =
    λ other. local_no_first _ _ _ _ c.in_ok-list.ensures.reads (missed other) in
    let same : IsErrAnd c.from_residual-in_err-listed.result (λ f. c.in_err-listed.field-0.0 ≡ f) = search rules in
    err_gives_as _ _ _ _ _ same none

pub returns-in_err-specs-clause-reads : goal.returns-in_err-specs-clause-reads
returns-in_err-specs-clause-reads c =
    let first = rw c.in_ok-listed.ensures.ok.1 at c.declarator-first.ensures.reads in
    let missed = rw (c.left-turns.ensures.all, c.in_err-specs.ensures.err) at c.init_declarators-found.ensures.reads in
    let none : c.in_err-specs.field-0.0 ≢ fault.NoMemory → locals c.args.depth c.args.tokens.now ≡ None =
    λ other. local_fail _ _ _ _ _ c.in_ok-list.ensures.reads first (missed other) in
    let same : IsErrAnd c.from_residual-in_err-specs.result (λ f. c.in_err-specs.field-0.0 ≡ f) = search rules in
    err_gives_as _ _ _ _ _ same none

pub returns-clause-reads : goal.returns-clause-reads
returns-clause-reads c =
    let first = rw c.in_ok-listed.ensures.ok.1 at c.declarator-first.ensures.reads in
    let some = rw (c.left-turns.ensures.all, c.in_ok-specs.ensures.ok.1) at c.init_declarators-found.ensures.reads in
    let test = c.are_objects-holds.ensures ∙ ap (λ l. are_objects (map declared_of l)) c.as_slice.ensures in
    kept_gives_as local_of (locals c.args.depth c.args.tokens.now) _ c.are_objects-holds.result _ _ c.kept.ensures.ok c.kept.ensures.err
    (rw (c.as_local-local.ensures, c.finish.ensures, c.in_ok-specs.ensures.ok.0, c.in_ok-listed.ensures.ok.0)
    (local_read _ _ _ _ _ _ c.in_ok-list.ensures.reads first some _ test))
