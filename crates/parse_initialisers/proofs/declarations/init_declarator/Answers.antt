use Rattle.std.proofs.Common.{◌≡◌, ◌≢◌, None, rules}
use Rattle.std.specs.Result.{IsErrAnd}
use Rattle.parse_tokens.specs.declared.faults.ParseFault.TheVariants as fault
use Rattle.parse_reading.specs.ReadingDeclarators.{declarator}
use Rattle.parse_reading.specs.ReadingStatements.{initialiser}
use Rattle.parse_declarators.specs.Named.{named_of}
use Rattle.parse_initialisers.specs.Readers.{init_declarator_from}
use Rattle.parse_initialisers.proofs.ReaderAnswers.{err_gives_as}
use Rattle.parse_initialisers.proofs.InitDeclarators.{from_no_lists, from_no_init, from_parts}
use Rattle.parse_initialisers.proofs.declarations.init_declarator.Goals as goal

pub returns-in_err-named-clause-reads : goal.returns-in_err-named-clause-reads
returns-in_err-named-clause-reads c =
    let missed = rw c.in_err-named.ensures.err at c.attribute_lists-lists.ensures in
    let none : c.in_err-named.field-0.0 ≢ fault.NoMemory
    → init_declarator_from (declarator c.args.depth) (initialiser c.args.depth)
    (named_of c.args.first.tree) c.args.first.height c.args.tokens.now ≡ None =
    λ other. from_no_lists _ _ _ _ _ (missed other) in
    let same : IsErrAnd c.from_residual.result (λ f. c.in_err-named.field-0.0 ≡ f) = search rules in
    err_gives_as _ _ _ _ _ same none

pub returns-in_err-declarator-clause-reads : goal.returns-in_err-declarator-clause-reads
returns-in_err-declarator-clause-reads c =
    let lists = rw c.in_ok-named.ensures.ok.1 at c.attribute_lists-lists.ensures in
    let inner = rw c.in_err-declarator.ensures.err at c.both-parts.ensures.err in
    let missed = rw inner at c.init_part-init.ensures.reads in
    let none : c.in_err-declarator.field-0.0 ≢ fault.NoMemory
    → init_declarator_from (declarator c.args.depth) (initialiser c.args.depth)
    (named_of c.args.first.tree) c.args.first.height c.args.tokens.now ≡ None =
    λ other. from_no_init _ _ _ _ _ _ _ lists (missed other) in
    let same : IsErrAnd c.from_residual-in_err-declarator.result (λ f. c.in_err-declarator.field-0.0 ≡ f) = search rules in
    err_gives_as _ _ _ _ _ same none

pub returns-clause-reads : goal.returns-clause-reads
returns-clause-reads c =
    let lists = rw c.in_ok-named.ensures.ok.1 at c.attribute_lists-lists.ensures in
    let outer = c.in_ok-declarator.ensures.ok in
    let inner = rw outer.1 at c.both-parts.ensures.ok in
    let init = rw inner.1 at c.init_part-init.ensures.reads in
    rw (c.initialised.ensures, inner.0, outer.0, c.in_ok-named.ensures.ok.0) (from_parts _ _ _ _ _ _ _ _ lists init)
