use Rattle.std.proofs.Common.{◌≡◌, ◌≢◌, None, rules}
use Rattle.std.specs.Result.{IsErrAnd}
use Rattle.parse_tokens.specs.declared.faults.ParseFault.TheVariants as fault
use Rattle.parse_leaves.specs.Counts.{specs_of}
use Rattle.parse_externals.specs.Externals.{declared_from}
use Rattle.parse_declarators.specs.Named.{named_of}
use Rattle.parse_initialisers.proofs.ReaderAnswers.{err_gives_as}
use Rattle.parse_externals.proofs.Behind.{declared_read, declared_fails}
use Rattle.parse_externals.proofs.externals.declared.Goals as goal

pub returns : goal.returns
returns c =
    let read = rw c.in_ok-specs.ensures.ok.1 at c.init_declarators-inits.ensures.reads in
    let names = rw c.in_ok-declaration.ensures.ok.1 at c.type_names-names.ensures.names in
    let within = c.within.ensures c.init_declarators-inits.new.tokens in
    let given = rw (
      c.in_ok-declaration.ensures.ok.0,
      c.declaration_of-declaration.ensures,
      c.finish.ensures,
      names,
      c.as_slice.ensures,
      c.in_ok-specs.ensures.ok.0,
    ) at within in
    rw (declared_read _ _ _ _ _ _ _ _ _ read) given

pub returns-in_err-specs : goal.returns-in_err-specs
returns-in_err-specs c =
    let missed = rw c.in_err-specs.ensures.err at c.init_declarators-inits.ensures.reads in
    let none : c.in_err-specs.field-0.0 ≢ fault.NoMemory
    → declared_from c.args.depth c.args.place (specs_of c.args.specs.tree) c.args.specs.height c.args.turns
    (named_of c.args.first.tree) c.args.first.height c.args.tokens.now ≡ None =
    λ other. declared_fails _ _ _ _ _ _ _ _ (missed other) in
    let same : IsErrAnd c.from_residual.result (λ f. c.in_err-specs.field-0.0 ≡ f) = search rules in
    err_gives_as _ _ _ _ _ same none
