use Rattle.std.proofs.Common.{◌≡◌, ◌≢◌, None, rules}
use Rattle.std.specs.Result.{IsErrAnd}
use Rattle.parse_tokens.specs.declared.faults.ParseFault.TheVariants as fault
use Rattle.parse_reading.specs.Reading.{found}
use Rattle.parse_reading.specs.ReadingFile.{body}
use Rattle.parse_leaves.specs.Counts.{specs_of}
use Rattle.parse_declarators.specs.Named.{named_of}
use Rattle.parse_initialisers.proofs.ReaderAnswers.{err_gives_as}
use Rattle.parse_externals.proofs.Behind.{body_read, body_fails}
use Rattle.parse_externals.proofs.externals.function.Goals as goal

pub returns : goal.returns
returns c =
    let outer = c.in_ok-first.ensures.ok in
    let inner = rw outer.1 at c.both-parts.ensures.ok in
    let read = rw inner.1 at c.block_items-items.ensures.reads in
    let names = rw c.in_ok-function.ensures.ok.1 at c.type_names-names.ensures.names in
    let within = c.within.ensures c.block_items-items.new.tokens in
    let given = rw (c.in_ok-function.ensures.ok.0, c.function_of-function.ensures, names, inner.0, outer.0) at within in
    rw (body_read _ _ _ _ _ _ _ read) given

pub returns-in_err-first : goal.returns-in_err-first
returns-in_err-first c =
    let inner = rw c.in_err-first.ensures.err at c.both-parts.ensures.err in
    let missed = rw inner at c.block_items-items.ensures.reads in
    let none : c.in_err-first.field-0.0 ≢ fault.NoMemory
    → body c.args.depth c.args.place (found (specs_of c.args.specs.tree) c.args.specs.height c.args.tokens.now)
    (found (named_of c.args.first.tree) c.args.first.height c.args.tokens.now) c.args.start c.args.tokens.now ≡ None =
    λ other. body_fails _ _ _ _ _ _ (missed other) in
    let same : IsErrAnd c.from_residual.result (λ f. c.in_err-first.field-0.0 ≡ f) = search rules in
    err_gives_as _ _ _ _ _ same none
