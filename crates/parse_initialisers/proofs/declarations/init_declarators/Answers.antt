use Rattle.std.proofs.Common.{◌≡◌, ◌≢◌, ◌∙◌, None, map, rules, arith}
use Rattle.std.specs.Result.{IsErrAnd}
use Rattle.std.proofs.lemmas.List.{map-append}
use Rattle.parse_tokens.specs.declared.faults.ParseFault.TheVariants as fault
use Rattle.parse_reading.specs.ReadingDeclarators.{declarator}
use Rattle.parse_reading.specs.ReadingStatements.{initialiser}
use Rattle.parse_declarators.specs.Named.{named_of}
use Rattle.parse_initialisers.specs.Declarations.{declared_of}
use Rattle.parse_initialisers.specs.Readers.{init_declarators_from}
use Rattle.parse_tokens.proofs.Turns.{one_more, no_more}
use Rattle.parse_tokens.proofs.Turns.{highest}
use Rattle.parse_initialisers.proofs.ReaderAnswers.{err_gives_as}
use Rattle.parse_initialisers.proofs.InitDeclarators.{gathered, from_fail, from_no_end, from_end, from_no_next, from_go, from_none}
use Rattle.parse_initialisers.proofs.declarations.init_declarators.Goals as goal

pub loop-turn-preserved : goal.loop-turn-preserved
loop-turn-preserved c =
    let e = one_more (λ n. gathered c.loop-turn.found.trees (map declared_of c.loop-turn.found.declared) c.loop-turn.height
    (init_declarators_from (declarator c.args.depth) (initialiser c.args.depth) n
    (named_of c.loop-turn.named.tree) c.loop-turn.named.height c.loop-turn.tokens))
    _ c.loop-turn._turn c.loop-turn-test.true c.loop-turn.invariant.reads in
    let trees = c.in_ok-push.ensures in
    let names = c.in_ok-push-2.ensures in
    let higher = c.max-height.ensures ∙ highest c.loop-turn.height c.in_ok-next.next.height in
    let ends = rw c.if-branch.false at c.in_ok-take_declarators_end.ensures.reads in
    record {
      low = omega (arith, higher, c.in_ok-next.ensures.low, c.loop-turn.invariant.low);
      next_low = omega (arith, c.in_ok-named.ensures.few);
      reads =
          e ∙ rw (trees.ok, names.ok, higher, map-append)
          (from_go _ _ _ _ _ _ _ _ _ _ _ _ c.in_ok-next.ensures.reads ends c.in_ok-named.ensures.reads);
    }

pub returns-in_err-next-clause-reads : goal.returns-in_err-next-clause-reads
returns-in_err-next-clause-reads c =
    let e = one_more (λ n. gathered c.loop-turn.found.trees (map declared_of c.loop-turn.found.declared) c.loop-turn.height
    (init_declarators_from (declarator c.args.depth) (initialiser c.args.depth) n
    (named_of c.loop-turn.named.tree) c.loop-turn.named.height c.loop-turn.tokens))
    _ c.loop-turn._turn c.loop-turn-test.true c.loop-turn.invariant.reads in
    let none : c.in_err-next.field-0.0 ≢ fault.NoMemory
    → init_declarators_from (declarator c.args.depth) (initialiser c.args.depth) c.args.turns
    (named_of c.args.first.tree) c.args.first.height c.args.tokens.now ≡ None =
    λ other. e ∙ from_fail _ _ _ _ _ _ _ _ _ (c.in_err-next.ensures.reads other) in
    search (rules, none)

pub returns-in_err-take_declarators_end-clause-reads : goal.returns-in_err-take_declarators_end-clause-reads
returns-in_err-take_declarators_end-clause-reads c =
    let e = one_more (λ n. gathered c.loop-turn.found.trees (map declared_of c.loop-turn.found.declared) c.loop-turn.height
    (init_declarators_from (declarator c.args.depth) (initialiser c.args.depth) n
    (named_of c.loop-turn.named.tree) c.loop-turn.named.height c.loop-turn.tokens))
    _ c.loop-turn._turn c.loop-turn-test.true c.loop-turn.invariant.reads in
    let none : c.in_err-take_declarators_end.field-0.0 ≢ fault.NoMemory
    → init_declarators_from (declarator c.args.depth) (initialiser c.args.depth) c.args.turns
    (named_of c.args.first.tree) c.args.first.height c.args.tokens.now ≡ None =
    λ other. e ∙ from_no_end _ _ _ _ _ _ _ _ _ _ c.in_ok-next.ensures.reads (c.in_err-take_declarators_end.ensures.reads other) in
    search (rules, none)

pub returns-then-branch-clause-reads : goal.returns-then-branch-clause-reads
returns-then-branch-clause-reads c =
    let e = one_more (λ n. gathered c.loop-turn.found.trees (map declared_of c.loop-turn.found.declared) c.loop-turn.height
    (init_declarators_from (declarator c.args.depth) (initialiser c.args.depth) n
    (named_of c.loop-turn.named.tree) c.loop-turn.named.height c.loop-turn.tokens))
    _ c.loop-turn._turn c.loop-turn-test.true c.loop-turn.invariant.reads in
    let trees = c.in_ok-push.ensures in
    let names = c.in_ok-push-2.ensures in
    let higher = c.max-height.ensures ∙ highest c.loop-turn.height c.in_ok-next.next.height in
    let ends = rw c.if-branch.true at c.in_ok-take_declarators_end.ensures.reads in
    e ∙ rw (trees.ok, names.ok, higher, map-append) (from_end _ _ _ _ _ _ _ _ _ _ _ c.in_ok-next.ensures.reads ends)

pub returns-in_err-named-clause-reads : goal.returns-in_err-named-clause-reads
returns-in_err-named-clause-reads c =
    let e = one_more (λ n. gathered c.loop-turn.found.trees (map declared_of c.loop-turn.found.declared) c.loop-turn.height
    (init_declarators_from (declarator c.args.depth) (initialiser c.args.depth) n
    (named_of c.loop-turn.named.tree) c.loop-turn.named.height c.loop-turn.tokens))
    _ c.loop-turn._turn c.loop-turn-test.true c.loop-turn.invariant.reads in
    let ends = rw c.if-branch.false at c.in_ok-take_declarators_end.ensures.reads in
    let none : c.in_err-named.field-0.0 ≢ fault.NoMemory
    → init_declarators_from (declarator c.args.depth) (initialiser c.args.depth) c.args.turns
    (named_of c.args.first.tree) c.args.first.height c.args.tokens.now ≡ None =
    λ other. e ∙ from_no_next _ _ _ _ _ _ _ _ _ _ _ c.in_ok-next.ensures.reads ends (c.in_err-named.ensures.reads other) in
    let same : IsErrAnd c.from_residual-in_err-named.result (λ f. c.in_err-named.field-0.0 ≡ f) = search rules in
    err_gives_as _ _ _ _ _ same none

pub returns-clause-reads : goal.returns-clause-reads
returns-clause-reads c =
    let e = no_more (λ n. gathered c.loop-turn.found.trees (map declared_of c.loop-turn.found.declared) c.loop-turn.height
    (init_declarators_from (declarator c.args.depth) (initialiser c.args.depth) n
    (named_of c.loop-turn.named.tree) c.loop-turn.named.height c.loop-turn.tokens))
    _ c.loop-turn._turn c.loop-turn-test.false c.loop-turn.invariant.reads in
    λ other. e ∙ from_none _ _ _ _ _ _ _ _
