use Rattle.std.proofs.Common.{◌≡◌, ◌≢◌, ◌∙◌, None, rules, arith}
use Rattle.std.specs.Result.{IsErrAnd}
use Rattle.parse_reading.specs.Reading.{prepended}
use Rattle.parse_tokens.specs.declared.faults.ParseFault.TheVariants as fault
use Rattle.parse_statements.specs.Lists.{stmts_of}
use Rattle.parse_tokens.proofs.Turns.{one_more, no_more}
use Rattle.parse_statements.proofs.Braced.{err_gives, braced_end, braced_fail, braced_go, braced_over}
use Rattle.parse_statements.proofs.statements.Statements.braced.Goals as goal

pub returns-then-take_body_end-clause-reads : goal.returns-then-take_body_end-clause-reads
returns-then-take_body_end-clause-reads g c =
    let e = one_more (λ n. prepended c.loop-turn.trees c.loop-turn.height
    (stmts_of c.args.self.now.depth c.args.beside n c.loop-turn.tokens)) _ c.loop-turn._turn c.loop-turn-test.true
    c.loop-turn.invariant.reads in
    rw c.finish.ensures (e ∙ braced_end _ _ _ _ _ _ _ c.if-take_body_end.ensures.reads)

pub returns-in_err-next-clause-reads : goal.returns-in_err-next-clause-reads
returns-in_err-next-clause-reads g c =
    let e = one_more (λ n. prepended c.loop-turn.trees c.loop-turn.height
    (stmts_of c.args.self.now.depth c.args.beside n c.loop-turn.tokens)) _ c.loop-turn._turn c.loop-turn-test.true
    c.loop-turn.invariant.reads in
    let none : c.in_err-next.field-0.0 ≢ fault.NoMemory
    → prepended c.args.first.tree c.args.first.height
    (stmts_of c.args.self.now.depth c.args.beside c.args.turns c.args.tokens.now) ≡ None =
    λ other. e ∙ braced_fail _ _ _ _ _ _ _ c.if-take_body_end.ensures.reads (c.in_err-next.ensures.reads other) in
    let same : IsErrAnd c.from_residual.result (λ f. c.in_err-next.field-0.0 ≡ f) = search rules in
    err_gives _ _ _ _ same none

pub loop-turn-preserved : goal.loop-turn-preserved
loop-turn-preserved g c =
    let e = one_more (λ n. prepended c.loop-turn.trees c.loop-turn.height
    (stmts_of c.args.self.now.depth c.args.beside n c.loop-turn.tokens)) _ c.loop-turn._turn c.loop-turn-test.true
    c.loop-turn.invariant.reads in
    let grown = c.in_ok-push.ensures in
    record {
      low = omega (arith, c.max-height.ensures, c.in_ok-next.ensures.low, c.loop-turn.invariant.low);
      reads =
          e ∙ rw (grown.ok, c.max-height.ensures) (braced_go _ _ _ _ _ _ _ _ c.if-take_body_end.ensures.reads c.in_ok-next.ensures.reads);
    }

pub returns-then-take_body_end-2-clause-reads : goal.returns-then-take_body_end-2-clause-reads
returns-then-take_body_end-2-clause-reads g c =
    let e = no_more (λ n. prepended c.loop-turn.trees c.loop-turn.height
    (stmts_of c.args.self.now.depth c.args.beside n c.loop-turn.tokens)) _ c.loop-turn._turn c.loop-turn-test.false
    c.loop-turn.invariant.reads in
    rw c.finish-then-take_body_end-2.ensures (e ∙ braced_end _ _ _ _ _ _ _ c.if-take_body_end-2.ensures.reads)

pub returns-else-take_body_end-2-clause-reads : goal.returns-else-take_body_end-2-clause-reads
returns-else-take_body_end-2-clause-reads g c =
    let e = no_more (λ n. prepended c.loop-turn.trees c.loop-turn.height
    (stmts_of c.args.self.now.depth c.args.beside n c.loop-turn.tokens)) _ c.loop-turn._turn c.loop-turn-test.false
    c.loop-turn.invariant.reads in
    λ other. e ∙ braced_over _ _ _ _ _ _ c.if-take_body_end-2.ensures.reads
