use Rattle.std.proofs.Common.{◌≡◌, ◌∙◌, ◌+◌, suc, length, Option, List, ap, sym, subst, arith}
use Rattle.c_tree.specs.declared.statements.Stmt.{Stmt}
use Rattle.parse_reading.specs.Reading.{Read, prepended}
use Rattle.parse_tokens.specs.Gives.{Gives}
use Rattle.parse_tokens.proofs.Turns.{prepended-nothing}
use Rattle.parse_statements.specs.Lists.{stmts_of}
use Rattle.parse_statements.specs.declared.statements.Beside.TheVariants as beside
use Rattle.parse_statements.proofs.Braced.{cases_begun, cases_none}
use Rattle.parse_statements.proofs.statements.Statements.cases.Goals as goal

pub returns-then-not-begins_cases-clause-reads : goal.returns-then-not-begins_cases-clause-reads
returns-then-not-begins_cases-clause-reads g c _ =
    cases_none c.args.self.now.depth c.args.tokens.now (sym c.begins_cases.ensures ∙ c.if-not-begins_cases.true)

pub returns-clause-reads : goal.returns-clause-reads
returns-clause-reads g c =
    let n = c.args.self.now.depth in
    let s = c.args.tokens.now in
    let many : c.left-turns.result + 1 ≡ suc (length s) = omega (arith, c.left-turns.ensures.all) in
    let e = ap (λ xs. prepended xs 0 (stmts_of n beside.Labels (c.left-turns.result + 1) s)) c.new.ensures
    ∙ sym (prepended-nothing (stmts_of n beside.Labels (c.left-turns.result + 1) s))
    ∙ ap (λ m. stmts_of n beside.Labels m s) many
    ∙ sym (cases_begun n s (sym c.begins_cases.ensures ∙ c.if-not-begins_cases.false)) in
    let P : Option (Read (List Stmt)) → Type 0 = λ r. Gives r c.braced.result c.braced.new.tokens in
    subst P e c.braced.ensures.reads
