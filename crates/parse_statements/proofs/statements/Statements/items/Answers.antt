use Rattle.std.proofs.Common.{Option, List, ap, sym, ◌∙◌, subst}
use Rattle.c_tree.specs.declared.statements.Stmt.{Stmt}
use Rattle.parse_reading.specs.Reading.{Read, prepended, expression}
use Rattle.parse_reading.specs.ReadingStatements as spec
use Rattle.parse_tokens.specs.Gives.{Gives}
use Rattle.parse_tokens.proofs.Turns.{prepended-nothing}
use Rattle.parse_initialisers.specs.Readers.{locals}
use Rattle.parse_statements.proofs.statements.Statements.items.Goals as goal

pub returns-clause-reads : goal.returns-clause-reads
returns-clause-reads g c =
    let n = c.args.self.now.depth in
    let s = c.args.tokens.now in
    let e = ap (λ xs. prepended xs 0 (spec.items (expression n) (locals n) (spec.statement n) c.left-turns.result s)) c.new.ensures
    ∙ sym (prepended-nothing (spec.items (expression n) (locals n) (spec.statement n) c.left-turns.result s))
    ∙ ap (λ m. spec.items (expression n) (locals n) (spec.statement n) m s) c.left-turns.ensures.all in
    let P : Option (Read (List Stmt)) → Type 0 = λ r. Gives r c.braced.result c.braced.new.tokens in
    subst P e c.braced.ensures.reads
