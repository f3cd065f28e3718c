use Rattle.std.proofs.Common.{◌≡◌, ℕ, Option, Some, None, List, Bool, true, false, ap}
use Rattle.c_tree.specs.declared.nodes.Expr.{Expr}
use Rattle.parse_meaning.specs.Terminals.{Lexeme}
use Rattle.parse_reading.specs.Reading.{Read}
use Rattle.parse_reading.specs.ReadingStatements.{ended, optional_by}
use Rattle.parse_statements.specs.Lists.{taken}
use Rattle.parse_statements.proofs.optional.optional.Goals as goal

not_taken : (after : List Lexeme → Option (List Lexeme)) (sub : ℕ → List Lexeme → Option (Read Expr)) (r : Option (List Lexeme))
    (s t : List Lexeme) →
    taken r s ≡ (false, t) → optional_by after sub r s ≡ ended after sub t
not_taken after sub None s t e = ap (λ (x : Bool × List Lexeme). ended after sub x.1) e
not_taken after sub (Some u) s t e = let other : true ≡ false = ap (λ (x : Bool × List Lexeme). x.0) e in cc

pub returns-else-eat-clause-reads : goal.returns-else-eat-clause-reads
returns-else-eat-clause-reads c = rw (not_taken _ _ _ _ _ c.if-eat.ensures) c.ended.ensures.reads
