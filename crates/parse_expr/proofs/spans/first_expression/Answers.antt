use Rattle.std.proofs.Common.{◌≡◌, ◌<◌, ◌∙◌, ℕ, true, false, nat_eq, sym, arith}
use Rattle.std.proofs.lemmas.Bool.Decides.{nat_tests}
use Rattle.std.proofs.lemmas.Result.{err_from_is_err_and}
use Rattle.c_tree.specs.declared.nodes.Expr.{Expr}
use Rattle.parse_meaning.specs.Spans.{span, Spells}
use Rattle.parse_tokens.specs.declared.faults.ParseFault.TheVariants as fault
use Rattle.parse_expr.specs.Forms.{level_of, ends_at_commas}
use Rattle.parse_expr.proofs.SpanSteps.{front_read, read_spells, none_spelled, more_left}
use Rattle.parse_expr.proofs.spans.first_expression.Goals as goal

none_left : (a : ℕ) → nat_eq a 0 ≡ true → a ≡ 0
none_left a e = grind (arith, nat_tests)

some_left : (a : ℕ) → nat_eq a 0 ≡ false → 0 < a
some_left a e = grind (arith, nat_tests)

pub returns-in_err-found-clause-none : goal.returns-in_err-found-clause-none
returns-in_err-found-clause-none c =
    let form = c.args.form in
    let whole = span (ends_at_commas form) 0 0 c.args.tokens.now in
    let same = front_read c.args.names.now form c.args.tokens.now c.ends_at_commas.result c.level.result c.span_len-len.result
    c.new-rest.result
    c.ends_at_commas.ensures c.level.ensures c.span_len-len.ensures.len c.new-rest.ensures in
    let misses : c.in_err-found.field-0.0 ≡ fault.NoDerivation → (x : Expr) → ¬ (Spells c.args.names.now (level_of form) whole x) =
    λ e. none_spelled c.args.names.now form whole (sym same ∙ c.in_err-found.ensures.reads (λ m. cc (e, m))) in
    let left = err_from_is_err_and c.from_residual.result c.from_residual.ensures.1 in
    rw left.1 (λ e. misses (sym left.2 ∙ e))

pub returns-clause-expression : goal.returns-clause-expression
returns-clause-expression c =
    let form = c.args.form in
    let whole = span (ends_at_commas form) 0 0 c.args.tokens.now in
    let same = front_read c.args.names.now form c.args.tokens.now c.ends_at_commas.result c.level.result c.span_len-len.result
    c.new-rest.result
    c.ends_at_commas.ensures c.level.ensures c.span_len-len.ensures.len c.new-rest.ensures in
    let none = none_left c.left.result c.in_ok-tree.ensures.ok.1 in
    rw c.in_ok-tree.ensures.ok.0
    (read_spells c.args.names.now form whole c.in_ok-found.found.tree c.in_ok-found.found.height c.expression.new.tokens
    (omega (arith, c.left.ensures.all, none))
    (sym same ∙ c.in_ok-found.ensures.reads))

pub returns-in_err-tree-clause-none : goal.returns-in_err-tree-clause-none
returns-in_err-tree-clause-none c =
    let form = c.args.form in
    let whole = span (ends_at_commas form) 0 0 c.args.tokens.now in
    let same = front_read c.args.names.now form c.args.tokens.now c.ends_at_commas.result c.level.result c.span_len-len.result
    c.new-rest.result
    c.ends_at_commas.ensures c.level.ensures c.span_len-len.ensures.len c.new-rest.ensures in
    let some = some_left c.left.result c.in_err-tree.ensures.err.1 in
    let left = err_from_is_err_and c.from_residual-in_err-tree.result c.from_residual-in_err-tree.ensures.1 in
    rw left.1 (λ _. more_left c.args.names.now form whole c.in_ok-found.found.tree c.in_ok-found.found.height c.expression.new.tokens
    (omega (arith, c.left.ensures.all, some))
    (sym same ∙ c.in_ok-found.ensures.reads))
