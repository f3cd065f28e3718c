-- The forms in which an expression can be asked for.
use Rattle.std.specs.Prelude.{ℕ, Bool, true, false}
use Rattle.parse_meaning.specs.Expressions.{conditional, assignment, expression}
use Rattle.parse_expr.specs.declared.spans.ExprForm.{ExprForm}
use Rattle.parse_expr.specs.declared.spans.ExprForm.TheVariants.{Full, Assign, Cond}

abbrev pub level_of : ExprForm → ℕ
level_of Full = expression
level_of Assign = assignment
level_of Cond = conditional

-- whether a comma ends the span
abbrev pub ends_at_commas : ExprForm → Bool
ends_at_commas Full = false
ends_at_commas Assign = true
ends_at_commas Cond = true
