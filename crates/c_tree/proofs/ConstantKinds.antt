-- The constant that a conditional expression is, by its operands.
use Rattle.std.proofs.Common.{◌≡◌, List, Some, rules}
use Rattle.c_arithmetic.specs.declared.operators.IntType.{IntType}
use Rattle.c_layout.specs.declared.tags.TagDef.{TagDef}
use Rattle.c_tree.specs.declared.typed.TypedExpr.{TypedExpr, the_lemmas}
use Rattle.c_tree.specs.declared.typed.TypedKind.TheVariants.{Cond}
use Rattle.c_tree.specs.Constants.{chosen, constant}
use Rattle.c_tree.specs.Operators.{int_type}

pub constant-Cond : (tags : List TagDef) (e test a b : TypedExpr) (of : IntType) → e.kind ≡ Cond test a b → int_type e.ctype ≡ Some of →
    constant tags e ≡ chosen (constant tags test) (constant tags a) (constant tags b)
constant-Cond tags e test a b of k t = search (rules, the_lemmas, k, t)
