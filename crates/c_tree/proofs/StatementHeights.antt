-- The height of each initialiser and statement, by its parts.
use Rattle.std.proofs.Common.{◌≡◌, ℕ, suc, max, List, [], ◌∷◌, map, Option, Some, None, sym, ap, ◌∙◌}
use Rattle.std.specs.Option.{option_map}
use Rattle.fc_base.specs.declared.refusals.Place.{Place}
use Rattle.c_tree.specs.declared.nodes.Expr.{Expr}
use Rattle.c_tree.specs.declared.nodes.Spec.{Spec}
use Rattle.c_tree.specs.declared.statements.ForHead.{ForHead}
use Rattle.c_tree.specs.declared.statements.Init.{Init}
use Rattle.c_tree.specs.declared.statements.Init.TheFolds.{fold-roll-Init}
use Rattle.c_tree.specs.declared.statements.Init.TheVariants as init
use Rattle.c_tree.specs.declared.statements.InitDeclarator.{InitDeclarator}
use Rattle.c_tree.specs.declared.statements.Stmt.{Stmt}
use Rattle.c_tree.specs.declared.statements.Stmt.TheFolds.{fold-roll-Stmt}
use Rattle.c_tree.specs.declared.statements.Stmt.TheVariants as st
use Rattle.c_tree.specs.Heights.{highest, optional_height, expr_height, init_layer, init_height, declaration_height, optional_expr_height, head_height, stmt_layer, stmt_height}

pub init_height-Expr : (x : Expr) → init_height (init.Expr x) ≡ expr_height x
init_height-Expr x = ap init_height (sym (init.rolls-Expr x)) ∙ fold-roll-Init ℕ init_layer _

pub init_height-List : (xs : List Init) (l : Place) → init_height (init.List xs l) ≡ suc (highest (map init_height xs))
init_height-List xs l = ap init_height (sym (init.rolls-List xs l)) ∙ fold-roll-Init ℕ init_layer _

pub stmt_height-Block : (xs : List Stmt) (l : Place) → stmt_height (st.Block xs l) ≡ suc (highest (map stmt_height xs))
stmt_height-Block xs l = ap stmt_height (sym (st.rolls-Block xs l)) ∙ fold-roll-Stmt ℕ stmt_layer _

pub stmt_height-Declare : (xs : List Spec) (ys : List InitDeclarator) (l : Place) → stmt_height (st.Declare xs ys l) ≡ suc (declaration_height xs ys)
stmt_height-Declare xs ys l = ap stmt_height (sym (st.rolls-Declare xs ys l)) ∙ fold-roll-Stmt ℕ stmt_layer _

pub stmt_height-Expr : (x : Option Expr) (l : Place) → stmt_height (st.Expr x l) ≡ suc (optional_expr_height x)
stmt_height-Expr x l = ap stmt_height (sym (st.rolls-Expr x l)) ∙ fold-roll-Stmt ℕ stmt_layer _

pub stmt_height-If : (x : Expr) (y : Stmt) (z : Option Stmt) (l : Place) → stmt_height (st.If x y z l) ≡ suc (max (expr_height x) (max (stmt_height y) (optional_height (option_map stmt_height z))))
stmt_height-If x y None l = ap stmt_height (sym (st.rolls-If x y None l)) ∙ fold-roll-Stmt ℕ stmt_layer _
stmt_height-If x y (Some z) l = ap stmt_height (sym (st.rolls-If x y (Some z) l)) ∙ fold-roll-Stmt ℕ stmt_layer _

pub stmt_height-While : (x : Expr) (y : Stmt) (l : Place) → stmt_height (st.While x y l) ≡ suc (max (expr_height x) (stmt_height y))
stmt_height-While x y l = ap stmt_height (sym (st.rolls-While x y l)) ∙ fold-roll-Stmt ℕ stmt_layer _

pub stmt_height-Do : (y : Stmt) (x : Expr) (l : Place) → stmt_height (st.Do y x l) ≡ suc (max (stmt_height y) (expr_height x))
stmt_height-Do y x l = ap stmt_height (sym (st.rolls-Do y x l)) ∙ fold-roll-Stmt ℕ stmt_layer _

pub stmt_height-For : (h : ForHead) (x : Option Expr) (y : Option Expr) (z : Stmt) (l : Place) → stmt_height (st.For h x y z l) ≡ suc (highest (head_height h ∷ optional_expr_height x ∷ optional_expr_height y ∷ stmt_height z ∷ []))
stmt_height-For h x y z l = ap stmt_height (sym (st.rolls-For h x y z l)) ∙ fold-roll-Stmt ℕ stmt_layer _

pub stmt_height-Switch : (x : Expr) (ys : List Stmt) (l : Place) → stmt_height (st.Switch x ys l) ≡ suc (max (expr_height x) (highest (map stmt_height ys)))
stmt_height-Switch x ys l = ap stmt_height (sym (st.rolls-Switch x ys l)) ∙ fold-roll-Stmt ℕ stmt_layer _

pub stmt_height-Break : (l : Place) → stmt_height (st.Break l) ≡ 1
stmt_height-Break l = ap stmt_height (sym (st.rolls-Break l)) ∙ fold-roll-Stmt ℕ stmt_layer _

pub stmt_height-Continue : (l : Place) → stmt_height (st.Continue l) ≡ 1
stmt_height-Continue l = ap stmt_height (sym (st.rolls-Continue l)) ∙ fold-roll-Stmt ℕ stmt_layer _

pub stmt_height-Return : (x : Option Expr) (l : Place) → stmt_height (st.Return x l) ≡ suc (optional_expr_height x)
stmt_height-Return x l = ap stmt_height (sym (st.rolls-Return x l)) ∙ fold-roll-Stmt ℕ stmt_layer _

pub stmt_height-Case : (x : Expr) (l : Place) → stmt_height (st.Case x l) ≡ suc (expr_height x)
stmt_height-Case x l = ap stmt_height (sym (st.rolls-Case x l)) ∙ fold-roll-Stmt ℕ stmt_layer _

pub stmt_height-Default : (l : Place) → stmt_height (st.Default l) ≡ 1
stmt_height-Default l = ap stmt_height (sym (st.rolls-Default l)) ∙ fold-roll-Stmt ℕ stmt_layer _
