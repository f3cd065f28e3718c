-- What holds throughout a body: of the number of each variable that it declares, and of each of its expressions that
-- is no part of another.
use Rattle.std.specs.Prelude.{ℕ, ⊤, All, IfSome}
use Rattle.c_tree.specs.declared.typed.TypedExpr.{TypedExpr}
use Rattle.c_tree.specs.declared.typed.TypedInit.{TypedInit, every-TypedInit}
use Rattle.c_tree.specs.declared.typed.TypedInit.TheOpen.{TypedInit-F}
use Rattle.c_tree.specs.declared.typed.TypedDeclare.{TypedDeclare}
use Rattle.c_tree.specs.declared.typed.TypedForHead.{TypedForHead}
use Rattle.c_tree.specs.declared.typed.TypedForHead.TheVariants as head
use Rattle.c_tree.specs.declared.typed.TypedStmt.{TypedStmt, every-TypedStmt}
use Rattle.c_tree.specs.declared.typed.TypedStmt.TheOpen.{TypedStmt-F}

module _ (OfVariable : ℕ → Type 0) (OfExpr : TypedExpr → Type 0) where
  abbrev pub InInit : TypedInit-F TypedInit → Type 0
  InInit (TypedInit-F.Expr at value) = OfExpr value
  InInit (TypedInit-F.List items place) = ⊤

  abbrev pub InDeclare : TypedDeclare → Type 0
  InDeclare d = OfVariable d.local × IfSome d.init (every-TypedInit InInit)

  abbrev pub InHead : TypedForHead → Type 0
  InHead (head.Evaluate e) = IfSome e OfExpr
  InHead (head.Variables variables) = All InDeclare variables

  abbrev pub InStmt : TypedStmt-F TypedStmt → Type 0
  InStmt (TypedStmt-F.Declare d) = InDeclare d
  InStmt (TypedStmt-F.Expr e place) = IfSome e OfExpr
  InStmt (TypedStmt-F.If test then_part else_part place) = OfExpr test
  InStmt (TypedStmt-F.While test body place) = OfExpr test
  InStmt (TypedStmt-F.Do body test place) = OfExpr test
  InStmt (TypedStmt-F.For head test step body place) = InHead head × IfSome test OfExpr × IfSome step OfExpr
  InStmt (TypedStmt-F.Switch subject items place) = OfExpr subject
  InStmt (TypedStmt-F.Return value place) = IfSome value OfExpr
  InStmt (TypedStmt-F.Case value place) = OfExpr value
  InStmt (TypedStmt-F.Block items place) = ⊤
  InStmt (TypedStmt-F.Break place) = ⊤
  InStmt (TypedStmt-F.Continue place) = ⊤
  InStmt (TypedStmt-F.Default place) = ⊤

  abbrev pub Throughout : TypedStmt → Type 0
  Throughout = every-TypedStmt InStmt
