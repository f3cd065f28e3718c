-- What an expression does anywhere in it, under `sizeof` too: which functions it calls, and which variables' addresses it takes. Each
-- is a list of numbers that a node makes of those of its operands, so that a node may leave out an operand.
use Rattle.std.specs.Prelude.{ℕ, List, [], ◌∷◌, ◌++◌, flat_map, Option, None, Some}
use Rattle.c_tree.specs.declared.operators.PrefixOp.TheVariants.{Address}
use Rattle.c_tree.specs.declared.typed.Callee.TheVariants.{Function}
use Rattle.c_tree.specs.declared.typed.TypedExpr.{TypedExpr, fold-TypedExpr}
use Rattle.c_tree.specs.declared.typed.TypedKind.TheOpen.{TypedKind-F, TypedExpr-F}

-- those of all the operands, in the order of the text
module _ {A : Type 0} (of : A → List ℕ) where
  abbrev pub gathered : TypedKind-F A A → List ℕ
  gathered (TypedKind-F.Local number) = []
  gathered (TypedKind-F.Object number) = []
  gathered (TypedKind-F.Number value) = []
  gathered (TypedKind-F.Str text) = []
  gathered (TypedKind-F.Comma all) = flat_map of all
  gathered (TypedKind-F.Assign op to from) = of to ++ of from
  gathered (TypedKind-F.Cond test then_part else_part) = of test ++ (of then_part ++ of else_part)
  gathered (TypedKind-F.Binary op a b) = of a ++ of b
  gathered (TypedKind-F.Cast operand added) = of operand
  gathered (TypedKind-F.Prefix op operand) = of operand
  gathered (TypedKind-F.Postfix op operand) = of operand
  gathered (TypedKind-F.SizeofExpr operand) = of operand
  gathered (TypedKind-F.SizeofType ctype) = []
  gathered (TypedKind-F.Index base index) = of base ++ of index
  gathered (TypedKind-F.Call callee args) = flat_map of args
  gathered (TypedKind-F.Member base arrow member) = of base
  gathered (TypedKind-F.SizeCall pointer mode) = of pointer ++ of mode

-- ---- calls

abbrev pub kind_calls : TypedKind-F (List ℕ) (List ℕ) → List ℕ
kind_calls (TypedKind-F.Call (Function number) args) = number ∷ flat_map (λ numbers. numbers) args
kind_calls kind = gathered (λ numbers. numbers) kind

abbrev pub expr_calls : TypedExpr-F (List ℕ) (List ℕ) → List ℕ
expr_calls e = e.kind

-- the numbers of the file's functions that are called
abbrev pub calls : TypedExpr → List ℕ
calls = fold-TypedExpr (List ℕ) (List ℕ) kind_calls expr_calls

-- ---- addresses

-- which variable an operand is, if it is one, and the variables whose addresses are taken in it
pub record Operand : Type 0 where
  pub local : Option ℕ
  pub taken : List ℕ

abbrev pub listed : Option ℕ → List ℕ
listed None = []
listed (Some number) = number ∷ []

abbrev pub kind_takes : TypedKind-F Operand Operand → Operand
kind_takes (TypedKind-F.Local number) = record { local = Some number; taken = [] }
kind_takes (TypedKind-F.Prefix Address of) = record { local = None; taken = listed of.local ++ of.taken }
kind_takes kind = record { local = None; taken = gathered (λ operand. operand.taken) kind }

abbrev pub expr_takes : TypedExpr-F Operand Operand → Operand
expr_takes e = e.kind

-- The numbers of the variables whose addresses are taken. No conversion stands between an `&` and its operand.
abbrev pub taken : TypedExpr → List ℕ
taken e = (fold-TypedExpr Operand Operand kind_takes expr_takes e).taken
