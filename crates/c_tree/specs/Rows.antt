-- Two functions whose counts are worked by hand.
use Rattle.std.specs.Prelude.{◌≡◌, ℕ, Bool, true, false, List, [], ◌∷◌, codes, Option, Some, None}
use Rattle.fc_base.specs.declared.levels.Width.TheVariants.{W1, W4}
use Rattle.fc_base.specs.declared.refusals.Place.{Place}
use Rattle.c_library.specs.declared.functions.LibFn.TheVariants.{Memset}
use Rattle.c_layout.specs.declared.types.CType.{CType}
use Rattle.c_layout.specs.declared.types.CType.TheVariants.{Int, Array}
use Rattle.c_tree.specs.declared.operators.AssignOp.TheVariants as assign
use Rattle.c_tree.specs.declared.operators.BinaryOp.TheVariants as binary
use Rattle.c_tree.specs.declared.operators.PostfixOp.TheVariants as postfix
use Rattle.c_tree.specs.declared.programs.Counts.{Counts}
use Rattle.c_tree.specs.declared.programs.FnDef.{FnDef}
use Rattle.c_tree.specs.declared.programs.LocalDef.{LocalDef}
use Rattle.c_tree.specs.declared.typed.Callee.TheVariants.{Function, Library}
use Rattle.c_tree.specs.declared.typed.TypedExpr.{TypedExpr}
use Rattle.c_tree.specs.declared.typed.TypedDeclare.{TypedDeclare}
use Rattle.c_tree.specs.declared.typed.TypedInit.{TypedInit}
use Rattle.c_tree.specs.declared.typed.TypedInit.TheVariants as init
use Rattle.c_tree.specs.declared.typed.TypedForHead.TheVariants as head
use Rattle.c_tree.specs.declared.typed.TypedKind.{TypedKind}
use Rattle.c_tree.specs.declared.typed.TypedKind.TheVariants as e
use Rattle.c_tree.specs.declared.typed.TypedStmt.{TypedStmt}
use Rattle.c_tree.specs.declared.typed.TypedStmt.TheVariants as s
use Rattle.c_tree.specs.Weights.{function_counts, weight}

abbrev pub start : Place
start = record { line = 1; col = 1 }

abbrev pub int : CType
int = Int W4 true false false

abbrev pub counted : ℕ → ℕ → ℕ → ℕ → Counts
counted nodes joins vars frame = record { nodes = nodes; joins = joins; vars = vars; frame = frame }

abbrev pub of_int : TypedKind → TypedExpr
of_int kind = record { kind = kind; ctype = int; place = start }

abbrev pub variable : CType → Bool → LocalDef
variable ctype in_register = record { name = codes "v"; ctype = ctype; in_register = in_register }

abbrev pub declared : ℕ → Option TypedInit → TypedDeclare
declared local init = record { local = local; init = init; place = start }

abbrev pub function : Bool → List LocalDef → Counts → TypedStmt → FnDef
function inlined locals counts body =
    record { name = codes "f"; params = []; result = int; inlined = inlined; alloc_size = None; locals = locals; counts = counts; body = body }

-- `int main(void) { char b[8]; memset(b, 65, 8); return 3; }`, where b and 8 are converted in the call
abbrev pub fill : TypedStmt
fill = s.Expr (Some (of_int (e.Call (Library Memset)
    (of_int (e.Cast (of_int (e.Local 0)) true) ∷ of_int (e.Number 65) ∷ of_int (e.Cast (of_int (e.Number 8)) true) ∷ [])))) start

abbrev pub form : FnDef
form = function false (variable (Array (Int W1 true true false) 8) false ∷ []) (counted 9 1 0 16)
    (s.Block (s.Declare (declared 0 None) ∷ fill ∷ s.Return (Some (of_int (e.Number 3))) start ∷ []) start)

-- an inline function that is known by its counts
abbrev pub inlined : FnDef
inlined = function true [] (counted 5 1 1 32) (s.Block [] start)

-- `int f(int n) { static int t; for (int i = 0; i < n; i++) switch (i) { case 1: t += g(i); break; default: ; } return t; }`,
-- where g is that inline function
abbrev pub labelled : List TypedStmt
labelled =
    s.Case (of_int (e.Number 1)) start ∷
    s.Expr (Some (of_int (e.Assign assign.Add (of_int (e.Object 0)) (of_int (e.Call (Function 1) (of_int (e.Local 1) ∷ [])))))) start ∷
    s.Break start ∷ s.Default start ∷ s.Expr None start ∷ []

abbrev pub repeated : TypedStmt
repeated = s.For (head.Variables (declared 1 (Some (init.Expr 0 (of_int (e.Number 0)))) ∷ []))
    (Some (of_int (e.Binary binary.Less (of_int (e.Local 1)) (of_int (e.Local 0)))))
    (Some (of_int (e.Postfix postfix.Increment (of_int (e.Local 1)))))
    (s.Switch (of_int (e.Local 1)) labelled start) start

abbrev pub counting : FnDef
counting = function false (variable int true ∷ variable int true ∷ []) (counted 28 8 3 32)
    (s.Block (repeated ∷ s.Return (Some (of_int (e.Object 0))) start ∷ []) start)

-- their counts and weights
abbrev pub HasCounts : List FnDef → FnDef → ℕ → Type 0
HasCounts functions f number = (f.counts ≡ function_counts [] functions f) × (weight f.counts ≡ number)
