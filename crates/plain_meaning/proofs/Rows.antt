-- Sources that are worked by the definition: their typed trees, with their events and ends.
use Rattle.std.proofs.Common.{◌≡◌, ℕ, true, false, List, [], ◌∷◌, Some, None, rules}
use Rattle.std.specs.Prelude.{codes}
use Rattle.c_layout.specs.declared.types.CType as ct
use Rattle.c_layout.specs.declared.types.CType.{CType}
use Rattle.c_layout.specs.declared.types.CType.TheVariants.{Void, Ptr}
use Rattle.c_layout.specs.Types.{char, int, unsigned_long}
use Rattle.c_library.specs.declared.functions.LibFn.TheVariants as fn
use Rattle.c_tree.specs.declared.operators.AssignOp.TheVariants.{Plain}
use Rattle.c_tree.specs.declared.operators.BinaryOp.TheVariants.{Equal, Add}
use Rattle.c_tree.specs.declared.operators.PrefixOp.TheVariants.{Address, Indirection}
use Rattle.c_tree.specs.declared.programs.FnDef.{FnDef}
use Rattle.c_tree.specs.declared.programs.LocalDef.{LocalDef}
use Rattle.c_tree.specs.declared.programs.TypedTree.{TypedTree}
use Rattle.c_tree.specs.declared.typed.Callee.TheVariants.{Function, Library}
use Rattle.c_tree.specs.declared.typed.TypedExpr.{TypedExpr}
use Rattle.c_tree.specs.declared.typed.TypedInit as ti
use Rattle.c_tree.specs.declared.typed.TypedInit.TheVariants as init
use Rattle.c_tree.specs.declared.typed.TypedKind as tk
use Rattle.c_tree.specs.declared.typed.TypedKind.{TypedKind}
use Rattle.c_tree.specs.declared.typed.TypedKind.TheVariants as t
use Rattle.c_tree.specs.declared.typed.TypedStmt as ts
use Rattle.c_tree.specs.declared.typed.TypedStmt.{TypedStmt}
use Rattle.c_tree.specs.declared.typed.TypedStmt.TheVariants as s
use Rattle.fc_base.specs.declared.levels.End.TheVariants.{Exit}
use Rattle.fc_base.specs.declared.refusals.Place.{Place}
use Rattle.fc_base.specs.declared.undefined.UndefKind.TheVariants.{Uninitialised, DeadObject, SizeArgument}
use Rattle.run_meaning.specs.Runs.{Ended, Undefined, Going}
use Rattle.run_meaning.specs.Worlds.{Input}
use Rattle.plain_meaning.specs.Programs.{plain}

-- ---- trees

abbrev at : ℕ → ℕ → Place
at line col = record { line = line; col = col }

abbrev x : TypedKind → CType → ℕ → ℕ → TypedExpr
x kind ctype line col = record { kind = kind; ctype = ctype; place = at line col }

abbrev number : ℕ → ℕ → ℕ → TypedExpr
number n line col = x (t.Number n) int line col

abbrev declares : ℕ → ℕ → ℕ → TypedStmt
declares n line col = s.Declare (record { local = n; init = None; place = at line col })

abbrev begins : ℕ → TypedExpr → ℕ → ℕ → TypedStmt
begins n value line col = s.Declare (record { local = n; init = Some (init.Expr 0 value); place = at line col })

abbrev does : TypedExpr → TypedStmt
does e = s.Expr (Some e) e.place

abbrev returns : TypedExpr → ℕ → ℕ → TypedStmt
returns e line col = s.Return (Some e) (at line col)

-- ---- programs

abbrev no_input : Input
no_input = record { bytes = []; answers = [] }

abbrev variable : CType → LocalDef
variable type = record { name = codes "x"; ctype = type; in_register = true }

abbrev in_memory : CType → LocalDef
in_memory type = record { name = codes "x"; ctype = type; in_register = false }

abbrev function_of : List LocalDef → List TypedStmt → FnDef
function_of locals items = record {
  name = codes "f";
  params = [];
  result = int;
  inlined = false;
  alloc_size = None;
  locals = locals;
  counts = record { nodes = 9; joins = 1; vars = 1; frame = 16 };
  body = s.Block items (at 1 16);
}

abbrev program : List FnDef → TypedTree
program functions = record { tags = []; functions = functions; objects = []; main = 0 }

-- `int main(void) { int x; return x; }`
uninitialised :
    plain (program (function_of (variable int ∷ []) (declares 0 1 22 ∷ returns (x (t.Local 0) int 1 32) 1 25 ∷ []) ∷ [])) [] no_input 0
    ≡ ([], Undefined Uninitialised (at 1 32))
uninitialised = search (rules, ct.the_lemmas, tk.the_lemmas, ti.the_lemmas, ts.the_lemmas)

-- int *p; { int x = 3; p = &x; }
-- int *q = p; q = (int *)(void *)(1 ? q : p); q = &*q; return q == p;
abbrev p : ℕ → ℕ → TypedExpr
p line col = x (t.Local 0) (Ptr int) line col

abbrev q : ℕ → ℕ → TypedExpr
q line col = x (t.Local 2) (Ptr int) line col

abbrev sets : TypedExpr → TypedExpr → ℕ → ℕ → TypedStmt
sets to from line col = does (x (t.Assign Plain to from) (Ptr int) line col)

dead :
    plain (program (function_of (variable (Ptr int) ∷ in_memory int ∷ variable (Ptr int) ∷ [])
    (declares 0 1 6 ∷ s.Block
    (begins 1 (number 3 1 19) 1 15 ∷ sets (p 1 22) (x (t.Prefix Address (x (t.Local 1) int 1 27)) (Ptr int) 1 26) 1 24 ∷ []) (at 1 9)
    ∷ begins 2 (p 2 10) 2 6
    ∷ sets (q 2 13)
    (x (t.Cast (x (t.Cast (x (t.Cond (number 1 2 33) (q 2 37) (p 2 41)) (Ptr int) 2 35) false) (Ptr Void) 2 24) false) (Ptr int) 2 17) 2 15
    ∷ sets (q 2 45) (x (t.Prefix Address (x (t.Prefix Indirection (q 2 51)) int 2 50)) (Ptr int) 2 49) 2 47
    ∷ returns (x (t.Binary Equal (q 2 61) (p 2 66)) int 2 63) 2 54 ∷ []) ∷ [])) [] no_input 0
    ≡ ([], Undefined DeadObject (at 2 63))
dead = search (rules, ct.the_lemmas, tk.the_lemmas, ti.the_lemmas, ts.the_lemmas)

-- `int f(void) { }`, and a main that has these statements: what f gives may be discarded, and not used
abbrev calls_f : ℕ → TypedExpr
calls_f col = x (t.Call (Function 1) []) int 1 col

abbrev with_f : List LocalDef → List TypedStmt → TypedTree
with_f locals items = program (function_of locals items ∷ function_of [] [] ∷ [])

-- `f(); (void)f();`
discards :
    plain (with_f [] (does (calls_f 5) ∷ does (x (t.Cast (calls_f 16) false) Void 1 10) ∷ [])) [] no_input 2
    ≡ ([], Ended (Exit 0))
discards = search (rules, ct.the_lemmas, tk.the_lemmas, ti.the_lemmas, ts.the_lemmas)

-- `(1, f());`
behind_comma :
    plain (with_f [] (does (x (t.Comma (number 1 1 2 ∷ calls_f 5 ∷ [])) int 1 3) ∷ [])) [] no_input 1
    ≡ ([], Ended (Exit 0))
behind_comma = search (rules, ct.the_lemmas, tk.the_lemmas, ti.the_lemmas, ts.the_lemmas)

-- `1 ? f() : 2;`
chosen :
    plain (with_f [] (does (x (t.Cond (number 1 1 1) (calls_f 5) (number 2 1 11)) int 1 3) ∷ [])) [] no_input 1
    ≡ ([], Ended (Exit 0))
chosen = search (rules, ct.the_lemmas, tk.the_lemmas, ti.the_lemmas, ts.the_lemmas)

-- `int y; y = f();`
assigned :
    plain (with_f (variable int ∷ [])
    (declares 0 1 5 ∷ does (x (t.Assign Plain (x (t.Local 0) int 1 8) (calls_f 12)) int 1 10) ∷ [])) [] no_input 1
    ≡ ([], Undefined Uninitialised (at 1 10))
assigned = search (rules, ct.the_lemmas, tk.the_lemmas, ti.the_lemmas, ts.the_lemmas)

-- `return f();`
returned : plain (with_f [] (returns (calls_f 8) 1 1 ∷ [])) [] no_input 1 ≡ ([], Undefined Uninitialised (at 1 1))
returned = search (rules, ct.the_lemmas, tk.the_lemmas, ti.the_lemmas, ts.the_lemmas)

-- `int y = f();`
initialised : plain (with_f (variable int ∷ []) (begins 0 (calls_f 9) 1 5 ∷ [])) [] no_input 1 ≡ ([], Undefined Uninitialised (at 1 9))
initialised = search (rules, ct.the_lemmas, tk.the_lemmas, ti.the_lemmas, ts.the_lemmas)

-- `if (f()) ;`
tested :
    plain (with_f [] (s.If (calls_f 5) (s.Expr None (at 1 10)) None (at 1 1) ∷ [])) [] no_input 1
    ≡ ([], Undefined Uninitialised (at 1 1))
tested = search (rules, ct.the_lemmas, tk.the_lemmas, ti.the_lemmas, ts.the_lemmas)

-- no step is left for the call
going : plain (with_f [] (does (calls_f 5) ∷ [])) [] no_input 0 ≡ ([], Going)
going = search (rules, ct.the_lemmas, tk.the_lemmas, ti.the_lemmas, ts.the_lemmas)

-- ---- the heap: `char *p = malloc(4); free(p);`

abbrev bytes : TypedExpr
bytes = x (t.Local 0) (Ptr char) 2 10

abbrev freed : List TypedStmt → TypedTree
freed items =
    program (function_of (variable (Ptr char) ∷ [])
    (begins 0
    (x (t.Cast (x (t.Call (Library fn.Malloc) (x (t.Cast (number 4 1 18) true) unsigned_long 1 18 ∷ [])) (Ptr Void) 1 11) true)
    (Ptr char) 1 11) 1 7
    ∷ does (x (t.Call (Library fn.Free) (x (t.Cast (x (t.Local 0) (Ptr char) 1 27) true) (Ptr Void) 1 27 ∷ [])) Void 1 22) ∷ items) ∷ [])

-- `__builtin_dynamic_object_size(p, 0);`
size_of_dead :
    plain (freed (does (x (t.SizeCall bytes (number 0 2 13)) unsigned_long 2 1) ∷ [])) [] no_input 0
    ≡ ([], Undefined DeadObject (at 2 1))
size_of_dead = search (rules, ct.the_lemmas, tk.the_lemmas, ti.the_lemmas, ts.the_lemmas)

-- `__builtin_dynamic_object_size(p + 1, 0);`
size_argument :
    plain (freed (does (x (t.SizeCall (x (t.Binary Add bytes (number 1 2 14)) (Ptr char) 2 12) (number 0 2 17)) unsigned_long 2 1) ∷ []))
    [] no_input 0
    ≡ ([], Undefined SizeArgument (at 2 1))
size_argument = search (rules, ct.the_lemmas, tk.the_lemmas, ti.the_lemmas, ts.the_lemmas)
