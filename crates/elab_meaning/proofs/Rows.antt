-- Expressions and files that are worked by hand from C11, with their typed trees or first broken rules.
use Rattle.std.proofs.Common.{rules}
use Rattle.std.specs.Prelude.{◌≡◌, ℕ, true, false, List, [], ◌∷◌, codes, Option, Some, None, Ok, Err}
use Rattle.c_layout.specs.declared.types.CType as ct
use Rattle.c_tree.specs.declared.typed.TypedKind as tk
use Rattle.c_tree.specs.declared.typed.TypedInit as ti
use Rattle.c_tree.specs.declared.typed.TypedStmt as ts
use Rattle.c_tree.specs.declared.nodes.Declarator as dc
use Rattle.c_tree.specs.declared.statements.Init as wi
use Rattle.c_tree.specs.declared.statements.Stmt as ws
use Rattle.fc_base.specs.declared.levels.Width.TheVariants.{W4}
use Rattle.fc_base.specs.declared.refusals.Place.{Place}
use Rattle.fc_base.specs.declared.refusals.Refusal.{Refusal}
use Rattle.fc_base.specs.declared.rules.Rule.{Rule}
use Rattle.fc_base.specs.declared.rules.Rule.TheVariants.{UnknownName, NotLvalue, NoMain}
use Rattle.c_layout.specs.declared.types.CType.{CType}
use Rattle.c_layout.specs.declared.types.CType.TheVariants.{Int}
use Rattle.c_layout.specs.Types.{char, int}
use Rattle.c_tree.specs.declared.externals.External.{External}
use Rattle.c_tree.specs.declared.externals.External.TheVariants as f
use Rattle.c_tree.specs.declared.externals.FileTree.{FileTree}
use Rattle.c_tree.specs.declared.nodes.BasicWord.TheVariants as word
use Rattle.c_tree.specs.declared.nodes.Declarator.{Declarator}
use Rattle.c_tree.specs.declared.nodes.Declarator.TheVariants as d
use Rattle.c_tree.specs.declared.nodes.Expr.{Expr}
use Rattle.c_tree.specs.declared.nodes.ExprKind.{ExprKind}
use Rattle.c_tree.specs.declared.nodes.ExprKind.TheVariants as w
use Rattle.c_tree.specs.declared.nodes.Params.TheVariants as params
use Rattle.c_tree.specs.declared.nodes.Spec.{Spec}
use Rattle.c_tree.specs.declared.nodes.Spec.TheVariants as spec
use Rattle.c_tree.specs.declared.operators.AssignOp.TheVariants as assign
use Rattle.c_tree.specs.declared.operators.BinaryOp.TheVariants as binary
use Rattle.c_tree.specs.declared.programs.TypedTree.{TypedTree}
use Rattle.c_tree.specs.declared.statements.Init.{Init}
use Rattle.c_tree.specs.declared.statements.InitDeclarator.{InitDeclarator}
use Rattle.c_tree.specs.declared.statements.Stmt.{Stmt}
use Rattle.c_tree.specs.declared.statements.Stmt.TheVariants as s
use Rattle.c_tree.specs.declared.typed.TypedExpr.{TypedExpr}
use Rattle.c_tree.specs.declared.typed.TypedKind.{TypedKind}
use Rattle.c_tree.specs.declared.typed.TypedKind.TheVariants as t
use Rattle.c_tree.specs.declared.typed.TypedStmt.TheVariants as typed
use Rattle.elab_meaning.specs.declared.names.NameUse.TheVariants.{Local}
use Rattle.elab_meaning.specs.Scope.{Scope, scope_of, add}
use Rattle.elab_meaning.specs.Trees.{expr}
use Rattle.elab_meaning.specs.Ends.{typed_file}

abbrev at : ℕ → Place
at col = record { line = 1; col = col }

abbrev breaks : Rule → ℕ → Refusal
breaks rule col = record { rule = rule; place = at col }

abbrev e : ExprKind → ℕ → Expr
e kind col = record { kind = kind; place = at col }

abbrev name : ℕ → Expr
name col = e (w.Name (codes "x")) col

abbrev number : ℕ → ℕ → Expr
number n col = e (w.Number n (record { decimal = true; unsigned = false; longs = 0 })) col

abbrev x : TypedKind → CType → ℕ → TypedExpr
x kind ctype col = record { kind = kind; ctype = ctype; place = at col }

-- ---- expressions in a scope

abbrev unsigned_int : CType
unsigned_int = Int W4 false false false

-- `char c, unsigned u`
abbrev scope : Scope
scope = add (codes "u") (Local 1 unsigned_int) (add (codes "c") (Local 0 char) (scope_of []))

-- `x`
unknown : expr (name 1) scope ≡ Err (breaks UnknownName 1)
unknown = search (rules, dc.the_lemmas, ct.the_lemmas, tk.the_lemmas)

-- `c + u`: the usual arithmetic conversions (6.3.1.8)
common_type : expr (e (w.Binary binary.Add (e (w.Name (codes "c")) 1) (e (w.Name (codes "u")) 5)) 3) scope
    ≡ Ok (
      x (t.Binary binary.Add (x (t.Cast (x (t.Local 0) char 1) true) unsigned_int 1) (x (t.Local 1) unsigned_int 5))
          unsigned_int 3,
      scope,
    )
common_type = search (rules, dc.the_lemmas, ct.the_lemmas, tk.the_lemmas)

-- `c = c`: no conversion where the types are the same
assigned : expr (e (w.Assign assign.Plain (e (w.Name (codes "c")) 1) (e (w.Name (codes "c")) 5)) 3) scope
    ≡ Ok (x (t.Assign assign.Plain (x (t.Local 0) char 1) (x (t.Local 0) char 5)) char 3, scope)
assigned = search (rules, dc.the_lemmas, ct.the_lemmas, tk.the_lemmas)

-- `1 = c`
no_place : expr (e (w.Assign assign.Plain (number 1 1) (e (w.Name (codes "c")) 5)) 3) scope ≡ Err (breaks NotLvalue 3)
no_place = search (rules, dc.the_lemmas, ct.the_lemmas, tk.the_lemmas)

-- ---- files

abbrev int_at : ℕ → List Spec
int_at col = spec.Basic word.Int (at col) ∷ []

abbrev variable : Declarator → Option Init → InitDeclarator
variable declarator init = record { declarator = declarator; attributes = []; init = init }

abbrev x_at : ℕ → Declarator
x_at col = d.Name (codes "x") (at col)

-- `int main(void) { .. }`
abbrev main_with : List Stmt → External
main_with items = f.Function (int_at 1) (d.Function (d.Name (codes "main") (at 5)) params.Void (at 5)) (s.Block items (at 16)) (at 1)

abbrev file : List External → FileTree
file externals = record { externals = externals }

-- `int main(void) { return 0; }`
abbrev returns_zero : TypedTree
returns_zero = record {
  tags = [];
  objects = [];
  main = 0;
  functions = record {
    name = codes "main";
    params = [];
    result = int;
    inlined = false;
    alloc_size = None;
    locals = [];
    counts = record { nodes = 3; joins = 1; vars = 0; frame = 0 };
    body = typed.Block (typed.Return (Some (x (t.Number 0) int 25)) (at 18) ∷ []) (at 16);
  } ∷ [];
}

least : typed_file (file (main_with (s.Return (Some (number 0 25)) (at 18) ∷ []) ∷ [])) ≡ Ok returns_zero
least = search (rules, dc.the_lemmas, ct.the_lemmas, tk.the_lemmas, ti.the_lemmas, ts.the_lemmas, wi.the_lemmas, ws.the_lemmas)

-- an empty file
empty : typed_file (file []) ≡ Err (breaks NoMain 1)
empty = search (rules, dc.the_lemmas, ct.the_lemmas, tk.the_lemmas, ti.the_lemmas, ts.the_lemmas, wi.the_lemmas, ws.the_lemmas)
