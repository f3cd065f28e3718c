-- What each kind of node is as an address constant.
use Rattle.std.proofs.Common.{◌≡◌, ℕ, Bool, true, false, List, ◌∙◌, rules}
use Rattle.c_layout.specs.declared.tags.TagDef.{TagDef}
use Rattle.c_layout.specs.Types.{is_pointer}
use Rattle.c_tree.specs.declared.operators.BinaryOp.{BinaryOp}
use Rattle.c_tree.specs.declared.operators.BinaryOp.TheVariants.{Add, Sub}
use Rattle.c_tree.specs.declared.programs.DataDef.{DataDef}
use Rattle.c_tree.specs.declared.typed.TypedExpr.{TypedExpr}
use Rattle.c_tree.specs.declared.typed.TypedKind.{the_lemmas}
use Rattle.c_tree.specs.declared.typed.TypedKind.TheVariants.{Cast, Binary, Cond, Index, Member}
use Rattle.c_tree.specs.Paths.{is_trailing}
use Rattle.elab_meaning.specs.Addresses.{by_pointer, cast_pointer, chosen, member_of, part_of, plus}
use Rattle.elab_constants.specs.Operands.{operand}
use Rattle.elab_constants.specs.Steps.{directed}
use Rattle.elab_constants.proofs.Nodes.{pointer_is, place_is}

module _ (tags : List TagDef) (objects : List DataDef) (e : TypedExpr) where
  pub pointer-Cast : (of : TypedExpr) (added : Bool) → e.kind ≡ Cast of added
      → (part_of tags objects e).pointer ≡ cast_pointer tags objects (operand tags objects of)
  pointer-Cast of added k = pointer_is tags objects e ∙ search (rules, the_lemmas, k)

  pub pointer-Add : (op : BinaryOp) (a b : TypedExpr) → op ≡ Add → e.kind ≡ Binary op a b → is_pointer a.ctype ≡ true
      → (part_of tags objects e).pointer ≡ by_pointer (plus tags objects (directed false) (operand tags objects a) (operand tags objects b))
  pointer-Add op a b o k first = pointer_is tags objects e ∙ search (rules, the_lemmas, o, k, first)

  pub pointer-Add-turned : (op : BinaryOp) (a b : TypedExpr) → op ≡ Add → e.kind ≡ Binary op a b → is_pointer a.ctype ≡ false
      → (part_of tags objects e).pointer ≡ by_pointer (plus tags objects (directed false) (operand tags objects b) (operand tags objects a))
  pointer-Add-turned op a b o k second = pointer_is tags objects e ∙ search (rules, the_lemmas, o, k, second)

  pub pointer-Sub : (op : BinaryOp) (a b : TypedExpr) → op ≡ Sub → e.kind ≡ Binary op a b
      → (part_of tags objects e).pointer ≡ by_pointer (plus tags objects (directed true) (operand tags objects a) (operand tags objects b))
  pointer-Sub op a b o k = pointer_is tags objects e ∙ search (rules, the_lemmas, o, k)

  pub pointer-Cond : (test a b : TypedExpr) → e.kind ≡ Cond test a b
      → (part_of tags objects e).pointer
      ≡ by_pointer (chosen tags objects (operand tags objects test) (operand tags objects a) (operand tags objects b))
  pointer-Cond test a b k = pointer_is tags objects e ∙ search (rules, the_lemmas, k)

  pub place-Index : (a b : TypedExpr) → e.kind ≡ Index a b → is_pointer a.ctype ≡ true
      → (part_of tags objects e).place ≡ plus tags objects (directed false) (operand tags objects a) (operand tags objects b)
  place-Index a b k first = place_is tags objects e ∙ search (rules, the_lemmas, k, first)

  pub place-Index-turned : (a b : TypedExpr) → e.kind ≡ Index a b → is_pointer a.ctype ≡ false
      → (part_of tags objects e).place ≡ plus tags objects (directed false) (operand tags objects b) (operand tags objects a)
  place-Index-turned a b k second = place_is tags objects e ∙ search (rules, the_lemmas, k, second)

  pub place-Member : (base : TypedExpr) (arrow : Bool) (member : ℕ) → arrow ≡ false → e.kind ≡ Member base arrow member
      → (part_of tags objects e).place ≡ member_of tags objects base.ctype member (is_trailing tags e) (part_of tags objects base).place
  place-Member base arrow member direct k = place_is tags objects e ∙ search (rules, the_lemmas, direct, k)
