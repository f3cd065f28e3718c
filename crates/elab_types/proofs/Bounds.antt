-- Bounds by their typed expressions.
use Rattle.std.proofs.Common.{◌≡◌, ℤ, pos, true, List, [], ◌∷◌, Option, None, Some, Result, Ok, Err, refl, ap, ◌∙◌, rules}
use Rattle.std.specs.Prelude.{is_none, unwrap_or}
use Rattle.fc_base.specs.declared.refusals.Fault.{Fault}
use Rattle.fc_base.specs.declared.refusals.Fault.TheVariants as fault
use Rattle.fc_base.specs.declared.refusals.Place.{Place}
use Rattle.fc_base.specs.declared.refusals.Refusal.{Refusal}
use Rattle.fc_base.specs.declared.rules.Rule.{Rule}
use Rattle.fc_base.specs.declared.rules.Rule.TheVariants.{NotConstant}
use Rattle.c_layout.specs.declared.tags.TagDef.{TagDef}
use Rattle.c_layout.specs.declared.types.CType as ct
use Rattle.c_layout.specs.declared.types.CType.{CType}
use Rattle.c_layout.specs.declared.types.CType.TheVariants.{Ptr}
use Rattle.c_layout.specs.Types.{is_array}
use Rattle.c_tree.specs.declared.nodes.Expr as ex
use Rattle.c_tree.specs.declared.nodes.Expr.{Expr}
use Rattle.c_tree.specs.declared.typed.TypedExpr as te
use Rattle.c_tree.specs.declared.typed.TypedExpr.{TypedExpr}
use Rattle.c_tree.specs.Constants.{constant_of}
use Rattle.c_tree.specs.Operators.{int_type}
use Rattle.elab_meaning.specs.Conversions.{added_cast, decayed, value_of}
use Rattle.elab_meaning.specs.Declarations.{bound_part}
use Rattle.elab_meaning.specs.Parts.{ReadExpr}
use Rattle.elab_meaning.specs.Trees.{read_expr}
use Rattle.elab_meaning.specs.Typing.{State as Meant, Check, first_broken, judged, answered, first, goes_on, pure}
use Rattle.elab_scope.specs.declared.state.State.{State}
use Rattle.elab_scope.specs.States.{state_of}
use Rattle.elab_types.specs.declared.shapes.Bound.{Bound}
use Rattle.elab_types.specs.Nests.{GivesAs, TypesAs}
use Rattle.elab_types.specs.Shapes.{value_in}

pointer_type : (t : CType) → int_type (Ptr t) ≡ None
pointer_type t = search (rules, ct.the_lemmas)

pointer_constant : (tags : List TagDef) (t : CType) (e : TypedExpr) → constant_of tags (added_cast (Ptr t) e) ≡ None
pointer_constant tags t e = search (rules, te.the_lemmas, ct.the_lemmas)

-- an array's value is a pointer, which is no integer constant expression
pub no_value : (tags : List TagDef) (e : TypedExpr) → is_array e.ctype ≡ true → value_of tags (decayed e) ≡ None
no_value tags e is = search (rules, te.the_lemmas, ct.the_lemmas, is)

-- the rules of a node and then what it is
first_then : {A : Type 0} (place : Place) (checks : List Check) (a : A) (s : Meant) (o : Option Rule) → first_broken checks ≡ o →
    goes_on (first place checks s) (λ u. pure a) ≡ answered (judged place checks a) s
first_then place checks a s None e = rw e refl
first_then place checks a s (Some r) e = rw e refl

-- what a bound gives, by its value where it has one
abbrev answer : Place → Option ℤ → Result ℤ Refusal
answer place value = judged place ((NotConstant, is_none value) ∷ []) (unwrap_or value (pos 0))

bound_typed : (b : ReadExpr) (s t : Meant) (x : TypedExpr) → b.typed s ≡ Ok (x, t) →
    bound_part b s ≡ answered (answer b.place (value_of t.scope.tags (decayed x))) t
bound_typed b s t x e =
    let value = value_of t.scope.tags (decayed x) in
    let checks : List Check = (NotConstant, is_none value) ∷ [] in
    rw e (first_then b.place checks (unwrap_or value (pos 0)) t (first_broken checks) refl)

pub expr_place : (e : Expr) → (read_expr e).place ≡ e.place
expr_place e = search (rules, ex.the_lemmas)

pub bound_gives : (b : ReadExpr) (s t : State) (x : TypedExpr) (at : Place) (r : Result Bound Fault) → b.place ≡ at
    → b.typed (state_of s) ≡ Ok (x, state_of t) → GivesAs value_in r (answer at (value_of t.scope.tags (decayed x)))
    → TypesAs value_in (bound_part b) s r t
bound_gives b s t x at (Ok y) p e g =
    bound_typed b _ _ x e ∙ (ap (λ place. answered (answer place (value_of t.scope.tags (decayed x))) (state_of t)) p
    ∙ ap (λ j. answered j (state_of t)) g)
bound_gives b s t x at (Err (fault.Refused r)) p e g =
    bound_typed b _ _ x e ∙ (ap (λ place. answered (answer place (value_of t.scope.tags (decayed x))) (state_of t)) p
    ∙ ap (λ j. answered j (state_of t)) g)
bound_gives b s t x at (Err fault.NoMemory) p e g = tt
