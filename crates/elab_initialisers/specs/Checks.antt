-- The rules of an expression that initialises an object.
use Rattle.std.specs.Prelude.{Bool, not, ◌&&◌, [], ◌∷◌, List}
use Rattle.fc_base.specs.declared.rules.Rule.TheVariants.{NotConstant, BadOperands}
use Rattle.c_layout.specs.declared.types.CType.{CType}
use Rattle.c_tree.specs.declared.typed.TypedExpr.{TypedExpr}
use Rattle.elab_meaning.specs.Addresses.{is_constant}
use Rattle.elab_meaning.specs.Conversions.{operand, fits}
use Rattle.elab_meaning.specs.Scope.{Scope}
use Rattle.elab_meaning.specs.Typing.{Check}

-- those of `leaf`, in their order
abbrev pub leaf_checks : Bool → CType → Scope → TypedExpr → List Check
leaf_checks is_static t scope x =
    (NotConstant, is_static && not (is_constant scope.tags scope.objects x)) ∷ (BadOperands, not (fits (operand scope.tags x) t)) ∷ []
