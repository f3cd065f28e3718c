-- What a declarator makes of the type that its specifiers name, once its parts are typed: the type, or the first rule that it breaks.
use Rattle.std.specs.Prelude.{Bool, not, ◌||◌, if◌then◌else◌, List, [], ◌∷◌, Result, Ok, Err}
use Rattle.fc_base.specs.declared.refusals.Place.{Place}
use Rattle.fc_base.specs.declared.refusals.Refusal.{Refusal}
use Rattle.fc_base.specs.declared.rules.Rule.TheVariants.{Redeclared, IncompleteType, BadType, LimitObject, ByValue, FunctionPointer, LimitArguments}
use Rattle.c_layout.specs.declared.tags.TagDef.{TagDef}
use Rattle.c_layout.specs.declared.types.CType.{CType}
use Rattle.c_layout.specs.declared.types.CType.TheVariants.{Void, Ptr}
use Rattle.c_layout.specs.Types.{element, is_array, is_structure}
use Rattle.elab_meaning.specs.Conversions.{has_size}
use Rattle.elab_meaning.specs.Declarations as meant
use Rattle.elab_meaning.specs.Declarations.{formed, is_function_made, passes_limit, type_made}
use Rattle.elab_meaning.specs.Parts.{Shape}
use Rattle.elab_meaning.specs.Typing.{Check, judged}
use Rattle.elab_types.specs.declared.forming.Made.{Made}
use Rattle.elab_types.specs.declared.forming.Made.TheVariants.{Object, Function}
use Rattle.elab_types.specs.declared.specifiers.Specifiers.{Specifiers}
use Rattle.elab_types.specs.Specifiers.{has_words}

-- ---- type names (6.7.7)

-- a second answer behind checks that hold
abbrev pub behind : {A B : Type 0} → Result A Refusal → Result B Refusal → Result B Refusal
behind (Ok a) b = b
behind (Err r) b = Err r

abbrev pub named_type : List TagDef → Specifiers → Shape → Place → Place → Result CType Refusal
named_type tags s shape at start =
    let f = formed tags s.base shape in
    behind (judged at ((BadType, f.bad_type || has_words s) ∷ []) (tt {0}))
    (judged start ((LimitObject, passes_limit f) ∷ []) (type_made f.made))

-- ---- parameters (6.7.6.3)

-- a parameter's type as it is kept
abbrev pub adjusted : Made → CType
adjusted (Object t) = if is_array t then Ptr (element t) else t
adjusted (Function params of) = Ptr Void

abbrev pub param_checks : List TagDef → Specifiers → Shape → Bool → List Check
param_checks tags s shape repeated =
    let f = formed tags s.base shape in
    let t = meant.adjusted f.made in
    (Redeclared, repeated)
    ∷ (IncompleteType, not (has_size tags t))
    ∷ (BadType, f.bad_type || has_words s)
    ∷ (LimitObject, passes_limit f)
    ∷ (ByValue, f.by_value || is_structure t)
    ∷ (FunctionPointer, f.function_pointer || is_function_made f.made)
    ∷ (LimitArguments, f.too_many) ∷ []

abbrev pub param_type : List TagDef → Specifiers → Shape → Bool → Place → Result CType Refusal
param_type tags s shape repeated at =
    judged at (param_checks tags s shape repeated) (meant.adjusted (formed tags s.base shape).made)
