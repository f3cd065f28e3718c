-- Calls in the parts in which the code has them (C11 6.5.2.2).
use Rattle.std.specs.Prelude.{ℕ, true, false, not, ◌∷◌, [], ◌++◌, List, length, take, drop, nat_lt, Option, None, Some, Result}
use Rattle.std.specs.Option.{option_map_or}
use Rattle.fc_base.specs.declared.refusals.Place.{Place}
use Rattle.fc_base.specs.declared.refusals.Refusal.{Refusal}
use Rattle.fc_base.specs.declared.rules.Rule.TheVariants.{UnknownName, LimitArguments, BadOperands, BadCall, FormatArgs}
use Rattle.c_layout.specs.declared.tags.TagDef.{TagDef}
use Rattle.c_layout.specs.declared.types.CType.{CType}
use Rattle.c_layout.specs.Types.{promoted}
use Rattle.c_tree.specs.declared.typed.TypedExpr.{TypedExpr}
use Rattle.c_tree.specs.Typed.{most_arguments}
use Rattle.elab_meaning.specs.Scope.{Name}
use Rattle.elab_meaning.specs.Typing.{Typing, Check, ◌>>=◌, ◌>>◌, pure, first, by_tags, judged}
use Rattle.elab_meaning.specs.Parts.{ReadExpr}
use Rattle.elab_meaning.specs.Conversions.{converted}
use Rattle.elab_meaning.specs.Expressions.{Called as Function, use_of, is_unknown, called_use, value_part, arguments_fit, right_number, further_fit, call_node, before_format}
use Rattle.elab_expressions.specs.declared.called.Called.{Called}
use Rattle.elab_expressions.specs.Words.{name_in, values_onto, format_checks}

abbrev pub function_of : Called → Function
function_of f = record { callee = f.callee; params = f.params; variadic = f.variadic; result = f.result }

-- ---- what is called

abbrev pub called_named : Name → Place → Typing (Option Function)
called_named name at = do
  used ← use_of name
  first at ((UnknownName, is_unknown used) ∷ [])
  pure (called_use used)

-- by the name that it is, or as another expression
abbrev pub called_by : Option Name → ReadExpr → Typing (Option Function)
called_by (Some name) part = called_named name part.place
called_by None part = do
  x ← part.typed
  pure None

-- ---- arguments

-- a format and the arguments behind it, behind those so far
abbrev pub format_onto : List TypedExpr → List ReadExpr → Typing (List TypedExpr)
format_onto values [] = pure values
format_onto values (format ∷ others) = do
  x ← value_part format
  first format.place (format_checks format.form)
  values_onto (values ++ x ∷ []) others

-- so many arguments, and then a format and those behind it, behind those so far
abbrev pub before_and_behind : List TypedExpr → ℕ → List ReadExpr → Typing (List TypedExpr)
before_and_behind values count parts = values_onto values (take count parts) >>= (λ before. format_onto before (drop count parts))

-- the arguments of a call, so many of which stand before a format
abbrev pub arguments_by : Option ℕ → List ReadExpr → Typing (List TypedExpr)
arguments_by None parts = values_onto [] parts
arguments_by (Some count) parts = before_and_behind [] count parts

-- an argument with its parameter, or a further one promoted
abbrev pub converted_to : Option CType → TypedExpr → TypedExpr
converted_to (Some p) x = converted p x
converted_to None x = converted (promoted x.ctype) x

-- ---- the whole

abbrev pub call_checks : List TagDef → Option Function → List ReadExpr → List TypedExpr → List Check
call_checks tags f parts args =
    (LimitArguments, nat_lt most_arguments (length args))
    ∷ (BadOperands, option_map_or (λ g. not (arguments_fit tags g args)) f false)
    ∷ (BadCall, option_map_or (λ g. not (right_number g args)) f true)
    ∷ (FormatArgs, option_map_or (λ g. not (further_fit g parts args)) f false) ∷ []

-- a call by its typed parts
abbrev pub call_of : List TagDef → Option Function → List ReadExpr → List TypedExpr → Place → Result TypedExpr Refusal
call_of tags f parts args at = judged at (call_checks tags f parts args) (call_node f args at)

abbrev pub call_by : ReadExpr → List ReadExpr → Place → Typing TypedExpr
call_by part parts at =
    called_by (name_in part.form) part
    >>= (λ f. arguments_by (before_format f) parts >>= (λ args. by_tags (λ tags. call_of tags f parts args at)))
