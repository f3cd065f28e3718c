-- Words for what a part of the code types: parts that follow one another, and nodes by their typed parts.
use Rattle.std.specs.Prelude.{◌-◌, ◌==◌, take_while, ⊤, ℕ, slice_get, option_and_then, unwrap_or, Bool, true, false, not, ◌&&◌, is_some, is_none, nat_lt, List, [], ◌∷◌, ◌++◌, map, Option, None, Some, Result, Ok, Err}
use Rattle.std.specs.Option.{option_map_or}
use Rattle.fc_base.specs.declared.refusals.Place.{Place}
use Rattle.fc_base.specs.declared.refusals.Refusal.{Refusal}
use Rattle.fc_base.specs.declared.rules.Rule.TheVariants.{UnknownName, NotConstant, BadOperands, FormatLiteral, FormatSpec, SizeMode}
use Rattle.c_layout.specs.declared.tags.TagDef.{TagDef}
use Rattle.c_layout.specs.declared.types.CType.{CType}
use Rattle.c_layout.specs.declared.types.CType.TheVariants.{Void}
use Rattle.c_layout.specs.Types.{unsigned_long, is_pointer, tag_of}
use Rattle.c_tree.specs.declared.nodes.Expr.{Expr}
use Rattle.c_tree.specs.declared.typed.TypedExpr.{TypedExpr}
use Rattle.c_tree.specs.declared.typed.TypedKind.TheVariants as e
use Rattle.c_tree.specs.Constants.{constant_of}
use Rattle.c_tree.specs.Heights.{expr_height, highest}
use Rattle.print_formats.specs.declared.conversions.Directive.{Directive}
use Rattle.print_formats.specs.declared.conversions.Specifier.{Specifier}
use Rattle.print_formats.specs.Formats.{conversions_of}
use Rattle.elab_meaning.specs.Scope.{Name}
use Rattle.elab_meaning.specs.Typing.{Typing, Check, ◌>>=◌, ◌>>◌, pure, first, by_tags, judged}
use Rattle.elab_meaning.specs.Parts.{Form, is_name, is_text, ReadExpr}
use Rattle.elab_meaning.specs.Trees.{read_expr}
use Rattle.elab_meaning.specs.Nodes.{node, cast_node}
use Rattle.elab_meaning.specs.Expressions.{value_part, base_part, last_type, holder, member_in, member_of, member_node, argument_fits, all_fit, is_literal, conversions}

-- ---- parts one behind another

abbrev pub both_parts : {A B : Type 0} → Typing A → Typing B → Typing (A × B)
both_parts p q = do
  a ← p
  b ← q
  pure (a, b)

-- values behind those so far
abbrev pub values_onto : List TypedExpr → List ReadExpr → Typing (List TypedExpr)
values_onto values [] = pure values
values_onto values (part ∷ parts) = value_part part >>= (λ x. values_onto (values ++ x ∷ []) parts)

abbrev pub parts_of : List Expr → List ReadExpr
parts_of = map read_expr

abbrev pub comma_by : List ReadExpr → Place → Typing TypedExpr
comma_by all at = values_onto [] all >>= (λ values. pure (node (e.Comma values) (last_type values) at))

-- a cast behind its type
abbrev pub cast_behind : CType → ReadExpr → Place → Typing TypedExpr
cast_behind to of at = do
  x ← value_part of
  by_tags (λ tags. cast_node tags to x at)

-- no expression of a list is higher
abbrev pub heights : List Expr → ℕ
heights es = highest (map expr_height es)

-- ---- members (6.5.2.3)

-- the member of this name in a structure or union, if it is one
abbrev pub member_held : List TagDef → Option ℕ → Name → Option (ℕ × CType)
member_held tags tag name = option_and_then (λ n. option_and_then (member_in name) (slice_get tags n)) tag

-- the rules of `.` and `->`
abbrev pub member_checks : Bool → Option (ℕ × CType) → List Check
member_checks is_held m = (UnknownName, is_held && is_none m) ∷ (BadOperands, not is_held) ∷ []

-- the member that is meant: its place, and its type
abbrev pub found_member : List TagDef → CType → Bool → Name → Place → Result (ℕ × CType) Refusal
found_member tags t arrow name at =
    judged at (member_checks (is_some (tag_of (holder arrow t))) (member_of tags (holder arrow t) name))
    (unwrap_or (member_of tags (holder arrow t) name) (0, Void))

-- by a typed base
abbrev pub selected : List TagDef → TypedExpr → Bool → Name → Place → Result TypedExpr Refusal
selected tags base arrow name at =
    judged at (member_checks (is_some (tag_of (holder arrow base.ctype))) (member_of tags (holder arrow base.ctype) name))
    (member_node base arrow (member_of tags (holder arrow base.ctype) name) at)

abbrev pub member_by : ReadExpr → Bool → Name → Place → Typing TypedExpr
member_by base arrow name at = base_part arrow base >>= (λ x. by_tags (λ tags. selected tags x arrow name at))

-- ---- size expressions

-- an answer, where another one is no refusal
abbrev pub behind : {A B : Type 0} → Result A Refusal → Result B Refusal → Result B Refusal
behind (Ok a) answer = answer
behind (Err refusal) answer = Err refusal

-- the rules of a mode
abbrev pub mode_checks : List TagDef → TypedExpr → List Check
mode_checks tags m = (NotConstant, is_none (constant_of tags m)) ∷ (SizeMode, option_map_or (nat_lt 3) (constant_of tags m) false) ∷ []

abbrev pub sized_with : TypedExpr → TypedExpr → Place → Result TypedExpr Refusal
sized_with p m at = judged at ((BadOperands, not (is_pointer p.ctype)) ∷ []) (node (e.SizeCall p m) unsigned_long at)

-- a size expression by its typed parts: the rules of its mode, and then its own
abbrev pub sized : List TagDef → TypedExpr → TypedExpr → Place → Place → Result TypedExpr Refusal
sized tags p m mode at = behind (judged {A = ⊤} mode (mode_checks tags m) tt) (sized_with p m at)

abbrev pub size_call_by : ReadExpr → ReadExpr → Place → Typing TypedExpr
size_call_by pointer mode at =
    value_part pointer >>= (λ p. value_part mode >>= (λ m. by_tags (λ tags. sized tags p m mode.place at)))

-- ---- calls

abbrev pub text_in : Form → Option (List ℕ)
text_in (is_text text) = Some text
text_in _ = None

abbrev pub name_in : Form → Option Name
name_in (is_name name) = Some name
name_in _ = None

-- the bytes of the format among arguments: the one behind all but one of so many parameters
abbrev pub format_at : List ReadExpr → ℕ → Option (List ℕ)
format_at parts params = option_and_then (λ format. text_in format.form) (slice_get parts (params - 1))

-- the bytes before the first NUL
abbrev pub up_to_nul : List ℕ → List ℕ
up_to_nul = take_while (λ b. not (b == 0))

-- the rules of a format
abbrev pub format_checks : Form → List Check
format_checks form = (FormatLiteral, not (is_literal form)) ∷ (FormatSpec, is_none (conversions form)) ∷ []

-- an argument that is a format
abbrev pub checked_format : ReadExpr → Typing TypedExpr
checked_format format = do
  x ← value_part format
  first format.place (format_checks format.form)
  pure x

-- whether these arguments fit the rest of a format, if it is one
abbrev pub fits_rest : Bool → List TypedExpr → Option (List Directive) → Bool
fits_rest fit args None = true
fits_rest fit args (Some ds) = fit && all_fit (conversions_of ds) args

-- whether all fits so far, and the next argument is what a conversion takes
abbrev pub takes : Bool → Specifier → List TypedExpr → Bool
takes fit s [] = false
takes fit s (x ∷ xs) = fit && argument_fits s x.ctype
