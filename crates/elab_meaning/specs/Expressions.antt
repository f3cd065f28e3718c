-- Expressions (C11 6.5): each kind of node by its parts. A node runs its parts in text order, then `first` looks at its own rules in their
-- order, and then it is what typing makes of it, with each conversion written out.
use Rattle.std.specs.Prelude.{ℕ, ◌+◌, ◌-◌, ◌==◌, nat_lt, nat_le, Bool, true, false, not, ◌&&◌, ◌||◌, if◌then◌else◌, is_some, is_none, List, [], ◌∷◌, ◌++◌, length, map, take, drop, zip, find, position, flat_map, take_while, slice_get, Option, None, Some, option_and_then}
use Rattle.std.specs.Option.{option_map, option_map_or}
use Rattle.std.specs.List.{list_all}
use Rattle.std.specs.Str.{bytes_eq}
use Rattle.fc_base.specs.declared.levels.Width.TheVariants.{W1}
use Rattle.fc_base.specs.declared.refusals.Place.{Place}
use Rattle.fc_base.specs.declared.rules.Rule.TheVariants.{UnknownName, LimitObject, FunctionPointer, LimitArguments, NotConstant, BadOperands, BadCall, FormatLiteral, FormatSpec, FormatArgs, SizeMode}
use Rattle.fc_base.specs.Widths.{extended, sign_bit, width_bytes, width_values}
use Rattle.c_arithmetic.specs.Arithmetic as arithmetic
use Rattle.c_library.specs.Library.{row_of}
use Rattle.c_tokens.specs.declared.tokens.NumberKind.{NumberKind}
use Rattle.c_layout.specs.declared.types.CType.{CType}
use Rattle.c_layout.specs.declared.types.CType.TheVariants.{Void, Array}
use Rattle.c_layout.specs.declared.tags.TagDef.{TagDef}
use Rattle.c_layout.specs.Layouts.{largest_type}
use Rattle.c_layout.specs.Library.{lib_parameters, lib_result}
use Rattle.c_layout.specs.Types.{char, int, unsigned_long, is_integer, is_pointer, is_char, tag_of, pointed, promoted}
use Rattle.c_tree.specs.declared.nodes.Declarator.TheOpen.{ExprKind-F}
use Rattle.c_tree.specs.declared.operators.AssignOp.{AssignOp}
use Rattle.c_tree.specs.declared.operators.BinaryOp.{BinaryOp}
use Rattle.c_tree.specs.declared.operators.PrefixOp.{PrefixOp}
use Rattle.c_tree.specs.declared.operators.PostfixOp.{PostfixOp}
use Rattle.c_tree.specs.declared.programs.DataDef.{DataDef}
use Rattle.c_tree.specs.declared.typed.Callee.{Callee}
use Rattle.c_tree.specs.declared.typed.Callee.TheVariants as callee
use Rattle.c_tree.specs.declared.typed.TypedExpr.{TypedExpr}
use Rattle.c_tree.specs.declared.typed.TypedKind.{TypedKind}
use Rattle.c_tree.specs.declared.typed.TypedKind.TheVariants as e
use Rattle.c_tree.specs.Constants.{constant_of}
use Rattle.c_tree.specs.declared.conversions.Rank.{Rank}
use Rattle.c_tree.specs.declared.conversions.Rank.TheVariants as ranks
use Rattle.c_tree.specs.Conversions.{rank_width, ranked, number_type}
use Rattle.c_tree.specs.Typed.{most_arguments}
use Rattle.print_formats.specs.declared.conversions.Specifier.{Specifier}
use Rattle.print_formats.specs.declared.conversions.Specifier.TheVariants as specifier
use Rattle.print_formats.specs.Formats.{directives_of, conversions_of}
use Rattle.elab_meaning.specs.declared.names.NameUse.{NameUse}
use Rattle.elab_meaning.specs.declared.names.NameUse.TheVariants.{Local, Object, Function, Library, Constant, Typedef}
use Rattle.elab_meaning.specs.Scope.{Name, lookup}
use Rattle.elab_meaning.specs.Typing.{Typing, ◌>>=◌, ◌>>◌, pure, each, first, by_tags, look, new_object}
use Rattle.elab_meaning.specs.Parts.{Form, is_name, is_text, is_other, ReadExpr, ReadKind, ReadTypeName, KindLayer, ExprLayer}
use Rattle.elab_meaning.specs.Operators.{Wanted, plain_value, any_place, modifiable_place, wanted}
use Rattle.elab_meaning.specs.Nodes.{node, assign_node, cond_node, binary_node, cast_node, prefix_node, postfix_node, sizeof_node, sizeof_type_node, index_node}
use Rattle.elab_meaning.specs.Conversions.{fits, operand, converted, decayed}

-- what stands for a node of which a rule is broken: no accepted tree has it
abbrev pub no_node : Place → TypedExpr
no_node at = node (e.Number 0) Void at

-- a part as a value: an array becomes a pointer
abbrev pub value_part : ReadExpr → Typing TypedExpr
value_part part = do
  x ← part.typed
  pure (decayed x)

-- a part as its operator wants it
abbrev pub wanted_part : Wanted → ReadExpr → Typing TypedExpr
wanted_part plain_value part = value_part part
wanted_part any_place part = part.typed
wanted_part modifiable_place part = part.typed

-- ---- names (6.5.1p2)

-- what a name names here
abbrev pub use_of : Name → Typing (Option NameUse)
use_of name = look (λ s. option_map (λ a. a.1) (lookup name s))

-- no addition, or a typedef's in its own external declaration, where the grammar has it as no type yet (6.2.1p7)
abbrev pub is_unknown : Option NameUse → Bool
is_unknown None = true
is_unknown (Some (Typedef ctype)) = true
is_unknown (Some use_) = false

abbrev pub is_function : Option NameUse → Bool
is_function (Some (Function number params result)) = true
is_function (Some (Library f)) = true
is_function _ = false

abbrev pub named : Option NameUse → Place → TypedExpr
named (Some (Local number ctype)) at = node (e.Local number) ctype at
named (Some (Object number ctype)) at = node (e.Object number) ctype at
-- 6.4.4.3p2
named (Some (Constant n)) at = node (e.Number (arithmetic.converted (number_type int) n)) int at
named _ at = no_node at

abbrev pub name_typed : Name → Place → Typing TypedExpr
name_typed name at = do
  used ← use_of name
  first at ((UnknownName, is_unknown used) ∷ (FunctionPointer, is_function used) ∷ [])
  pure (named used at)

-- ---- constants and literals (6.4.4 and 6.4.5)

-- the types that a number may have, in their order (6.4.4.1p5): a decimal one without u only signed ones, one with u only unsigned ones
abbrev pub signs : NumberKind → Rank → List (Rank × Bool)
signs kind r =
    if kind.unsigned then (r, false) ∷ []
    else (if kind.decimal then (r, true) ∷ []
    else (r, true) ∷ (r, false) ∷ [])

abbrev pub number_types : NumberKind → List (Rank × Bool)
number_types kind = flat_map (signs kind) (drop kind.longs (ranks.Int ∷ ranks.Long ∷ ranks.LongLong ∷ []))

abbrev pub holds : ℕ → Rank × Bool → Bool
holds n t = nat_lt n (if t.1 then sign_bit (rank_width t.0) else width_values (rank_width t.0))

-- The first type that holds it. No type is left for a decimal number without u over 2^63 - 1: it is an unsigned long, which is this
-- project's own.
abbrev pub literal_type : ℕ → NumberKind → CType
literal_type n kind = option_map_or (λ t. ranked t.0 t.1) (find (holds n) (number_types kind)) unsigned_long

-- the object of a string literal, which can't be written: its bytes and the closing NUL (6.4.5p6)
abbrev pub literal : List ℕ → DataDef
literal text = record { name = []; size = length text + 1; writable = false; bytes = text ++ 0 ∷ []; links = [] }

-- the type of a literal's array
abbrev pub text_type : List ℕ → CType
text_type text = Array char (length text + 1)

abbrev pub text_typed : List ℕ → Place → Typing TypedExpr
text_typed text at = do
  first at ((LimitObject, nat_lt largest_type (length text + 1)) ∷ [])
  number ← new_object (literal text)
  pure (node (e.Object number) (text_type text) at)

-- ---- operators

abbrev pub last_type : List TypedExpr → CType
last_type [] = Void
last_type (x ∷ []) = x.ctype
last_type (x ∷ y ∷ more) = last_type (y ∷ more)

-- 6.5.17
abbrev pub comma_typed : List ReadExpr → Place → Typing TypedExpr
comma_typed all at = do
  values ← each (map value_part all)
  pure (node (e.Comma values) (last_type values) at)

-- 6.5.16
abbrev pub assign_typed : AssignOp → ReadExpr → ReadExpr → Place → Typing TypedExpr
assign_typed op to from at = do
  a ← to.typed
  b ← value_part from
  by_tags (λ tags. assign_node tags op a b at)

-- 6.5.15
abbrev pub cond_typed : ReadExpr → ReadExpr → ReadExpr → Place → Typing TypedExpr
cond_typed test then_part else_part at = do
  t ← value_part test
  a ← value_part then_part
  b ← value_part else_part
  by_tags (λ tags. cond_node tags t a b at)

-- 6.5.5 to 6.5.14
abbrev pub binary_typed : BinaryOp → ReadExpr → ReadExpr → Place → Typing TypedExpr
binary_typed op left right at = do
  a ← value_part left
  b ← value_part right
  by_tags (λ tags. binary_node tags op a b at)

-- 6.5.4
abbrev pub cast_typed : ReadTypeName → ReadExpr → Place → Typing TypedExpr
cast_typed to of at = do
  t ← to
  x ← value_part of
  by_tags (λ tags. cast_node tags t x at)

-- 6.5.3.1 to 6.5.3.3
abbrev pub prefix_typed : PrefixOp → ReadExpr → Place → Typing TypedExpr
prefix_typed op of at = do
  x ← wanted_part (wanted op) of
  by_tags (λ tags. prefix_node tags op x at)

-- 6.5.2.4
abbrev pub postfix_typed : PostfixOp → ReadExpr → Place → Typing TypedExpr
postfix_typed op of at = do
  x ← of.typed
  by_tags (λ tags. postfix_node tags op x at)

-- 6.5.3.4
abbrev pub sizeof_typed : ReadExpr → Place → Typing TypedExpr
sizeof_typed of at = do
  x ← of.typed
  by_tags (λ tags. sizeof_node tags x at)

abbrev pub sizeof_type_typed : ReadTypeName → Place → Typing TypedExpr
sizeof_type_typed of at = do
  t ← of
  by_tags (λ tags. sizeof_type_node tags t at)

-- 6.5.2.1
abbrev pub index_typed : ReadExpr → ReadExpr → Place → Typing TypedExpr
index_typed base index at = do
  a ← value_part base
  b ← value_part index
  by_tags (λ tags. index_node tags a b at)

-- ---- members (6.5.2.3)

-- a member of a complete structure or union: its place among the members, and its type
abbrev pub member_in : Name → TagDef → Option (ℕ × CType)
member_in name def =
    if def.complete
    then option_and_then (λ k. option_map (λ m. (k, m.ctype)) (slice_get def.members k)) (position (λ m. bytes_eq m.name name) def.members)
    else None

abbrev pub member_of : List TagDef → CType → Name → Option (ℕ × CType)
member_of tags t name = option_and_then (λ tag. option_and_then (member_in name) (slice_get tags tag)) (tag_of t)

abbrev pub base_part : Bool → ReadExpr → Typing TypedExpr
base_part true base = value_part base
base_part false base = base.typed

-- the structure or union that has the member: behind `->` what the pointer points to
abbrev pub holder : Bool → CType → CType
holder true t = pointed t
holder false t = t

abbrev pub member_node : TypedExpr → Bool → Option (ℕ × CType) → Place → TypedExpr
member_node base arrow None at = no_node at
member_node base arrow (Some m) at = node (e.Member base arrow m.0) m.1 at

abbrev pub member_typed : ReadExpr → Bool → Name → Place → Typing TypedExpr
member_typed base arrow name at = do
  x ← base_part arrow base
  tags ← look (λ s. s.tags)
  let m = member_of tags (holder arrow x.ctype) name
  let is_held = is_some (tag_of (holder arrow x.ctype))
  first at ((UnknownName, is_held && is_none m) ∷ (BadOperands, not is_held) ∷ [])
  pure (member_node x arrow m at)

-- ---- calls (6.5.2.2)

-- a function that is called: with further arguments behind a format, which is then its last parameter, or not
pub record Called : Type 0 where
  pub callee : Callee
  pub params : List CType
  pub variadic : Bool
  pub result : CType

abbrev pub called_use : Option NameUse → Option Called
called_use (Some (Function number params result)) =
    Some (record { callee = callee.Function number; params = params; variadic = false; result = result })
called_use (Some (Library f)) =
    Some (record { callee = callee.Library f; params = lib_parameters f; variadic = (row_of f).variadic; result = lib_result f })
called_use _ = None

-- What is called, if it is a function. A called name is no expression of its own: it is looked up and no more.
abbrev pub called_part : Form → ReadExpr → Typing (Option Called)
called_part (is_name name) part = do
  used ← use_of name
  first part.place ((UnknownName, is_unknown used) ∷ [])
  pure (called_use used)
called_part _ part = do
  x ← part.typed
  pure None

-- the conversions of a format up to its first NUL, none where it is no string literal or has one that isn't allowed
abbrev pub conversions : Form → Option (List Specifier)
conversions (is_text text) = option_map conversions_of (directives_of (take_while (λ b. not (b == 0)) text))
conversions _ = None

abbrev pub is_literal : Form → Bool
is_literal (is_text text) = true
is_literal _ = false

-- the format and the arguments behind it: the rules of the format come right behind it
abbrev pub format_parts : List ReadExpr → Typing (List TypedExpr)
format_parts [] = pure []
format_parts (format ∷ others) = do
  x ← value_part format
  first format.place ((FormatLiteral, not (is_literal format.form)) ∷ (FormatSpec, is_none (conversions format.form)) ∷ [])
  xs ← each (map value_part others)
  pure (x ∷ xs)

-- how many arguments stand before the format of a function that has one
abbrev pub before_format : Option Called → Option ℕ
before_format (Some f) = if f.variadic then Some (length f.params - 1) else None
before_format None = None

abbrev pub argument_parts : Option ℕ → List ReadExpr → Typing (List TypedExpr)
argument_parts None args = each (map value_part args)
argument_parts (Some k) args = do
  before ← each (map value_part (take k args))
  behind ← format_parts (drop k args)
  pure (before ++ behind)

-- 6.5.2.2p2: each argument that has a parameter fits it
abbrev pub arguments_fit : List TagDef → Called → List TypedExpr → Bool
arguments_fit tags f args = list_all (λ p. fits (operand tags p.1) p.0) (zip f.params args)

-- as many arguments as parameters, or no fewer where a format is the last
abbrev pub right_number : Called → List TypedExpr → Bool
right_number f args = if f.variadic then nat_le (length f.params) (length args) else length f.params == length args

-- C11 7.21.6.1p7 to p9: a promoted integer of 4 bytes or of 8, or a pointer to a char type
abbrev pub is_integer_of : ℕ → CType → Bool
is_integer_of bytes t = is_integer t && width_bytes (number_type (promoted t)).width == bytes

abbrev pub argument_fits : Specifier → CType → Bool
argument_fits (specifier.Integer numeral width) t = is_integer_of (if width_bytes width == 8 then 8 else 4) t
argument_fits specifier.Character t = is_integer_of 4 t
argument_fits (specifier.Text precision) t = is_pointer t && is_char (pointed t)

abbrev pub all_fit : List Specifier → List TypedExpr → Bool
all_fit [] [] = true
all_fit (s ∷ ss) (x ∷ xs) = argument_fits s x.ctype && all_fit ss xs
all_fit _ _ = false

-- the arguments behind the format are those that it asks for
abbrev pub further_fit : Called → List ReadExpr → List TypedExpr → Bool
further_fit f parts args =
    if f.variadic
    then option_map_or (λ cs. all_fit cs (drop (length f.params) args))
    (option_and_then (λ format. conversions format.form) (slice_get parts (length f.params - 1))) true
    else true

-- 6.5.2.2p7: to the type of the parameter, and the further ones promoted
abbrev pub converted_arguments : List CType → List TypedExpr → List TypedExpr
converted_arguments params [] = []
converted_arguments [] (x ∷ xs) = converted (promoted x.ctype) x ∷ converted_arguments [] xs
converted_arguments (p ∷ ps) (x ∷ xs) = converted p x ∷ converted_arguments ps xs

abbrev pub call_node : Option Called → List TypedExpr → Place → TypedExpr
call_node None args at = no_node at
call_node (Some f) args at = node (e.Call f.callee (converted_arguments f.params args)) f.result at

abbrev pub call_typed : ReadExpr → List ReadExpr → Place → Typing TypedExpr
call_typed part parts at = do
  f ← called_part part.form part
  args ← argument_parts (before_format f) parts
  tags ← look (λ s. s.tags)
  first at (
      (LimitArguments, nat_lt most_arguments (length args))
      ∷ (BadOperands, option_map_or (λ g. not (arguments_fit tags g args)) f false)
      ∷ (BadCall, option_map_or (λ g. not (right_number g args)) f true)
      ∷ (FormatArgs, option_map_or (λ g. not (further_fit g parts args)) f false) ∷ [])
  pure (call_node f args at)

-- ---- size expressions (GCC manual, "Object Size Checking")

-- The mode is an integer constant expression from 0 to 3, and is not converted. A null pointer constant of integer type is no pointer.
abbrev pub size_call_typed : ReadExpr → ReadExpr → Place → Typing TypedExpr
size_call_typed pointer mode at = do
  p ← value_part pointer
  m ← value_part mode
  tags ← look (λ s. s.tags)
  let n = constant_of tags m
  first mode.place ((NotConstant, is_none n) ∷ (SizeMode, option_map_or (nat_lt 3) n false) ∷ [])
  first at ((BadOperands, not (is_pointer p.ctype)) ∷ [])
  pure (node (e.SizeCall p m) unsigned_long at)

-- ---- each kind

abbrev pub other : (Place → Typing TypedExpr) → ReadKind
other typed = record { form = is_other; typed = typed }

abbrev pub kind_layer : KindLayer → ReadKind
kind_layer (ExprKind-F.«ExprKind::Name» name) = record { form = is_name name; typed = name_typed name }
kind_layer (ExprKind-F.Number value kind) = other (λ at. pure (node (e.Number value) (literal_type value kind) at))
-- 6.4.4.4p10: an int of the value of a char
kind_layer (ExprKind-F.CharConst byte) = other (λ at. pure (node (e.Number (extended byte W1 true)) int at))
kind_layer (ExprKind-F.Str text) = record { form = is_text text; typed = text_typed text }
kind_layer (ExprKind-F.Comma all) = other (comma_typed all)
kind_layer (ExprKind-F.Assign op to from) = other (assign_typed op to from)
kind_layer (ExprKind-F.Cond test then_part else_part) = other (cond_typed test then_part else_part)
kind_layer (ExprKind-F.Binary op a b) = other (binary_typed op a b)
kind_layer (ExprKind-F.Cast to of) = other (cast_typed to of)
kind_layer (ExprKind-F.Prefix op of) = other (prefix_typed op of)
kind_layer (ExprKind-F.Postfix op of) = other (postfix_typed op of)
kind_layer (ExprKind-F.SizeofExpr of) = other (sizeof_typed of)
kind_layer (ExprKind-F.SizeofType of) = other (sizeof_type_typed of)
kind_layer (ExprKind-F.Index base index) = other (index_typed base index)
kind_layer (ExprKind-F.Call part args) = other (call_typed part args)
kind_layer (ExprKind-F.Member base arrow name) = other (member_typed base arrow name)
kind_layer (ExprKind-F.SizeCall pointer mode) = other (size_call_typed pointer mode)

abbrev pub expr_layer : ExprLayer → ReadExpr
expr_layer x = record { form = x.kind.form; place = x.place; typed = x.kind.typed x.place }
