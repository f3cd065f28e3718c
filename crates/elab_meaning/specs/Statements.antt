-- Statements and the variables of blocks (C11 6.7 and 6.8): each kind of node by its parts.
use Rattle.std.specs.Prelude.{ℕ, ◌==◌, nat_lt, Bool, true, false, not, ◌&&◌, ◌||◌, if◌then◌else◌, is_none, ⊤, List, [], ◌∷◌, ◌++◌, map, flat_map, slice_set, Option, None, Some, unwrap_or}
use Rattle.std.specs.List.{list_any}
use Rattle.std.specs.Option.{option_map, option_map_or}
use Rattle.fc_base.specs.declared.refusals.Place.{Place}
use Rattle.fc_base.specs.declared.rules.Rule.TheVariants.{Redeclared, IncompleteType, BadType, LimitObject, ByValue, FunctionPointer, LimitArguments, NotConstant, BadOperands, BadStatement}
use Rattle.c_layout.specs.declared.types.CType.{CType}
use Rattle.c_layout.specs.declared.tags.TagDef.{TagDef}
use Rattle.c_layout.specs.Layouts.{largest_type, layout}
use Rattle.c_layout.specs.Types.{is_void, is_integer, is_scalar, is_open_array, promoted}
use Rattle.c_tree.specs.declared.nodes.Expr.{Expr}
use Rattle.c_tree.specs.declared.nodes.Spec.{Spec}
use Rattle.c_tree.specs.declared.programs.DataDef.{DataDef}
use Rattle.c_tree.specs.declared.statements.ForHead.{ForHead}
use Rattle.c_tree.specs.declared.statements.ForHead.TheVariants as written_head
use Rattle.c_tree.specs.declared.statements.Init.{Init}
use Rattle.c_tree.specs.declared.statements.InitDeclarator.{InitDeclarator}
use Rattle.c_tree.specs.declared.statements.Stmt.{Stmt, fold-Stmt}
use Rattle.c_tree.specs.declared.statements.Stmt.TheOpen.{Stmt-F}
use Rattle.c_tree.specs.declared.typed.TypedDeclare.{TypedDeclare}
use Rattle.c_tree.specs.declared.typed.TypedExpr.{TypedExpr}
use Rattle.c_tree.specs.declared.typed.TypedForHead.{TypedForHead}
use Rattle.c_tree.specs.declared.typed.TypedForHead.TheVariants as head
use Rattle.c_tree.specs.declared.typed.TypedInit.{TypedInit}
use Rattle.c_tree.specs.declared.typed.TypedStmt.{TypedStmt}
use Rattle.c_tree.specs.declared.typed.TypedStmt.TheVariants as s
use Rattle.c_tree.specs.Constants.{constant_of}
use Rattle.elab_meaning.specs.declared.names.NameUse.TheVariants.{Local, Object}
use Rattle.elab_meaning.specs.Scope.{Name, add, len, cut, set_object}
use Rattle.elab_meaning.specs.Typing.{Check, Typing, ◌>>=◌, ◌>>◌, pure, if_any, first, look, change, note, new_object, new_local}
use Rattle.elab_meaning.specs.Parts.{ReadDeclarator}
use Rattle.elab_meaning.specs.Conversions.{fits, operand, converted, has_size}
use Rattle.elab_meaning.specs.Expressions.{value_part}
use Rattle.elab_meaning.specs.Declarations.{Specifiers, specifiers_part, has_function_words, Formed, formed, passes_limit, type_made, is_declared_from}
use Rattle.elab_meaning.specs.Trees.{read_expr, read_spec, read_declarator}
use Rattle.elab_meaning.specs.Initialisers.{Leaf, leaves, completes, initialised, is_constant_leaf, variable_of}

-- ---- variables with static storage, in a block or in a file

abbrev pub size_in : List TagDef → CType → ℕ
size_in tags t = option_map_or (λ l. l.size) (layout tags t) 0

-- The size of a variable while its initialiser is read: an array without a bound counts as the limit, since its own size comes of it.
abbrev pub size_meanwhile : List TagDef → CType → ℕ
size_meanwhile tags t = if is_open_array t then largest_type else size_in tags t

-- the object of a variable before its type is known
abbrev pub nameless : DataDef
nameless = variable_of [] [] [] 0 []

abbrev pub store_variable : ℕ → Name → CType → List Leaf → Typing ⊤
store_variable number name t ls =
    change (λ scope. set_object number (variable_of scope.tags scope.objects name (size_in scope.tags t) ls) scope)

-- Once an array has its bound, its size is its own: pointers into it that pass that are no constants.
abbrev pub constant_leaves : List Leaf → Typing ⊤
constant_leaves [] = pure tt
constant_leaves (l ∷ ls) = do
  scope ← look (λ scope. scope)
  first l.value.place ((NotConstant, not (is_constant_leaf scope.tags scope.objects l)) ∷ [])
  constant_leaves ls

-- the initialiser of a static variable: its type behind it, and its object
abbrev pub static_initialised : ℕ → Name → CType → Init → Typing CType
static_initialised number name t init = do
  change (λ scope. set_object number (variable_of scope.tags scope.objects name (size_meanwhile scope.tags t) []) scope)
  x ← initialised true t init
  change (λ scope. set_object number (variable_of scope.tags scope.objects name (size_in scope.tags x.ctype) []) scope)
  constant_leaves (leaves x.init)
  store_variable number name x.ctype (leaves x.init)
  pure x.ctype

-- a static variable of that number: its type behind its initialiser, if it has one; else it is zero (6.7.9p10)
abbrev pub static_variable : ℕ → Name → CType → Option Init → Typing CType
static_variable number name t None = do
  store_variable number name t []
  pure t
static_variable number name t (Some init) = static_initialised number name t init

-- the rules of a variable's declarator, but for redeclared, which stands before them
abbrev pub variable_checks : List TagDef → Specifiers → Formed → Option Init → List Check
variable_checks tags specs f init =
    (IncompleteType, not (has_size tags (type_made f.made) || option_map_or (completes (type_made f.made)) init false))
    ∷ (BadType, f.bad_type || has_function_words specs)
    ∷ (LimitObject, passes_limit f)
    ∷ (ByValue, f.by_value)
    ∷ (FunctionPointer, f.function_pointer)
    ∷ (LimitArguments, f.too_many) ∷ []

-- an array that its initialiser completed may be over the limit
abbrev pub limit_completed : Place → CType → CType → Typing ⊤
limit_completed place before t = do
  tags ← look (λ scope. scope.tags)
  first place ((LimitObject, is_open_array before && nat_lt largest_type (size_in tags t)) ∷ [])

-- ---- the variables of blocks (6.7)

-- what is around a statement: the result of its function, where its block begins, and what `break` and `continue` would leave
pub record Around : Type 0 where
  pub result : CType
  pub start : ℕ
  pub can_break : Bool
  pub can_continue : Bool

-- the name of a declarator that has one
abbrev pub name_of : ReadDeclarator → Name
name_of d = unwrap_or d.name []

abbrev pub whole_local : ℕ → Name → CType → Typing ⊤
whole_local number name t = do
  note (λ b. record b { locals = slice_set b.locals number (name, t) })
  change (add name (Local number t))

abbrev pub local_initialised : ℕ → ReadDeclarator → CType → Option Init → Typing (Option TypedInit)
local_initialised number d t None = pure None
local_initialised number d t (Some init) = do
  x ← initialised false t init
  limit_completed d.place t x.ctype
  whole_local number (name_of d) x.ctype
  pure (Some x.init)

-- The name is there behind its declarator, and so in its own initialiser (6.2.1p7), where an array without a bound has none yet.
abbrev pub local_part : Around → Specifiers → ReadDeclarator → Option Init → Typing (List TypedDeclare)
local_part around specs d init = do
  shape ← d.parts
  scope ← look (λ scope. scope)
  let f = formed scope.tags specs.base shape
  first d.place ((Redeclared, is_declared_from around.start (name_of d) scope) ∷ variable_checks scope.tags specs f init)
  number ← new_local (name_of d) (type_made f.made)
  change (add (name_of d) (Local number (type_made f.made)))
  x ← local_initialised number d (type_made f.made) init
  pure (record { local = number; init = x; place = d.place } ∷ [])

-- A static variable is an object from its declarator on, before the string literals in that, and leaves no declaration.
abbrev pub static_part : Around → Specifiers → ReadDeclarator → Option Init → Typing (List TypedDeclare)
static_part around specs d init = do
  number ← new_object nameless
  shape ← d.parts
  scope ← look (λ scope. scope)
  let f = formed scope.tags specs.base shape
  first d.place ((Redeclared, is_declared_from around.start (name_of d) scope) ∷ variable_checks scope.tags specs f init)
  change (add (name_of d) (Object number (type_made f.made)))
  t ← static_variable number (name_of d) (type_made f.made) init
  limit_completed d.place (type_made f.made) t
  change (add (name_of d) (Object number t))
  pure []

-- the specifiers with the attributes behind a declarator
abbrev pub with_attributes : Specifiers → InitDeclarator → Specifiers
with_attributes specs d = record specs { attributes = specs.attributes ++ flat_map (λ list. list) d.attributes }

abbrev pub variable_part : Around → Specifiers → InitDeclarator → Typing (List TypedDeclare)
variable_part around specs d =
    if specs.is_static
    then static_part around (with_attributes specs d) (read_declarator d.declarator) d.init
    else local_part around (with_attributes specs d) (read_declarator d.declarator) d.init

abbrev pub variable_parts : Around → Specifiers → List InitDeclarator → Typing (List TypedDeclare)
variable_parts around specs [] = pure []
variable_parts around specs (d ∷ ds) = do
  one ← variable_part around specs d
  more ← variable_parts around specs ds
  pure (one ++ more)

abbrev pub block_declaration : Around → List Spec → List InitDeclarator → Typing (List TypedDeclare)
block_declaration around specs ds = do
  known ← specifiers_part (map read_spec specs)
  variable_parts around known ds

-- ---- expressions in statements

abbrev pub value : Expr → Typing TypedExpr
value x = value_part (read_expr x)

-- a test is a scalar, and is looked at right behind itself, at the statement (6.8.4.1p1, 6.8.5p2)
abbrev pub test_part : Place → Expr → Typing TypedExpr
test_part place x = do
  t ← value x
  first place ((BadOperands, not (is_scalar t.ctype)) ∷ [])
  pure t

-- ---- what statements are to those that hold them

-- whether a statement is a label of a switch
pub data Label : Type 0 where
  no_label : Label
  case_label : Expr → Place → Label
  default_label : Place → Label

-- A statement: whether it is a label; how it is typed, where a declaration becomes one for each variable that isn't static; and how it is
-- typed in the scope around it, as the block of a function's body is.
pub record ReadStmt : Type 0 where
  pub label : Label
  pub typed : Around → Typing (List TypedStmt)
  pub unscoped : Around → Typing (List TypedStmt)

abbrev pub plain : (Around → Typing (List TypedStmt)) → ReadStmt
plain typed = record { label = no_label; typed = typed; unscoped = typed }

-- a statement that gives one
abbrev pub single : (Around → Typing TypedStmt) → ReadStmt
single typed = plain (λ around. do
  x ← typed around
  pure (x ∷ []))

-- the statement that a part of another gives: the grammar has no declaration there
abbrev pub one_of : Place → List TypedStmt → TypedStmt
one_of place [] = s.Expr None place
one_of place (x ∷ xs) = x

abbrev pub part : Place → Around → ReadStmt → Typing TypedStmt
part place around r = do
  xs ← r.typed around
  pure (one_of place xs)

abbrev pub item_parts : Around → List ReadStmt → Typing (List TypedStmt)
item_parts around [] = pure []
item_parts around (r ∷ rs) = do
  xs ← r.typed around
  more ← item_parts around rs
  pure (xs ++ more)

-- in a scope of its own, which begins here (6.2.1p4)
abbrev pub scoped : {A : Type 0} → (Around → Typing A) → Around → Typing A
scoped typed around = do
  start ← look len
  x ← typed (record around { start = start })
  change (cut start)
  pure x

-- ---- one kind after the other

abbrev pub expr_stmt : Option Expr → Place → Typing TypedStmt
expr_stmt x place = do
  y ← if_any (option_map value x)
  pure (s.Expr y place)

abbrev pub else_stmt : Place → Around → Option ReadStmt → Typing (Option TypedStmt)
else_stmt place around None = pure None
else_stmt place around (Some r) = do
  x ← part place around r
  pure (Some x)

abbrev pub if_stmt : Expr → ReadStmt → Option ReadStmt → Place → Around → Typing TypedStmt
if_stmt test then_part else_part place around = do
  t ← test_part place test
  a ← part place around then_part
  b ← else_stmt place around else_part
  pure (s.If t a b place)

abbrev pub in_loop : Around → Around
in_loop around = record around { can_break = true; can_continue = true }

abbrev pub while_stmt : Expr → ReadStmt → Place → Around → Typing TypedStmt
while_stmt test body place around = do
  t ← test_part place test
  b ← part place (in_loop around) body
  pure (s.While t b place)

abbrev pub do_stmt : ReadStmt → Expr → Place → Around → Typing TypedStmt
do_stmt body test place around = do
  b ← part place (in_loop around) body
  t ← test_part place test
  pure (s.Do b t place)

abbrev pub head_part : ForHead → Around → Typing TypedForHead
head_part (written_head.Expr x) around = do
  y ← if_any (option_map value x)
  pure (head.Evaluate y)
head_part (written_head.Declare specs ds) around = do
  variables ← block_declaration around specs ds
  pure (head.Variables variables)

abbrev pub for_stmt : ForHead → Option Expr → Option Expr → ReadStmt → Place → Around → Typing TypedStmt
for_stmt before test step body place around = do
  h ← head_part before around
  t ← if_any (option_map (test_part place) test)
  n ← if_any (option_map value step)
  b ← part place (in_loop around) body
  pure (s.For h t n b place)

-- ---- switches (6.8.4.2)

-- the values of the cases so far, and whether a default stood
pub record Labels : Type 0 where
  pub values : List ℕ
  pub has_default : Bool

-- p3: an integer constant expression, converted to the promoted type of the switch; no two have one value
abbrev pub case_part : CType → Labels → Expr → Place → Typing (TypedExpr × Labels)
case_part t seen x place = do
  y ← value x
  tags ← look (λ scope. scope.tags)
  first (read_expr x).place ((NotConstant, is_none (constant_of tags y)) ∷ [])
  let n = unwrap_or (constant_of tags (converted t y)) 0
  first place ((BadStatement, list_any (λ m. m == n) seen.values) ∷ [])
  pure (converted t y, record seen { values = n ∷ seen.values })

abbrev pub label_part : CType → Labels → Around → Label → ReadStmt → Typing (List TypedStmt × Labels)
label_part t seen around no_label r = do
  xs ← r.typed around
  pure (xs, seen)
label_part t seen around (case_label x place) r = do
  (y, now) ← case_part t seen x place
  pure (s.Case y place ∷ [], now)
label_part t seen around (default_label place) r = do
  first place ((BadStatement, seen.has_default) ∷ [])
  pure (s.Default place ∷ [], record seen { has_default = true })

abbrev pub switch_items : CType → Labels → Around → List ReadStmt → Typing (List TypedStmt)
switch_items t seen around [] = pure []
switch_items t seen around (r ∷ rs) = do
  (xs, now) ← label_part t seen around r.label r
  more ← switch_items t now around rs
  pure (xs ++ more)

-- p1: the test is an integer, and is promoted (p5)
abbrev pub switch_stmt : Expr → List ReadStmt → Place → Around → Typing TypedStmt
switch_stmt subject items place around = do
  x ← value subject
  first place ((BadOperands, not (is_integer x.ctype)) ∷ [])
  let t = promoted x.ctype
  ys ← switch_items t (record { values = []; has_default = false }) (record around { can_break = true }) items
  pure (s.Switch (converted t x) ys place)

-- ---- jumps (6.8.6)

-- p1 of 6.8.6.4: no value in a function that gives void, whatever its type, and one in each other, which is converted (p3)
abbrev pub return_value : CType → Place → Expr → Typing TypedExpr
return_value result place x = do
  y ← value x
  tags ← look (λ scope. scope.tags)
  first place ((BadOperands, not (is_void result) && not (fits (operand tags y) result)) ∷ (BadStatement, is_void result) ∷ [])
  pure (converted result y)

abbrev pub return_stmt : Option Expr → Place → Around → Typing TypedStmt
return_stmt None place around = do
  first place ((BadStatement, not (is_void around.result)) ∷ [])
  pure (s.Return None place)
return_stmt (Some x) place around = do
  y ← return_value around.result place x
  pure (s.Return (Some y) place)

-- ---- each kind

abbrev pub block_stmt : List ReadStmt → Place → Around → Typing (List TypedStmt)
block_stmt items place around = do
  xs ← item_parts around items
  pure (s.Block xs place ∷ [])

abbrev pub block_layer : List ReadStmt → Place → ReadStmt
block_layer items place =
    record { label = no_label; typed = scoped (block_stmt items place); unscoped = block_stmt items place }

abbrev pub stmt_layer : Stmt-F ReadStmt → ReadStmt
stmt_layer (Stmt-F.Block items place) = block_layer items place
stmt_layer (Stmt-F.Declare specs declarators place) = plain (λ around. do
  ds ← block_declaration around specs declarators
  pure (map s.Declare ds))
stmt_layer (Stmt-F.Expr x place) = single (λ around. expr_stmt x place)
stmt_layer (Stmt-F.If test then_part else_part place) = single (if_stmt test then_part else_part place)
stmt_layer (Stmt-F.While test body place) = single (while_stmt test body place)
stmt_layer (Stmt-F.Do body test place) = single (do_stmt body test place)
-- 6.8.5p5: the whole statement is a scope
stmt_layer (Stmt-F.For before test step body place) = single (scoped (for_stmt before test step body place))
stmt_layer (Stmt-F.Switch subject items place) = single (switch_stmt subject items place)
stmt_layer (Stmt-F.Break place) = single (λ around. do
  first place ((BadStatement, not around.can_break) ∷ [])
  pure (s.Break place))
stmt_layer (Stmt-F.Continue place) = single (λ around. do
  first place ((BadStatement, not around.can_continue) ∷ [])
  pure (s.Continue place))
stmt_layer (Stmt-F.Return x place) = single (return_stmt x place)
-- Labels stand among the items of a switch alone, which reads them itself.
stmt_layer (Stmt-F.Case x place) = record (plain (λ around. pure [])) { label = case_label x place }
stmt_layer (Stmt-F.Default place) = record (plain (λ around. pure [])) { label = default_label place }

abbrev pub read_stmt : Stmt → ReadStmt
read_stmt = fold-Stmt ReadStmt stmt_layer

-- the body of a function, whose block is one scope with the parameters (6.2.1p4)
abbrev pub body_stmt : Place → Stmt → Around → Typing TypedStmt
body_stmt place body around = do
  xs ← (read_stmt body).unscoped around
  pure (one_of place xs)
