-- Expressions (C11 6.5): what each kind of node means, as actions over those of its operands. Operands go from left to right in the order
-- of the text; that is this project's own where C11 leaves it open (6.5p3). A node is undefined at its own place.
--
-- A node has a value, and an lvalue where it designates an object (6.3.2.1p1). Typing has written out each conversion, so each node is a
-- function of its operands as they stand.
use Rattle.std.specs.Prelude.{ℕ, zero, suc, Bool, true, false, not, ◌&&◌, if◌then◌else◌, List, [], ◌∷◌, ◌++◌, Option, None, Some, Result, Ok}
use Rattle.std.specs.Option.{option_map_or}
use Rattle.fc_base.specs.declared.levels.Mode.{Mode}
use Rattle.fc_base.specs.declared.levels.Mode.TheVariants.{M0, M1, M2, M3}
use Rattle.fc_base.specs.declared.refusals.Place.{Place}
use Rattle.fc_base.specs.declared.undefined.UndefKind.{UndefKind}
use Rattle.fc_base.specs.declared.undefined.UndefKind.TheVariants as kind
use Rattle.c_arithmetic.specs.declared.operators.BinaryOperator.{BinaryOperator}
use Rattle.c_arithmetic.specs.declared.operators.BinaryOperator.TheVariants as op
use Rattle.c_arithmetic.specs.declared.operators.UnaryOperator.{UnaryOperator}
use Rattle.c_arithmetic.specs.Arithmetic.{binary, unary, cut, converted, truth}
use Rattle.c_layout.specs.declared.tags.TagDef.{TagDef}
use Rattle.c_layout.specs.declared.types.CType.{CType}
use Rattle.c_layout.specs.declared.types.Layout.{Layout}
use Rattle.c_layout.specs.Layouts.{layout, last_layout, tag_layout, offset}
use Rattle.c_layout.specs.Types.{int, long, is_void, is_integer, is_pointer, is_array, is_structure, tag_of, pointed, promoted}
use Rattle.c_tree.specs.declared.operators.AssignOp.{AssignOp}
use Rattle.c_tree.specs.declared.operators.BinaryOp.{BinaryOp}
use Rattle.c_tree.specs.declared.operators.BinaryOp.TheVariants.{LogicalOr, LogicalAnd}
use Rattle.c_tree.specs.declared.operators.PostfixOp.{PostfixOp}
use Rattle.c_tree.specs.declared.operators.PostfixOp.TheVariants as postfix
use Rattle.c_tree.specs.declared.operators.PrefixOp.{PrefixOp}
use Rattle.c_tree.specs.declared.operators.PrefixOp.TheVariants as prefix_op
use Rattle.c_tree.specs.declared.typed.Callee.{Callee}
use Rattle.c_tree.specs.declared.typed.Callee.TheVariants.{Function, Library}
use Rattle.c_tree.specs.declared.typed.TypedExpr.{TypedExpr, fold-TypedExpr}
use Rattle.c_tree.specs.declared.typed.TypedKind.{TypedKind, roll-TypedKind}
use Rattle.c_tree.specs.declared.typed.TypedKind.TheFolds.{map-TypedKind}
use Rattle.c_tree.specs.declared.typed.TypedKind.TheOpen.{TypedKind-F, TypedExpr-F}
use Rattle.c_tree.specs.Constants.{constant_of}
use Rattle.c_tree.specs.Conversions.{common, number_type}
use Rattle.c_tree.specs.Operators.{assign_operator, binary_operator, unary_operator}
use Rattle.c_tree.specs.Paths.{is_trailing}
use Rattle.library_meaning.specs.Scan.{and_then}
use Rattle.run_meaning.specs.Events.{Asked}
use Rattle.object_meaning.specs.Comparisons.{equal, less, difference}
use Rattle.object_meaning.specs.LibraryCalls.{number_in}
use Rattle.object_meaning.specs.Memory.{named_place, part_place, trail_place}
use Rattle.object_meaning.specs.Objects.{Object}
use Rattle.object_meaning.specs.OnObjects.{as_pointer}
use Rattle.object_meaning.specs.Provenance.{null, home}
use Rattle.object_meaning.specs.Sizes.{unknown_size}
use Rattle.object_meaning.specs.Touches.{test, is_dead}
use Rattle.object_meaning.specs.declared.values.PtrValue.{PtrValue}
use Rattle.object_meaning.specs.declared.values.Value.{Value}
use Rattle.object_meaning.specs.declared.values.Value.TheVariants.{Int, Pointer, Uninit, Nothing}
use Rattle.plain_meaning.specs.Actions.{Action, ◌>>=◌, ◌>>◌, pure, defined, passes, note, objects, as_argument}
use Rattle.plain_meaning.specs.Library.{asked, library}
use Rattle.plain_meaning.specs.Paths.{is_named, has_effects}
use Rattle.plain_meaning.specs.Values.{uses, holds, computed, size_in, bytes_up, bytes_down, Lvalue, InMemory, no_lvalue, variable, place_in, load, store, copy, moved}

-- a call of the file's function of that number, whose name stands at that place
abbrev pub Calls : Type 0
Calls = ℕ → Place → List Value → Action Value

-- what a node is to the node around it: the tree itself, its value, and what it designates
pub record Part : Type 0 where
  pub whole : TypedExpr
  pub value : Action Value
  pub lvalue : Action Lvalue

-- the same of a kind of node, which has yet to get its type and place
pub record KindPart : Type 0 where
  pub whole : TypedKind
  pub value : TypedExpr → Action Value
  pub lvalue : TypedExpr → Action Lvalue

abbrev pub type_of : Part → CType
type_of p = p.whole.ctype

-- values one after the other, behind those that are there
abbrev pub values : List Value → List Part → Action (List Value)
values done [] = pure done
values done (p ∷ ps) = do
  v ← p.value
  values (done ++ v ∷ []) ps

-- ---- arithmetic

-- a conversion to a type (6.3.1.3, 6.3.2.3p7): a pointer keeps all that is known of it
abbrev pub converted_to : CType → Value → Value
converted_to t (Int n) = Int (cut (number_type t) n)
converted_to t (Pointer v) = Pointer v
converted_to t Uninit = Uninit
converted_to t Nothing = Nothing

abbrev pub as_number : Bool → Result ℕ UndefKind
as_number t = Ok (truth t)

-- two pointers (6.5.6p9, 6.5.8p5, 6.5.9p6), to elements of so many bytes
abbrev pub compared : BinaryOperator → List Object → ℕ → PtrValue → PtrValue → Result ℕ UndefKind
compared op.Equal objs size v w = and_then (equal objs v w) as_number
compared op.NotEqual objs size v w = and_then (equal objs v w) (λ t. as_number (not t))
compared op.Less objs size v w = and_then (less objs v w) as_number
compared op.Greater objs size v w = and_then (less objs w v) as_number
compared op.LessEqual objs size v w = and_then (less objs w v) (λ t. as_number (not t))
compared op.GreaterEqual objs size v w = and_then (less objs v w) (λ t. as_number (not t))
compared op.Subtract objs size v w = and_then (difference objs size v w) (λ z. Ok (converted (number_type long) z))
compared _ objs size v w = Ok 0

-- a shift is of its left operand's type; any other operator of that of both (6.5.7p3, 6.5.16.2p3)
abbrev pub operation_type : BinaryOperator → CType → CType → CType
operation_type op.ShiftLeft to from = promoted to
operation_type op.ShiftRight to from = promoted to
operation_type _ to from = from

-- the number of a mode (GCC manual, "Object Size Checking")
abbrev pub numbered_mode : ℕ → Mode
numbered_mode zero = M0
numbered_mode (suc zero) = M1
numbered_mode (suc (suc zero)) = M2
numbered_mode (suc (suc (suc n))) = M3

-- where a member or an array stands: it is trailing, or on a named path, or on one from a pointer
abbrev pub member_place : Bool → Bool → ℕ → ℕ → List Object → PtrValue → Result PtrValue UndefKind
member_place true named k size objs v = trail_place objs k v
member_place false true k size objs v = named_place objs k size v
member_place false false k size objs v = part_place objs k size v

-- one written `[]` ends where its place does: with the variable that its initialiser completes, or as the member that was declared so
abbrev pub array_place : Bool → Bool → Option Layout → List Object → PtrValue → Result PtrValue UndefKind
array_place true named size objs v = trail_place objs 0 v
array_place false named None objs v = Ok v
array_place false true (Some l) objs v = named_place objs 0 l.size v
array_place false false (Some l) objs v = part_place objs 0 l.size v

module _ (tags : List TagDef) (call : Calls) where
  -- ---- what nodes designate

  -- `*e` (6.5.3.2p4): nothing is looked at yet
  abbrev pub indirection : Part → TypedExpr → Action Lvalue
  indirection of e = do
    v ← of.value
    uses e.place (v ∷ [])
    pure (InMemory (as_pointer v))

  -- the pointer of two values moved by as many elements as the other one is, whichever of them it is
  abbrev pub element_of : CType → CType → TypedExpr → Value → Value → Action Value
  element_of t u e x y =
      if is_pointer t
      then moved e.place (as_pointer x) (bytes_up tags t u (number_in y))
      else moved e.place (as_pointer y) (bytes_up tags u t (number_in x))

  -- `a[i]` is the pointer moved by so many elements (6.5.2.1p2)
  abbrev pub element : Part → Part → TypedExpr → Action Value
  element a b e = do
    x ← a.value
    y ← b.value
    uses e.place (x ∷ y ∷ [])
    element_of (type_of a) (type_of b) e x y

  abbrev pub indexed : Part → Part → TypedExpr → Action Lvalue
  indexed a b e = do
    v ← element a b e
    pure (InMemory (as_pointer v))

  -- how far behind its structure or union a member stands, and how many bytes are declared for it: `[]` has none (6.7.2.1p18)
  abbrev pub member_offset : CType → ℕ → ℕ
  member_offset whole member = option_map_or (λ tag. option_map_or (λ k. k) (offset tags tag member) 0) (tag_of whole) 0

  abbrev pub declared_size : CType → ℕ
  declared_size t = option_map_or (λ l. l.size) (last_layout (tag_layout tags) t) 0

  -- `e.m` and `e->m` (6.5.2.3): the place of a structure is its value
  abbrev pub selected : Part → Bool → ℕ → TypedExpr → Action Lvalue
  selected base arrow member e = do
    v ← base.value
    uses e.place (v ∷ [])
    objs ← objects
    let whole = if arrow then pointed (type_of base) else type_of base
    p ← defined e.place
        (member_place (is_trailing tags e) (is_named e) (member_offset whole member) (declared_size e.ctype) objs (as_pointer v))
    pure (InMemory p)

  -- a file variable, a static variable or a string literal (6.5.1p2 and p4)
  abbrev pub data_object : ℕ → Action Lvalue
  data_object n = do
    objs ← objects
    pure (InMemory (home objs n))

  abbrev pub kind_lvalue : TypedKind-F KindPart Part → TypedExpr → Action Lvalue
  kind_lvalue (TypedKind-F.Local n) e = variable n
  kind_lvalue (TypedKind-F.Object n) e = data_object n
  kind_lvalue (TypedKind-F.Prefix prefix_op.Indirection of) e = indirection of e
  kind_lvalue (TypedKind-F.Index a b) e = indexed a b e
  kind_lvalue (TypedKind-F.Member base arrow member) e = selected base arrow member e
  kind_lvalue _ e = no_lvalue

  -- ---- the values of nodes

  -- lvalue conversion (6.3.2.1p2)
  abbrev pub loaded : Action Lvalue → TypedExpr → Action Value
  loaded lvalue e = do
    x ← lvalue
    load e.place e.ctype x

  -- an array becomes a pointer to its first element (6.3.2.1p3)
  abbrev pub array_pointer : Part → Action Value
  array_pointer of = do
    x ← of.lvalue
    objs ← objects
    p ← defined of.whole.place
        (array_place (is_trailing tags of.whole) (is_named of.whole) (layout tags (type_of of)) objs (place_in x))
    pure (Pointer p)

  -- 6.5.4. A conversion from an integer to a pointer is that of a null pointer constant (6.3.2.3p3)
  abbrev pub cast : Part → TypedExpr → Action Value
  cast of e =
      if is_void e.ctype then (do
        v ← of.value
        pure Nothing)
      else if is_array (type_of of) then array_pointer of
      else if is_pointer e.ctype && is_integer (type_of of) then pure (Pointer null)
      else (do
        v ← of.value
        uses e.place (v ∷ [])
        pure (converted_to e.ctype v))

  -- ---- operators

  -- of integers (6.5.5 to 6.5.12): both are of the left one's type, but for the count of a shift
  abbrev pub on_integers : BinaryOperator → CType → TypedExpr → Value → Value → Action Value
  on_integers o t e x y = computed e.place (binary o (number_type t) (number_in x) (number_in y))

  -- of a pointer and a number (6.5.6p8)
  abbrev pub on_pointer : BinaryOperator → CType → CType → TypedExpr → Value → Value → Action Value
  on_pointer op.Subtract to from e x y = moved e.place (as_pointer x) (bytes_down tags to from (number_in y))
  on_pointer _ to from e x y = moved e.place (as_pointer x) (bytes_up tags to from (number_in y))

  -- of two pointers
  abbrev pub on_pointers : BinaryOperator → CType → TypedExpr → Value → Value → Action Value
  on_pointers o t e x y = do
    objs ← objects
    n ← defined e.place (compared o objs (size_in tags (pointed t)) (as_pointer x) (as_pointer y))
    pure (Int n)

  abbrev pub operated : Bool → Bool → BinaryOperator → CType → CType → TypedExpr → Value → Value → Action Value
  operated false false o t u e x y = on_integers o t e x y
  operated true false o t u e x y = on_pointer o t u e x y
  operated false true o t u e x y = on_pointer o u t e y x
  operated true true o t u e x y = on_pointers o t e x y

  abbrev pub both : BinaryOperator → Part → Part → TypedExpr → Action Value
  both o a b e = do
    x ← a.value
    y ← b.value
    uses e.place (x ∷ y ∷ [])
    operated (is_pointer (type_of a)) (is_pointer (type_of b)) o (type_of a) (type_of b) e x y

  -- 1 or 0, by whether a value is unequal to 0
  abbrev pub tested_value : Part → TypedExpr → Action Value
  tested_value of e = do
    v ← of.value
    t ← holds e.place v
    pure (Int (truth t))

  -- `&&` and `||` (6.5.13p4, 6.5.14p4)
  abbrev pub conjunction : Part → Part → TypedExpr → Action Value
  conjunction a b e = do
    x ← a.value
    t ← holds e.place x
    if t then tested_value b e else pure (Int 0)

  abbrev pub disjunction : Part → Part → TypedExpr → Action Value
  disjunction a b e = do
    x ← a.value
    t ← holds e.place x
    if t then pure (Int 1) else tested_value b e

  abbrev pub binary_value : BinaryOp → Part → Part → TypedExpr → Action Value
  binary_value LogicalAnd a b e = conjunction a b e
  binary_value LogicalOr a b e = disjunction a b e
  binary_value o a b e = option_map_or (λ by. both by a b e) (binary_operator o) (pure Nothing)

  -- `?:` (6.5.15p4): the chosen operand is handed on as it is
  abbrev pub chosen : Part → Part → Part → TypedExpr → Action Value
  chosen test a b e = do
    v ← test.value
    t ← holds e.place v
    if t then a.value else b.value

  -- a comma (6.5.17p2): each value but the last is discarded
  abbrev pub last_value : List Part → Action Value
  last_value [] = pure Nothing
  last_value (p ∷ []) = p.value
  last_value (p ∷ q ∷ more) = do
    v ← p.value
    last_value (q ∷ more)

  -- ---- assignments (6.5.16)

  abbrev pub assigned : Part → Part → TypedExpr → Action Value
  assigned to from e = do
    left ← to.lvalue
    v ← from.value
    uses e.place (v ∷ [])
    store e.place e.ctype left v
    pure v

  -- of structures and unions: the cells are copied, and the value is the left side's place
  abbrev pub copied : Part → Part → TypedExpr → Action Value
  copied to from e = do
    left ← to.lvalue
    v ← from.value
    copy tags e.place e.ctype (place_in left) (as_pointer v)
    pure (Pointer (place_in left))

  -- the old value of a compound assignment, converted to the operation's type, by the right one; converted back (6.5.16.2p3)
  abbrev pub combined : BinaryOperator → CType → CType → TypedExpr → Value → Value → Action Value
  combined o to from e old v =
      if is_pointer to then on_pointer o to from e old v
      else (do
        n ← on_integers o (operation_type o to from) e (converted_to (operation_type o to from) old) v
        pure (converted_to to n))

  -- the left side, its old value, the right side, the operation, and the store
  abbrev pub compound : BinaryOperator → Part → Part → TypedExpr → Action Value
  compound o to from e = do
    left ← to.lvalue
    old ← load e.place e.ctype left
    v ← from.value
    uses e.place (v ∷ [])
    new ← combined o e.ctype (type_of from) e old v
    store e.place e.ctype left new
    pure new

  abbrev pub assignment : AssignOp → Part → Part → TypedExpr → Action Value
  assignment o to from e =
      option_map_or (λ by. compound by to from e) (assign_operator o)
      (if is_structure e.ctype then copied to from e else assigned to from e)

  -- `++` and `--` add or subtract 1 in the common type of the operand and int (6.5.2.4p2, 6.5.3.1p2): the old value and the new one
  abbrev pub one_type : CType → CType
  one_type t = if is_pointer t then int else common t int

  abbrev pub stepped : BinaryOperator → Part → TypedExpr → Action (Value × Value)
  stepped o of e = do
    place ← of.lvalue
    old ← load e.place e.ctype place
    new ← combined o e.ctype (one_type e.ctype) e old (Int 1)
    store e.place e.ctype place new
    pure (old, new)

  abbrev pub old_value : BinaryOperator → Part → TypedExpr → Action Value
  old_value o of e = do
    both_values ← stepped o of e
    pure both_values.0

  abbrev pub new_value : BinaryOperator → Part → TypedExpr → Action Value
  new_value o of e = do
    both_values ← stepped o of e
    pure both_values.1

  -- ---- unary operators (6.5.3)

  -- `&e` (6.5.3.2p3)
  abbrev pub address : Part → Action Value
  address of = do
    x ← of.lvalue
    pure (Pointer (place_in x))

  -- `+`, `-` and `~` (6.5.3.3)
  abbrev pub on_one : UnaryOperator → Part → TypedExpr → Action Value
  on_one o of e = do
    v ← of.value
    uses e.place (v ∷ [])
    pure (Int (unary o (number_type e.ctype) (number_in v)))

  abbrev pub negation : Part → TypedExpr → Action Value
  negation of e = do
    v ← of.value
    t ← holds e.place v
    pure (Int (truth (not t)))

  abbrev pub prefix_value : PrefixOp → Part → TypedExpr → Action Value
  prefix_value prefix_op.Increment of e = new_value op.Add of e
  prefix_value prefix_op.Decrement of e = new_value op.Subtract of e
  prefix_value prefix_op.Address of e = address of
  prefix_value prefix_op.Indirection of e = loaded (indirection of e) e
  prefix_value prefix_op.Not of e = negation of e
  prefix_value o of e = option_map_or (λ by. on_one by of e) (unary_operator o) (pure Nothing)

  abbrev pub postfix_value : PostfixOp → Part → TypedExpr → Action Value
  postfix_value postfix.Increment of e = old_value op.Add of e
  postfix_value postfix.Decrement of e = old_value op.Subtract of e

  -- ---- calls (6.5.2.2)

  -- the arguments from left to right, and then the call
  abbrev pub called : Callee → List Part → TypedExpr → Action Value
  called (Function n) args e = do
    vs ← values [] args
    uses e.place vs
    call n e.place vs
  called (Library f) args e = do
    vs ← values [] args
    library e.place f vs

  -- ---- size expressions (GCC manual, "Object Size Checking")

  abbrev pub mode_of : Part → Mode
  mode_of mode = numbered_mode (option_map_or (λ n. n) (constant_of tags mode.whole) 0)

  -- an argument with side effects isn't evaluated, and nothing is known of it
  abbrev pub unknown : Mode → TypedExpr → Action Value
  unknown mode e = do
    note (Asked e.place mode (unknown_size mode) None false true)
    pure (Int (unknown_size mode))

  -- any other is evaluated for its value alone
  abbrev pub known : Part → Mode → TypedExpr → Action Value
  known pointer mode e = do
    v ← as_argument e.place pointer.value
    uses e.place (v ∷ [])
    objs ← objects
    passes e.place (test (is_dead objs (as_pointer v)) kind.DeadObject ∷ [])
    n ← asked e.place mode true (as_pointer v)
    pure (Int n)

  abbrev pub sized : Part → Part → TypedExpr → Action Value
  sized pointer mode e = if has_effects pointer.whole then unknown (mode_of mode) e else known pointer (mode_of mode) e

  -- ---- nodes

  -- A string that initialises an array is no operand: its bytes are stored by the declaration. `sizeof` evaluates nothing (6.5.3.4p2)
  abbrev pub kind_value : TypedKind-F KindPart Part → TypedExpr → Action Value
  kind_value (TypedKind-F.Local n) e = loaded (variable n) e
  kind_value (TypedKind-F.Object n) e = loaded (data_object n) e
  kind_value (TypedKind-F.Number n) e = pure (Int n)
  kind_value (TypedKind-F.Str text) e = pure Nothing
  kind_value (TypedKind-F.Comma all) e = last_value all
  kind_value (TypedKind-F.Assign o to from) e = assignment o to from e
  kind_value (TypedKind-F.Cond test a b) e = chosen test a b e
  kind_value (TypedKind-F.Binary o a b) e = binary_value o a b e
  kind_value (TypedKind-F.Cast of added) e = cast of e
  kind_value (TypedKind-F.Prefix o of) e = prefix_value o of e
  kind_value (TypedKind-F.Postfix o of) e = postfix_value o of e
  kind_value (TypedKind-F.SizeofExpr of) e = pure (Int (size_in tags (type_of of)))
  kind_value (TypedKind-F.SizeofType of) e = pure (Int (size_in tags of))
  kind_value (TypedKind-F.Index a b) e = loaded (indexed a b e) e
  kind_value (TypedKind-F.Call callee args) e = called callee args e
  kind_value (TypedKind-F.Member base arrow member) e = loaded (selected base arrow member e) e
  kind_value (TypedKind-F.SizeCall pointer mode) e = sized pointer mode e

  abbrev pub kind_part : TypedKind-F KindPart Part → KindPart
  kind_part k = record {
    whole = roll-TypedKind (map-TypedKind KindPart Part TypedKind TypedExpr (λ p. p.whole) (λ p. p.whole) k);
    value = kind_value k;
    lvalue = kind_lvalue k;
  }

  abbrev pub node : KindPart → TypedExpr → Part
  node k e = record { whole = e; value = k.value e; lvalue = k.lvalue e }

  abbrev pub expr_part : TypedExpr-F KindPart Part → Part
  expr_part e = node e.kind (record { kind = e.kind.whole; ctype = e.ctype; place = e.place })

  -- a node of the tree with the nodes below it
  abbrev pub part_of : TypedExpr → Part
  part_of = fold-TypedExpr KindPart Part kind_part expr_part

  -- the value of an expression
  abbrev pub value_of : TypedExpr → Action Value
  value_of e = (part_of e).value
