-- Initialisers (C11 6.7.9): which item goes where, with the braces that may be left away (p20), and what the bytes of a static object are.
--
-- An object takes items from the front of a list, by its type: `take`. Braces in front are its own; else its parts take the items, as
-- many as they need, and leave the others. What the object that owns the braces leaves in them breaks the rule.
use Rattle.std.specs.Prelude.{ℕ, zero, suc, ◌+◌, ◌/◌, ◌%◌, nat_lt, min, Bool, true, false, not, ◌&&◌, if◌then◌else◌, ⊤, List, [], ◌∷◌, ◌++◌, length, map, take, drop, replicate, flat_map, filter_map, fold, slice_get, Option, None, Some, unwrap_or, option_and_then}
use Rattle.std.specs.Option.{option_map_or}
use Rattle.fc_base.specs.Widths.{width_bytes}
use Rattle.fc_base.specs.declared.refusals.Place.{Place}
use Rattle.fc_base.specs.declared.rules.Rule.TheVariants.{LimitObject, NotConstant, BadOperands, BadInitialiser}
use Rattle.c_layout.specs.declared.types.CType.{CType, out-CType, fold-CType}
use Rattle.c_layout.specs.declared.types.CType.TheOpen.{CType-F}
use Rattle.c_layout.specs.declared.types.CType.TheVariants.{Void, Int, Ptr, Array, OpenArray, Struct, Union}
use Rattle.c_layout.specs.declared.tags.Member.{Member}
use Rattle.c_layout.specs.declared.tags.TagDef.{TagDef}
use Rattle.c_layout.specs.Layouts.{largest_type, aligned, layout, offset, complete_count}
use Rattle.c_layout.specs.Types.{Layer, is_integer, is_array, is_open_array, is_structure, is_char, element, same_type}
use Rattle.c_tree.specs.declared.programs.DataDef.{DataDef}
use Rattle.c_tree.specs.declared.programs.Link.{Link}
use Rattle.c_tree.specs.declared.statements.Init.{Init, fold-Init}
use Rattle.c_tree.specs.declared.statements.Init.TheOpen.{Init-F}
use Rattle.c_tree.specs.declared.typed.TypedExpr.{TypedExpr}
use Rattle.c_tree.specs.declared.typed.TypedKind.{TypedKind, out-TypedKind}
use Rattle.c_tree.specs.declared.typed.TypedKind.TheOpen.{TypedKind-F}
use Rattle.c_tree.specs.declared.typed.TypedKind.TheVariants as e
use Rattle.c_tree.specs.declared.typed.TypedInit.{TypedInit, fold-TypedInit}
use Rattle.c_tree.specs.declared.typed.TypedInit.TheOpen.{TypedInit-F}
use Rattle.c_tree.specs.declared.typed.TypedInit.TheVariants as i
use Rattle.c_tree.specs.Constants.{constant_of}
use Rattle.c_tree.specs.Conversions.{number_type}
use Rattle.elab_meaning.specs.Typing.{Typing, ◌>>=◌, ◌>>◌, pure, each, first, look, note}
use Rattle.elab_meaning.specs.Parts.{Form, is_text, ReadExpr}
use Rattle.elab_meaning.specs.Conversions.{operand, converted, fits}
use Rattle.elab_meaning.specs.declared.addresses.Pointer.{Pointer}
use Rattle.elab_meaning.specs.declared.addresses.Pointer.TheVariants.{Null, At}
use Rattle.elab_meaning.specs.Addresses.{address_of, is_constant}
use Rattle.elab_meaning.specs.Expressions.{value_part}
use Rattle.elab_meaning.specs.Nodes.{node}
use Rattle.elab_meaning.specs.Trees.{read_expr}

-- ---- items

-- an initialiser in its braces, and how many elements it gives an array without a bound (p22)
pub record Braced : Type 0 where
  pub init : TypedInit
  pub begun : ℕ

-- What an initialiser is to the braces around it: an expression, as a value; or braces, which initialise an object of a type at an offset,
-- static or not.
pub data Written : Type 0 where
  expression : Form → Typing TypedExpr → Written
  braces : ((is_static : Bool) (t : CType) (offset : ℕ) → Typing Braced) → Written

-- `parts` types the expressions inside alone, for an item that nothing takes
pub record ReadInit : Type 0 where
  pub place : Place
  pub written : Written
  pub parts : Typing ⊤

-- an item as it is written, or an expression that was typed already
pub data Item : Type 0 where
  as_written : ReadInit → Item
  as_typed : Place → TypedExpr → Item

-- what items became, in the braces around them; those that are left; and how many elements of an array were begun
pub record Filled : Type 0 where
  pub inits : List TypedInit
  pub left : List Item
  pub begun : ℕ

abbrev pub filled : List TypedInit → List Item → Filled
filled inits left = record { inits = inits; left = left; begun = 0 }

-- an object, or its parts, at an offset of the variable, take from a list of items
abbrev pub Filling : Type 0
Filling = (offset : ℕ) → List Item → Typing Filled

abbrev pub takes_nothing : Filling
takes_nothing offset items = pure (filled [] items)

-- ---- leaves

-- an expression that initialises an object of that type (p11, p13): a static one by a constant (p4)
abbrev pub leaf : Bool → CType → ℕ → Place → TypedExpr → Typing TypedInit
leaf is_static t offset place x = do
  scope ← look (λ s. s)
  first place (
      (NotConstant, is_static && not (is_constant scope.tags scope.objects x))
      ∷ (BadOperands, not (fits (operand scope.tags x) t)) ∷ [])
  pure (i.Expr offset (converted t x))

-- what the array of a literal takes of the sum of data, as an object of its size does. This project's own.
abbrev pub text_room : List ℕ → ℕ
text_room text = aligned (length text + 1 + 1) 16

abbrev pub count_layer : Layer → Option ℕ
count_layer (CType-F.Array of count) = Some count
count_layer _ = None

-- the elements of an array with a bound
abbrev pub count_of : CType → Option ℕ
count_of t = count_layer (out-CType t)

abbrev pub is_char_array : CType → Bool
is_char_array t = is_array t && is_char (element t)

-- an array without a bound has so many elements
abbrev pub completed : CType → ℕ → CType
completed t n = if is_open_array t then Array (element t) n else t

-- A string literal that initialises an array of characters (p14): its NUL is left away where there is no room for it. It is no object, but
-- it counts in the sum of data.
abbrev pub text_leaf : CType → ℕ → Place → List ℕ → Typing TypedInit
text_leaf t offset place text = do
  first place (
      (LimitObject, nat_lt largest_type (length text + 1))
      ∷ (BadInitialiser, option_map_or (λ n. nat_lt n (length text)) (count_of t) false) ∷ [])
  note (λ b. record b { literals = b.literals + text_room text })
  pure (i.Expr offset (node (e.Str text) (completed t (length text + 1)) place))

-- ---- which item goes where

module _ (is_static : Bool) (tags : List TagDef) where
  -- A scalar takes one expression. Braces stand here in the braces of a scalar, round nothing that takes them (p11).
  abbrev pub scalar_item : CType → ℕ → ReadInit → Written → List Item → Typing Filled
  scalar_item t offset r (expression form x) left = do
    y ← x
    l ← leaf is_static t offset r.place y
    pure (filled (l ∷ []) left)
  scalar_item t offset r (braces f) left = do
    r.parts
    first r.place ((BadInitialiser, true) ∷ [])
    pure (filled [] left)

  abbrev pub scalar : CType → Filling
  scalar t offset [] = pure (filled [] [])
  scalar t offset (as_typed place x ∷ left) = do
    l ← leaf is_static t offset place x
    pure (filled (l ∷ []) left)
  scalar t offset (as_written r ∷ left) = scalar_item t offset r r.written left

  -- Elements of a size one behind another, so many at most: each takes what it takes from the items that those before it left.
  abbrev pub elements : ℕ → ℕ → Filling → Filling
  elements zero size one offset items = pure (filled [] items)
  elements (suc n) size one offset [] = pure (filled [] [])
  elements (suc n) size one offset (item ∷ items) = do
    f ← one offset (item ∷ items)
    g ← elements n size one (offset + size) f.left
    pure (record { inits = f.inits ++ g.inits; left = g.left; begun = suc g.begun })

  -- ---- an object, by the item in front; `inside` is how its parts take items

  -- an expression fills a structure whole where it has its type (p13)
  abbrev pub typed_item : CType → Filling → ℕ → Place → TypedExpr → List Item → Typing Filled
  typed_item t inside offset place x left =
      if is_structure t && same_type x.ctype t
      then (do
        l ← leaf is_static t offset place x
        pure (filled (l ∷ []) left))
      else inside offset (as_typed place x ∷ left)

  abbrev pub text_item : CType → Filling → ℕ → ReadInit → List ℕ → List Item → Typing Filled
  text_item t inside offset r text left =
      if is_char_array t
      then (do
        l ← text_leaf t offset r.place text
        pure (filled (l ∷ []) left))
      else inside offset (as_written r ∷ left)

  abbrev pub written_item : CType → Filling → ℕ → ReadInit → Written → List Item → Typing Filled
  written_item t inside offset r (braces f) left = do
    b ← f is_static t offset
    pure (filled (b.init ∷ []) left)
  written_item t inside offset r (expression (is_text text) x) left = text_item t inside offset r text left
  written_item t inside offset r (expression form x) left =
      if is_structure t
      then (do
        y ← x
        typed_item t inside offset r.place y left)
      else inside offset (as_written r ∷ left)

  abbrev pub object : CType → Filling → Filling
  object t inside offset [] = pure (filled [] [])
  object t inside offset (as_typed place x ∷ left) = typed_item t inside offset place x left
  object t inside offset (as_written r ∷ left) = written_item t inside offset r r.written left

-- ---- by type

-- how an object of a type takes items, and how its parts do
pub record Taker : Type 0 where
  pub whole : CType
  pub take : Filling
  pub inside : Filling

module _ (is_static : Bool) (tags : List TagDef) where
  abbrev pub taker : CType → Filling → Taker
  taker t inside = record { whole = t; take = object is_static tags t inside; inside = inside }

  abbrev pub size_of : CType → ℕ
  size_of t = option_map_or (λ l. l.size) (layout tags t) 0

  -- each element that is begun takes an item, so no more than there are items are begun
  abbrev pub elements_of : ℕ → Taker → Filling
  elements_of count one offset items = elements is_static tags (min count (length items)) (size_of one.whole) one.take offset items

  -- Where the parts of the structures and unions are known. A flexible array member takes nothing (6.7.2.1p18).
  module _ (inside_tag : ℕ → Filling) where
    abbrev pub taker_layer : CType-F Taker → Taker
    taker_layer CType-F.Void = taker Void takes_nothing
    taker_layer (CType-F.Int width signed plain_char long_long) =
        let t = Int width signed plain_char long_long in taker t (scalar is_static tags t)
    taker_layer (CType-F.Ptr of) = taker (Ptr of.whole) (scalar is_static tags (Ptr of.whole))
    taker_layer (CType-F.Array of count) = taker (Array of.whole count) (elements_of count of)
    taker_layer (CType-F.OpenArray of) = record { whole = OpenArray of.whole; take = takes_nothing; inside = takes_nothing }
    taker_layer (CType-F.Struct tag) = taker (Struct tag) (inside_tag tag)
    taker_layer (CType-F.Union tag) = taker (Union tag) (inside_tag tag)

    abbrev pub taker_of : CType → Taker
    taker_of = fold-CType Taker taker_layer

    -- members one behind another, from this number on
    abbrev pub members : ℕ → ℕ → List Member → Filling
    members tag number [] start items = pure (filled [] items)
    members tag number (m ∷ ms) start [] = pure (filled [] [])
    members tag number (m ∷ ms) start (item ∷ items) = do
      f ← (taker_of m.ctype).take (start + unwrap_or (offset tags tag number) 0) (item ∷ items)
      g ← members tag (number + 1) ms start f.left
      pure (filled (f.inits ++ g.inits) g.left)

    -- of a union the first alone (p17)
    abbrev pub first_members : TagDef → List Member
    first_members def = if def.is_union then take 1 def.members else def.members

    abbrev pub members_of : ℕ → Filling
    members_of tag = option_map_or (λ def. members tag 0 (first_members def)) (slice_get tags tag) takes_nothing

  -- through at most so many tags one inside another
  abbrev pub inside_within : ℕ → ℕ → Filling
  inside_within zero tag = takes_nothing
  inside_within (suc n) tag = members_of (inside_within n) tag

  -- No tag contains itself, so at most all complete tags stand one inside another.
  abbrev pub taker_at : CType → Taker
  taker_at = taker_of (inside_within (complete_count tags))

  -- ---- braces

  -- an array without a bound takes all items
  abbrev pub all_inside : CType → Filling
  all_inside t offset items =
      if is_open_array t then elements_of (length items) (taker_at (element t)) offset items
      else (taker_at t).inside offset items

  -- a string literal in braces of its own (p14)
  abbrev pub text_inside : CType → ReadInit → Written → Filling
  text_inside t r (expression (is_text text) x) offset items =
      if is_char_array t
      then (do
        l ← text_leaf t offset r.place text
        pure (record { inits = l ∷ []; left = drop 1 items; begun = length text + 1 }))
      else all_inside t offset items
  text_inside t r _ offset items = all_inside t offset items

  abbrev pub inside_braces : CType → Filling
  inside_braces t offset [] = pure (filled [] [])
  inside_braces t offset (as_typed place x ∷ items) = all_inside t offset (as_typed place x ∷ items)
  inside_braces t offset (as_written r ∷ items) = text_inside t r r.written offset (as_written r ∷ items)

-- the first item that nothing takes (p2), once its own parts are typed
abbrev pub none_left : List Item → Typing ⊤
none_left [] = pure tt
none_left (as_typed place x ∷ items) = first place ((BadInitialiser, true) ∷ [])
none_left (as_written r ∷ items) = do
  r.parts
  first r.place ((BadInitialiser, true) ∷ [])

abbrev pub in_braces : List Item → Place → Bool → CType → ℕ → Typing Braced
in_braces items place is_static t offset = do
  tags ← look (λ s. s.tags)
  f ← inside_braces is_static tags t offset items
  none_left f.left
  pure (record { init = i.List f.inits place; begun = f.begun })

-- ---- initialisers

abbrev pub nothing_of : {A : Type 0} → Typing A → Typing ⊤
nothing_of part = do
  a ← part
  pure tt

abbrev pub by_expr : ReadExpr → ReadInit
by_expr r = record { place = r.place; written = expression r.form (value_part r); parts = nothing_of (value_part r) }

abbrev pub init_layer : Init-F ReadInit → ReadInit
init_layer (Init-F.Expr x) = by_expr (read_expr x)
init_layer (Init-F.List items place) = record {
  place = place;
  written = braces (in_braces (map as_written items) place);
  parts = nothing_of (each (map (λ r. r.parts) items));
}

abbrev pub read_init : Init → ReadInit
read_init = fold-Init ReadInit init_layer

abbrev pub completes_by : CType → Written → Bool
completes_by t (expression (is_text text) x) = is_char (element t)
completes_by t (expression form x) = false
completes_by t (braces f) = true

-- an initialiser that gives an array without a bound its number of elements: braces, or a string for characters (p22)
abbrev pub completes : CType → Init → Bool
completes t init = is_open_array t && completes_by t (read_init init).written

-- the initialiser of a variable, and the variable's type behind it
pub record Initialised : Type 0 where
  pub init : TypedInit
  pub ctype : CType

-- the text of a string literal for an array of characters
abbrev pub text_for : CType → Form → Option (List ℕ)
text_for t (is_text text) = if is_char_array t then Some text else None
text_for t _ = None

abbrev pub initialised_by : Bool → CType → Place → Written → Typing Initialised
initialised_by is_static t place (braces f) = do
  b ← f is_static t 0
  pure (record { init = b.init; ctype = completed t b.begun })
initialised_by is_static t place (expression form x) =
    option_map_or
    (λ text. do
      l ← text_leaf t 0 place text
      pure (record { init = l; ctype = completed t (length text + 1) }))
    (text_for t form)
    (do
      y ← x
      l ← leaf is_static t 0 place y
      pure (record { init = l; ctype = t }))

-- A variable of that type by its initialiser, static or not.
abbrev pub initialised : Bool → CType → Init → Typing Initialised
initialised is_static t init = initialised_by is_static t (read_init init).place (read_init init).written

-- ---- static objects

-- a leaf: its offset, and its value with its type
pub record Leaf : Type 0 where
  pub offset : ℕ
  pub value : TypedExpr

abbrev pub leaves_layer : TypedInit-F (List Leaf) → List Leaf
leaves_layer (TypedInit-F.Expr offset value) = record { offset = offset; value = value } ∷ []
leaves_layer (TypedInit-F.List items place) = flat_map (λ leaves. leaves) items

-- in text order
abbrev pub leaves : TypedInit → List Leaf
leaves = fold-TypedInit (List Leaf) leaves_layer

abbrev pub text_in : TypedKind-F TypedKind TypedExpr → Option (List ℕ)
text_in (TypedKind-F.Str text) = Some text
text_in _ = None

-- the bytes of a string that initialises an array
abbrev pub leaf_text : Leaf → Option (List ℕ)
leaf_text l = text_in (out-TypedKind l.value.kind)

-- the low bytes of a number, the lowest first
abbrev pub low_bytes : ℕ → ℕ → List ℕ
low_bytes zero n = []
low_bytes (suc k) n = n % 256 ∷ low_bytes k (n / 256)

-- bytes with others in their place from an offset on
abbrev pub stored : ℕ → List ℕ → List ℕ → List ℕ
stored offset new bytes = take offset bytes ++ new ++ drop (offset + length new) bytes

module _ (tags : List TagDef) (objects : List DataDef) where
  abbrev pub is_constant_leaf : Leaf → Bool
  is_constant_leaf l = option_map_or (λ text. true) (leaf_text l) (is_constant tags objects l.value)

  -- Of a pointer eight zero bytes: where it points stands in its link.
  abbrev pub number_bytes : TypedExpr → List ℕ
  number_bytes x = if is_integer x.ctype then low_bytes (width_bytes (number_type x.ctype).width) (unwrap_or (constant_of tags x) 0) else []

  abbrev pub leaf_bytes : Leaf → List ℕ
  leaf_bytes l = unwrap_or (leaf_text l) (number_bytes l.value)

  -- an object that isn't initialised is zero (p10), and so is what no leaf stores (p21)
  abbrev pub bytes_of : ℕ → List Leaf → List ℕ
  bytes_of size ls = fold (λ bytes l. stored l.offset (leaf_bytes l) bytes) (replicate size 0) ls

  abbrev pub link_to : ℕ → Pointer → Option Link
  link_to offset Null = None
  link_to offset (At s) = Some (record { at = offset; target = s.object; offset = s.offset; end = s.end })

  abbrev pub link_of : Leaf → Option Link
  link_of l = option_and_then (link_to l.offset) (address_of tags objects l.value)

  abbrev pub links_of : List Leaf → List Link
  links_of = filter_map link_of

  -- a variable with static storage, of that size
  abbrev pub variable_of : List ℕ → ℕ → List Leaf → DataDef
  variable_of name size ls = record { name = name; size = size; writable = true; bytes = bytes_of size ls; links = links_of ls }
