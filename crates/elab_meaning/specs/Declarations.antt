-- Specifiers, declarators, parameters, type names, members and enumerators (C11 6.7.2 to 6.7.7): each node by its parts.
use Rattle.std.specs.Prelude.{ℕ, ℤ, pos, negsuc, ◌+ℤ◌, zero, suc, ◌+◌, ◌==◌, nat_lt, nat_le, max, Bool, true, false, not, ◌&&◌, ◌||◌, if◌then◌else◌, is_some, is_none, List, [], ◌∷◌, ◌++◌, length, map, filter_map, filter, count_by, slice_get, Option, None, Some, unwrap_or, option_and_then}
use Rattle.std.specs.List.{list_any}
use Rattle.std.specs.Option.{option_map, option_map_or}
use Rattle.std.specs.Str.{bytes_eq}
use Rattle.std.specs.Prelude.{codes}
use Rattle.fc_base.specs.declared.levels.Width.TheVariants.{W1, W2, W4, W8}
use Rattle.fc_base.specs.declared.rules.Rule.TheVariants.{Redeclared, UnknownName, IncompleteType, BadType, LimitObject, ByValue, FunctionPointer, LimitArguments, NotConstant}
use Rattle.c_arithmetic.specs.Arithmetic as arithmetic
use Rattle.c_layout.specs.declared.types.CType.{CType}
use Rattle.c_layout.specs.declared.types.CType.TheVariants.{Void, Int, Ptr, Array, OpenArray, Struct, Union}
use Rattle.c_layout.specs.declared.tags.Member.{Member}
use Rattle.c_layout.specs.declared.tags.TagDef.{TagDef}
use Rattle.c_layout.specs.declared.depths.Depth.{Depth}
use Rattle.c_layout.specs.Depths.{depth_of, deepest, type_depths, tag_depth}
use Rattle.c_layout.specs.Layouts.{largest_type, layout, tag_layout, member_layouts, aggregate}
use Rattle.c_layout.specs.Types.{int, is_array, is_structure, is_open_array, element, same_truth}
use Rattle.c_tree.specs.declared.nodes.Aggregate.{Aggregate}
use Rattle.c_tree.specs.declared.nodes.Aggregate.TheVariants as aggregates
use Rattle.c_tree.specs.declared.nodes.Attribute.{Attribute}
use Rattle.c_tree.specs.declared.nodes.BasicWord.{BasicWord}
use Rattle.c_tree.specs.declared.nodes.BasicWord.TheVariants as word
use Rattle.c_tree.specs.declared.nodes.Identifier.{Identifier}
use Rattle.c_tree.specs.declared.nodes.PointerWord.{PointerWord}
use Rattle.c_tree.specs.declared.nodes.PointerWord.TheVariants.{Star}
use Rattle.c_tree.specs.declared.nodes.Declarator.TheOpen.{Declarator-F, Params-F, Spec-F}
use Rattle.c_tree.specs.Conversions.{number_type}
use Rattle.c_tree.specs.Typed.{most_arguments}
use Rattle.elab_meaning.specs.declared.names.NameUse.{NameUse}
use Rattle.elab_meaning.specs.declared.names.NameUse.TheVariants.{Local, Constant, Typedef}
use Rattle.elab_meaning.specs.Scope.{Name, Scope, add, len, cut, lookup, has_enum, add_enum, find_tag, set_tag}
use Rattle.elab_meaning.specs.Typing.{Typing, ◌>>=◌, ◌>>◌, pure, each, if_any, first, look, change, recall, note, new_tag}
use Rattle.elab_meaning.specs.Parts.{Meant, typedef_word, static_word, inline_word, plain_word, attributes, basic, type, ReadExpr, ReadSpec, ReadTypeName, Parameter, ReadParam, ReadParams, Shape, innermost, pointer, array, function, ReadDeclarator, ReadMembers, ReadEnumerator, DeclaratorLayer, ParamsLayer, SpecLayer, EnumeratorLayer, MemberLayer, ParamLayer, TypeNameLayer}
use Rattle.elab_meaning.specs.Conversions.{has_size, value_of}
use Rattle.elab_meaning.specs.Expressions.{value_part, use_of}

-- ---- the type that words name (6.7.2p2)

abbrev pub word_number : BasicWord → ℕ
word_number word.Void = 0
word_number word.Char = 1
word_number word.Short = 2
word_number word.Int = 3
word_number word.Long = 4
word_number word.Signed = 5
word_number word.Unsigned = 6

abbrev pub times : BasicWord → List BasicWord → ℕ
times w words = count_by (λ v. word_number v == word_number w) words

abbrev pub has_word : BasicWord → List BasicWord → Bool
has_word w words = nat_lt 0 (times w words)

-- char alone differs from signed char; each other type is signed unless it is said to be unsigned
abbrev pub basic_type : List BasicWord → CType
basic_type words =
    let signed = not (has_word word.Unsigned words) in
    if has_word word.Void words then Void
    else (if has_word word.Char words then Int W1 signed (signed && not (has_word word.Signed words)) false
    else (if has_word word.Short words then Int W2 signed false false
    else (if nat_lt 1 (times word.Long words) then Int W8 signed false true
    else (if has_word word.Long words then Int W8 signed false false
    else Int W4 signed false false))))

-- ---- a list of specifiers

-- the type that the specifiers name, the words that mean something beside it, and the attributes among them in order
pub record Specifiers : Type 0 where
  pub base : CType
  pub is_typedef : Bool
  pub is_static : Bool
  pub is_inline : Bool
  pub attributes : List Attribute

abbrev pub type_meant : Meant → Option CType
type_meant (type t) = Some t
type_meant _ = None

abbrev pub word_meant : Meant → Option BasicWord
word_meant (basic w) = Some w
word_meant _ = None

abbrev pub attributes_meant : List Meant → List Attribute
attributes_meant [] = []
attributes_meant (attributes list ∷ ms) = list ++ attributes_meant ms
attributes_meant (_ ∷ ms) = attributes_meant ms

abbrev pub is_typedef_word : Meant → Bool
is_typedef_word typedef_word = true
is_typedef_word _ = false

abbrev pub is_static_word : Meant → Bool
is_static_word static_word = true
is_static_word _ = false

abbrev pub is_inline_word : Meant → Bool
is_inline_word inline_word = true
is_inline_word _ = false

-- the grammar has a typedef's name, structure, union or enumeration alone, or words of a basic type
abbrev pub base_of : List CType → List BasicWord → CType
base_of [] words = basic_type words
base_of (t ∷ ts) words = t

abbrev pub specifiers_of : List Meant → Specifiers
specifiers_of ms = record {
  base = base_of (filter_map type_meant ms) (filter_map word_meant ms);
  is_typedef = list_any is_typedef_word ms;
  is_static = list_any is_static_word ms;
  is_inline = list_any is_inline_word ms;
  attributes = attributes_meant ms;
}

abbrev pub specifiers_part : List ReadSpec → Typing Specifiers
specifiers_part specs = do
  ms ← each specs
  pure (specifiers_of ms)

abbrev pub is_alloc_size : Attribute → Bool
is_alloc_size a = bytes_eq a.name (codes "alloc_size")

-- GCC manual, "Common Function Attributes"
abbrev pub has_alloc_size : List Attribute → Bool
has_alloc_size = list_any is_alloc_size

-- the words that only a function may have (6.7.4p1; for alloc_size this project's own)
abbrev pub has_function_words : Specifiers → Bool
has_function_words s = s.is_inline || has_alloc_size s.attributes

-- ---- types that a declarator forms (6.7.6)

-- what is declared: an object, or a function
pub data Made : Type 0 where
  object_of : CType → Made
  function_of : (params : List CType) (result : CType) → Made

-- What the parts of a declarator make of a type, and what they break: an array whose element has no size or is a function, or with a bound
-- below 1, and a function that gives an array or a function (6.7.6.2p1, 6.7.6.3p1); an array over the limit; a function that gives a
-- structure; a pointer to a function; and more parameters than the limit.
pub record Formed : Type 0 where
  pub made : Made
  pub depth : Depth
  pub bad_type : Bool
  pub too_large : Bool
  pub by_value : Bool
  pub function_pointer : Bool
  pub too_many : Bool

-- a type before any declarator
abbrev pub unformed : List TagDef → CType → Formed
unformed tags t = record {
  made = object_of t;
  depth = type_depths (tag_depth tags) t;
  bad_type = false;
  too_large = false;
  by_value = false;
  function_pointer = false;
  too_many = false;
}

abbrev pub is_function_made : Made → Bool
is_function_made (object_of t) = false
is_function_made (function_of params result) = true

-- The type of an object. Of a function it is void, which no accepted tree shows.
abbrev pub type_made : Made → CType
type_made (object_of t) = t
type_made (function_of params result) = Void

abbrev pub pointed_to : Formed → Formed
pointed_to f = record f {
  made = object_of (Ptr (type_made f.made));
  depth = depth_of (suc f.depth.behind) (suc f.depth.behind);
  function_pointer = f.function_pointer || is_function_made f.made;
}

abbrev pub stars : ℕ → Formed → Formed
stars zero f = f
stars (suc n) f = pointed_to (stars n f)

-- how many elements a bound stands for
abbrev pub count : ℤ → ℕ
count (pos n) = n
count (negsuc n) = 0

abbrev pub array_type : CType → Option ℤ → CType
array_type t None = OpenArray t
array_type t (Some bound) = Array t (count bound)

abbrev pub is_below_one : Option ℤ → Bool
is_below_one None = false
is_below_one (Some bound) = count bound == 0

abbrev pub is_too_large : List TagDef → CType → Bool
is_too_large tags t = option_map_or (λ l. nat_lt largest_type l.size) (layout tags t) false

abbrev pub arrayed : List TagDef → Option ℤ → Formed → Formed
arrayed tags bound f =
    let t = array_type (type_made f.made) bound in
    record f {
      made = object_of t;
      depth = depth_of (suc f.depth.plain) (suc f.depth.behind);
      bad_type = f.bad_type || not (has_size tags (type_made f.made)) || is_below_one bound;
      too_large = f.too_large || is_too_large tags t;
    }

abbrev pub deeper : Depth → Depth → Depth
deeper a b = depth_of (max a.plain b.plain) (max a.behind b.behind)

abbrev pub deepest_of : List TagDef → Depth → List CType → Depth
deepest_of tags d [] = d
deepest_of tags d (t ∷ ts) = deeper (type_depths (tag_depth tags) t) (deepest_of tags d ts)

abbrev pub returned : List TagDef → List Parameter → Formed → Formed
returned tags params f =
    let types = map (λ p. p.ctype) params in
    record f {
      made = function_of types (type_made f.made);
      depth = deepest_of tags f.depth types;
      bad_type = f.bad_type || is_function_made f.made || is_array (type_made f.made);
      by_value = f.by_value || is_structure (type_made f.made);
      too_many = f.too_many || nat_lt most_arguments (length params);
    }

-- from the outside in, to the name
abbrev pub formed_by : List TagDef → Shape → Formed → Formed
formed_by tags innermost f = f
formed_by tags (pointer n of) f = formed_by tags of (stars n f)
formed_by tags (array of bound) f = formed_by tags of (arrayed tags bound f)
formed_by tags (function of params) f = formed_by tags of (returned tags params f)

-- what a declarator of this shape makes of a type
abbrev pub formed : List TagDef → CType → Shape → Formed
formed tags t shape = formed_by tags shape (unformed tags t)

-- a type over the limit of bytes, or of depth
abbrev pub passes_limit : Formed → Bool
passes_limit f = f.too_large || nat_lt deepest f.depth.plain

-- ---- declarators

abbrev pub is_star : PointerWord → Bool
is_star Star = true
is_star _ = false

-- a bound is an integer constant expression (6.7.6.2p1)
abbrev pub bound_part : ReadExpr → Typing ℤ
bound_part bound = do
  x ← value_part bound
  tags ← look (λ s. s.tags)
  first bound.place ((NotConstant, is_none (value_of tags x)) ∷ [])
  pure (unwrap_or (value_of tags x) (pos 0))

abbrev pub declarator_layer : DeclaratorLayer → ReadDeclarator
declarator_layer (Declarator-F.Pointer words of place) = record {
  name = of.name;
  place = place;
  is_bare = false;
  is_function = of.is_function;
  parts = do
    s ← of.parts
    pure (pointer (count_by is_star words) s);
}
declarator_layer (Declarator-F.«Declarator::Name» name place) =
    record { name = Some name; place = place; is_bare = true; is_function = false; parts = pure innermost }
declarator_layer (Declarator-F.Omitted place) =
    record { name = None; place = place; is_bare = true; is_function = false; parts = pure innermost }
declarator_layer (Declarator-F.Array of bound place) = record {
  name = of.name;
  place = place;
  is_bare = false;
  is_function = of.is_function;
  parts = do
    s ← of.parts
    n ← if_any (option_map bound_part bound)
    pure (array s n);
}
declarator_layer (Declarator-F.Function of params place) = record {
  name = of.name;
  place = place;
  is_bare = false;
  is_function = of.is_bare || of.is_function;
  parts = do
    s ← of.parts
    ps ← params
    pure (function s ps);
}

-- ---- parameters (6.7.6.3)

-- whether a name has an addition from this number on: in the block or list that begins there
abbrev pub is_declared_from : ℕ → Name → Scope → Bool
is_declared_from start name s = option_map_or (λ a. nat_le start a.0) (lookup name s) false

abbrev pub is_repeated : ℕ → Option Name → Scope → Bool
is_repeated start name s = option_map_or (λ n. is_declared_from start n s) name false

-- p7 and p8: an array becomes a pointer to its element, and a function a pointer, which is refused
abbrev pub adjusted : Made → CType
adjusted (object_of t) = if is_array t then Ptr (element t) else t
adjusted (function_of params result) = Ptr Void

abbrev pub add_if_named : Option Name → NameUse → Scope → Scope
add_if_named None what s = s
add_if_named (Some name) what s = add name what s

abbrev pub param_layer : ParamLayer → ReadParam
param_layer p start number = do
  specs ← specifiers_part p.specs
  shape ← p.declarator.parts
  scope ← look (λ s. s)
  let f = formed scope.tags specs.base shape
  let t = adjusted f.made
  first p.declarator.place (
      (Redeclared, is_repeated start p.declarator.name scope)
      ∷ (IncompleteType, not (has_size scope.tags t))
      ∷ (BadType, f.bad_type || has_function_words specs)
      ∷ (LimitObject, passes_limit f)
      ∷ (ByValue, f.by_value || is_structure t)
      ∷ (FunctionPointer, f.function_pointer || is_function_made f.made)
      ∷ (LimitArguments, f.too_many) ∷ [])
  change (add_if_named p.declarator.name (Local number t))
  pure (record { name = p.declarator.name; place = p.declarator.place; ctype = t })

abbrev pub params_from : ℕ → ℕ → List ReadParam → Typing (List Parameter)
params_from start number [] = pure []
params_from start number (p ∷ ps) = do
  a ← p start number
  more ← params_from start (number + 1) ps
  pure (a ∷ more)

abbrev pub listed_params : List ReadParam → Typing (List Parameter)
listed_params ps = do
  start ← look len
  all ← params_from start 0 ps
  change (cut start)
  pure all

-- `()` is `(void)`
abbrev pub params_layer : ParamsLayer → ReadParams
params_layer Params-F.Empty = pure []
params_layer Params-F.Void = pure []
params_layer (Params-F.List params) = listed_params params

-- ---- type names (6.7.7)

abbrev pub type_name_layer : TypeNameLayer → ReadTypeName
type_name_layer t = do
  specs ← specifiers_part t.specs
  shape ← t.declarator.parts
  tags ← look (λ s. s.tags)
  let f = formed tags specs.base shape
  first t.declarator.place ((BadType, f.bad_type || has_function_words specs) ∷ [])
  first t.place ((LimitObject, passes_limit f) ∷ [])
  pure (type_made f.made)

-- ---- members (6.7.2.1)

abbrev pub has_member : List Member → Option Name → Bool
has_member members name = option_map_or (λ n. list_any (λ m. bytes_eq m.name n) members) name false

-- p3, p18: a member has a size, or is the last of a structure with others, an array without a bound whose elements have a size
abbrev pub is_flexible : List TagDef → Bool → List Member → Bool → CType → Bool
is_flexible tags is_union before is_last t =
    is_open_array t && has_size tags (element t) && not is_union && nat_lt 0 (length before) && is_last

-- the members so far pass the limit
abbrev pub members_too_large : List TagDef → Bool → List Member → Bool
members_too_large tags is_union members =
    option_map_or (λ ls. nat_lt largest_type (aggregate is_union ls).size) (member_layouts (tag_layout tags) members) false

abbrev pub member_part : Specifiers → Bool → List Member → Bool → ReadDeclarator → Typing (List Member)
member_part specs is_union before is_last d = do
  shape ← d.parts
  tags ← look (λ s. s.tags)
  let f = formed tags specs.base shape
  let t = type_made f.made
  let members = before ++ record { name = unwrap_or d.name []; ctype = t } ∷ []
  first d.place (
      (Redeclared, has_member before d.name)
      ∷ (IncompleteType, not (has_size tags t || is_flexible tags is_union before is_last t))
      ∷ (BadType, f.bad_type || has_function_words specs)
      ∷ (LimitObject, passes_limit f || members_too_large tags is_union members)
      ∷ (ByValue, f.by_value)
      ∷ (FunctionPointer, f.function_pointer)
      ∷ (LimitArguments, f.too_many) ∷ [])
  pure members

abbrev pub is_none_left : {A : Type 0} → List A → Bool
is_none_left [] = true
is_none_left (a ∷ more) = false

abbrev pub member_parts : Specifiers → Bool → Bool → List Member → List ReadDeclarator → Typing (List Member)
member_parts specs is_union is_last before [] = pure before
member_parts specs is_union is_last before (d ∷ ds) = do
  members ← member_part specs is_union before (is_last && is_none_left ds) d
  member_parts specs is_union is_last members ds

abbrev pub member_layer : MemberLayer → ReadMembers
member_layer m is_union before is_last = do
  specs ← specifiers_part m.specs
  member_parts specs is_union is_last before m.declarators

abbrev pub members_part : Bool → List Member → List ReadMembers → Typing (List Member)
members_part is_union before [] = pure before
members_part is_union before (m ∷ ms) = do
  members ← m is_union before (is_none_left ms)
  members_part is_union members ms

-- ---- structures and unions (6.7.2.1 and 6.7.2.3)

abbrev pub is_union_word : Aggregate → Bool
is_union_word aggregates.Struct = false
is_union_word aggregates.Union = true

abbrev pub tag_type : Aggregate → ℕ → CType
tag_type aggregates.Struct number = Struct number
tag_type aggregates.Union number = Union number

abbrev pub without_members : Name → Aggregate → TagDef
without_members name aggregate = record { name = name; is_union = is_union_word aggregate; members = []; complete = false }

-- The body of a structure or union: it is complete behind its last member. While it is open it may have no second body.
abbrev pub body_part : Name → Aggregate → ℕ → List ReadMembers → Typing Meant
body_part name aggregate number members = do
  note (λ b. record b { open_tags = number ∷ b.open_tags })
  all ← members_part (is_union_word aggregate) [] members
  change (set_tag number (record { name = name; is_union = is_union_word aggregate; members = all; complete = true }))
  note (λ b. record b { open_tags = filter (λ tag. not (tag == number)) b.open_tags })
  pure (type (tag_type aggregate number))

-- a tag that is an enumeration's, or the other of structure and union
abbrev pub is_other_kind : Name → Aggregate → Scope → Bool
is_other_kind name aggregate s = has_enum name s || option_map_or (λ def. not (same_truth def.is_union (is_union_word aggregate)))
    (option_and_then (slice_get s.tags) (find_tag name s)) false

-- a tag that has a body, or whose body is being read
abbrev pub has_body : Name → List ℕ → Scope → Bool
has_body name open_tags s = option_map_or (λ number. list_any (λ tag. tag == number) open_tags
    || option_map_or (λ def. def.complete) (slice_get s.tags number) false) (find_tag name s) false

-- the number of a tag, which its first mention gives it
abbrev pub tag_number : Name → Aggregate → Option ℕ → Typing ℕ
tag_number name aggregate (Some number) = pure number
tag_number name aggregate None = new_tag (without_members name aggregate)

abbrev pub body_if_any : Name → Aggregate → ℕ → Option (List ReadMembers) → Typing Meant
body_if_any name aggregate number None = pure (type (tag_type aggregate number))
body_if_any name aggregate number (Some members) = body_part name aggregate number members

abbrev pub tagged_part : Aggregate → Identifier → Option (List ReadMembers) → Typing Meant
tagged_part aggregate tag members = do
  open_tags ← recall (λ b. b.open_tags)
  scope ← look (λ s. s)
  first tag.place ((Redeclared, is_other_kind tag.name aggregate scope || (is_some members && has_body tag.name open_tags scope)) ∷ [])
  number ← tag_number tag.name aggregate (find_tag tag.name scope)
  body_if_any tag.name aggregate number members

abbrev pub untagged_part : Aggregate → List ReadMembers → Typing Meant
untagged_part aggregate members = do
  number ← new_tag (without_members [] aggregate)
  body_part [] aggregate number members

-- ---- enumerations (6.7.2.2)

-- a value converted to int. That it wraps is this project's own.
abbrev pub as_int : ℤ → ℤ
as_int n = arithmetic.integer true (arithmetic.converted (number_type int) n)

abbrev pub enumerator_value : ℤ → Option ReadExpr → Typing ℤ
enumerator_value otherwise None = pure otherwise
enumerator_value otherwise (Some value) = do
  n ← bound_part value
  pure (as_int n)

abbrev pub enumerator_layer : EnumeratorLayer → ReadEnumerator
enumerator_layer e otherwise = do
  used ← use_of e.name.name
  first e.name.place ((Redeclared, is_some used) ∷ [])
  n ← enumerator_value otherwise e.value
  change (add e.name.name (Constant n))
  pure n

-- p3: each is one more than the one before it
abbrev pub enumerators_from : ℤ → List ReadEnumerator → Typing (Unit {0})
enumerators_from n [] = pure tt
enumerators_from n (e ∷ es) = do
  m ← e n
  enumerators_from (as_int (m +ℤ pos 1)) es

-- a tag that is a structure's or union's, or an enumeration's with a body
abbrev pub is_taken : Name → Scope → Bool
is_taken name s = has_enum name s || is_some (find_tag name s)

-- The tag is looked at before the body and behind it: a structure of its name may have been mentioned inside.
abbrev pub enum_part : Option Identifier → List ReadEnumerator → Typing Meant
enum_part None enumerators = do
  enumerators_from (pos 0) enumerators
  pure (type int)
enum_part (Some tag) enumerators = do
  before ← look (is_taken tag.name)
  first tag.place ((Redeclared, before) ∷ [])
  enumerators_from (pos 0) enumerators
  behind ← look (is_taken tag.name)
  first tag.place ((Redeclared, behind) ∷ [])
  change (add_enum tag.name)
  pure (type int)

abbrev pub enum_tag_part : Identifier → Typing Meant
enum_tag_part tag = do
  scope ← look (λ s. s)
  first tag.place ((Redeclared, is_some (find_tag tag.name scope)) ∷ (UnknownName, not (has_enum tag.name scope)) ∷ [])
  pure (type int)

-- ---- specifiers

-- The type that a typedef's name stands for. The grammar has the word as a type's name only where it is one.
abbrev pub type_named : Option NameUse → CType
type_named (Some (Typedef t)) = t
type_named _ = Void

abbrev pub typedef_name_part : Name → Typing Meant
typedef_name_part name = do
  used ← use_of name
  pure (type (type_named used))

abbrev pub spec_layer : SpecLayer → ReadSpec
spec_layer (Spec-F.Typedef place) = pure typedef_word
spec_layer (Spec-F.Extern place) = pure plain_word
spec_layer (Spec-F.Static place) = pure static_word
spec_layer (Spec-F.Inline place) = pure inline_word
spec_layer (Spec-F.Const place) = pure plain_word
spec_layer (Spec-F.Attributes list place) = pure (attributes list)
spec_layer (Spec-F.Basic w place) = pure (basic w)
spec_layer (Spec-F.TypedefName name place) = typedef_name_part name
spec_layer (Spec-F.Tagged aggregate tag members place) = tagged_part aggregate tag members
spec_layer (Spec-F.Untagged aggregate members place) = untagged_part aggregate members
spec_layer (Spec-F.Enum tag enumerators place) = enum_part tag enumerators
spec_layer (Spec-F.EnumTag tag place) = enum_tag_part tag
