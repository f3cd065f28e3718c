-- External declarations (C11 6.9): headers, file variables, functions and their definitions, and typedefs.
use Rattle.std.specs.Prelude.{ℕ, ◌-◌, ◌==◌, nat_lt, nat_le, Bool, true, false, not, ◌&&◌, ◌||◌, if◌then◌else◌, is_some, is_none, ⊤, List, [], ◌∷◌, ◌++◌, length, map, filter, flat_map, position, find, slice_get, Option, None, Some, unwrap_or, option_and_then}
use Rattle.std.specs.List.{list_any}
use Rattle.std.specs.Option.{option_map_or}
use Rattle.std.specs.Str.{bytes_eq}
use Rattle.fc_base.specs.declared.refusals.Place.{Place}
use Rattle.fc_base.specs.declared.rules.Rule.TheVariants.{Redeclared, BadType, LimitObject, ByValue, FunctionPointer, LimitArguments, BadInitialiser, AllocSizeIndex, LimitFunctions}
use Rattle.c_headers.specs.declared.headers.HeaderId.{HeaderId}
use Rattle.c_headers.specs.Headers.{TypeName, header_row}
use Rattle.c_library.specs.declared.functions.LibFn.{LibFn}
use Rattle.c_library.specs.Library.{row_of}
use Rattle.c_tokens.specs.declared.puncts.Punct.TheVariants.{Comma}
use Rattle.c_tokens.specs.declared.tokens.TokenKind.{TokenKind}
use Rattle.c_tokens.specs.declared.tokens.TokenKind.TheVariants as token
use Rattle.c_layout.specs.declared.types.CType.{CType}
use Rattle.c_layout.specs.declared.types.CType.TheVariants.{Void}
use Rattle.c_layout.specs.Library.{header_ctype}
use Rattle.c_layout.specs.Types.{is_integer, is_pointer, same_type}
use Rattle.c_tree.specs.declared.externals.External.{External}
use Rattle.c_tree.specs.declared.externals.External.TheVariants as external
use Rattle.c_tree.specs.declared.nodes.Attribute.{Attribute}
use Rattle.c_tree.specs.declared.nodes.Declarator.{Declarator}
use Rattle.c_tree.specs.declared.nodes.Spec.{Spec}
use Rattle.c_tree.specs.declared.statements.Init.{Init}
use Rattle.c_tree.specs.declared.statements.InitDeclarator.{InitDeclarator}
use Rattle.c_tree.specs.declared.statements.Stmt.{Stmt}
use Rattle.c_tree.specs.WellFormed.{most_functions}
use Rattle.elab_meaning.specs.declared.names.NameUse.{NameUse}
use Rattle.elab_meaning.specs.declared.names.NameUse.TheVariants.{Local, Object, Function, Library, Typedef}
use Rattle.elab_meaning.specs.Scope.{Name, Scope, add, len, cut, lookup}
use Rattle.elab_meaning.specs.Typing.{Declared, Typing, ◌>>=◌, ◌>>◌, pure, first, look, change, recall, note, new_object, new_local}
use Rattle.elab_meaning.specs.Parts.{Parameter, Shape, innermost, pointer, array, function, ReadDeclarator}
use Rattle.elab_meaning.specs.Expressions.{use_of}
use Rattle.elab_meaning.specs.Declarations.{Specifiers, specifiers_part, has_function_words, is_alloc_size, Made, object_of, function_of, is_function_made, formed, passes_limit, type_made}
use Rattle.elab_meaning.specs.Trees.{read_spec, read_declarator}
use Rattle.elab_meaning.specs.Initialisers.{read_init, completes}
use Rattle.elab_meaning.specs.Statements.{name_of, nameless, static_variable, variable_checks, limit_completed, with_attributes, Around, body_stmt}

-- ---- headers

abbrev pub header_function_names : HeaderId → List Name
header_function_names h = map (λ f. (row_of f).name) (header_row h).functions

abbrev pub header_names : HeaderId → List Name
header_names h = header_function_names h ++ map (λ t. t.name) (header_row h).types

abbrev pub is_among : List Name → Name → Bool
is_among names name = list_any (λ other. bytes_eq other name) names

-- a name of a header that the file declared: one that is there, and that no earlier header has
abbrev pub clashes : List HeaderId → Scope → Name → Bool
clashes included scope name = is_some (lookup name scope) && not (is_among (flat_map header_names included) name)

abbrev pub add_functions : List LibFn → Scope → Scope
add_functions [] s = s
add_functions (f ∷ fs) s = add_functions fs (add (row_of f).name (Library f) s)

abbrev pub add_types : List TypeName → Scope → Scope
add_types [] s = s
add_types (t ∷ ts) s = add_types ts (add t.name (Typedef (header_ctype t)) s)

-- its functions and its types; its macros are no names here
abbrev pub header_part : HeaderId → Place → Typing ⊤
header_part h place = do
  included ← recall (λ b. b.included)
  scope ← look (λ s. s)
  first place ((Redeclared, list_any (clashes included scope) (header_names h)) ∷ [])
  change (λ s. add_types (header_row h).types (add_functions (header_row h).functions s))
  note (λ b. record b { included = h ∷ b.included })

-- ---- an initialiser that nothing takes: of a function or a typedef (6.7.9p3)

abbrev pub no_init : Option Init → Typing ⊤
no_init None = pure tt
no_init (Some init) = do
  (read_init init).parts
  first (read_init init).place ((BadInitialiser, true) ∷ [])

-- ---- typedefs (6.7.8)

abbrev pub typedef_part : Specifiers → ReadDeclarator → Option Init → Typing ⊤
typedef_part specs d init = do
  shape ← d.parts
  scope ← look (λ s. s)
  let f = formed scope.tags specs.base shape
  first d.place (
      (Redeclared, is_some (lookup (name_of d) scope))
      ∷ (BadType, f.bad_type || has_function_words specs || is_function_made f.made)
      ∷ (LimitObject, passes_limit f)
      ∷ (ByValue, f.by_value)
      ∷ (FunctionPointer, f.function_pointer)
      ∷ (LimitArguments, f.too_many) ∷ [])
  change (add (name_of d) (Typedef (type_made f.made)))
  no_init init

-- ---- file variables (6.9.2)

-- whether a number is among these
abbrev pub has_number : List ℕ → ℕ → Bool
has_number numbers number = list_any (λ n. n == number) numbers

-- A second declaration of a variable has the same type, and not a second initialiser.
abbrev pub differs_from : List ℕ → CType → Bool → Option NameUse → Bool
differs_from initialised t has_init None = false
differs_from initialised t has_init (Some (Object number u)) = not (same_type t u) || (has_init && has_number initialised number)
differs_from initialised t has_init (Some other) = true

-- the object of a variable: that of an earlier declaration
abbrev pub object_number : Option NameUse → Typing ℕ
object_number (Some (Object number t)) = pure number
object_number other = new_object nameless

-- a declaration that only repeats another changes nothing
abbrev pub variable_value : Option NameUse → ℕ → Name → CType → Option Init → Typing CType
variable_value None number name t init = static_variable number name t init
variable_value (Some other) number name t None = pure t
variable_value (Some other) number name t (Some init) = static_variable number name t (Some init)

abbrev pub note_init : ℕ → Option Init → Typing ⊤
note_init number None = pure tt
note_init number (Some init) = note (λ b. record b { initialised = number ∷ b.initialised })

-- An array that its initialiser completes is held against an earlier declaration behind the initialiser.
abbrev pub variable_part : Specifiers → ReadDeclarator → Option Init → Typing ⊤
variable_part specs d init = do
  before ← use_of (name_of d)
  number ← object_number before
  shape ← d.parts
  scope ← look (λ s. s)
  initialised ← recall (λ b. b.initialised)
  let f = formed scope.tags specs.base shape
  let t = type_made f.made
  let is_completed = option_map_or (completes t) init false
  first d.place (
      (Redeclared, not is_completed && differs_from initialised t (is_some init) before)
      ∷ variable_checks scope.tags specs f init)
  change (add (name_of d) (Object number t))
  whole ← variable_value before number (name_of d) t init
  first d.place ((Redeclared, is_completed && differs_from initialised whole (is_some init) before) ∷ [])
  limit_completed d.place t whole
  change (add (name_of d) (Object number whole))
  note_init number init

-- ---- functions (6.7.6.3)

abbrev pub all_same : List CType → List CType → Bool
all_same [] [] = true
all_same (a ∷ more) (b ∷ others) = same_type a b && all_same more others
all_same _ _ = false

abbrev pub declared_of : List Declared → Name → Option Declared
declared_of fs name = find (λ f. bytes_eq f.name name) fs

-- A second declaration of a function has the same types, and not a second body.
abbrev pub is_other_function : List CType → CType → Bool → Option Declared → Option NameUse → Bool
is_other_function params result has_body known None = false
is_other_function params result has_body known (Some (Function number ps r)) =
    not (all_same params ps && same_type result r) || (has_body && option_map_or (λ f. f.has_body) known false)
is_other_function params result has_body known (Some other) = true

-- a function's number: its place among those with a body, or behind the last
abbrev pub number_in : List Name → Name → ℕ
number_in numbered name = unwrap_or (position (λ other. bytes_eq other name) numbered) (length numbered)

-- the parameters and the result that are declared
abbrev pub params_made : Made → List CType
params_made (object_of t) = []
params_made (function_of params result) = params

abbrev pub result_made : Made → CType
result_made (object_of t) = Void
result_made (function_of params result) = result

-- ---- the attribute alloc_size (GCC manual, "Common Function Attributes")

-- one number, or two with a comma between
abbrev pub numbers_in : List TokenKind → Option (ℕ × Option ℕ)
numbers_in (token.Number n kind ∷ []) = Some (n, None)
numbers_in (token.Number n kind ∷ token.Punct Comma ∷ token.Number m other ∷ []) = Some (n, Some m)
numbers_in _ = None

abbrev pub attribute_numbers : Attribute → Option (ℕ × Option ℕ)
attribute_numbers a = option_and_then (λ args. numbers_in (map (λ t. t.kind) args)) a.args

-- the number of an integer parameter, from 1
abbrev pub is_integer_parameter : List CType → ℕ → Bool
is_integer_parameter params n = nat_lt 0 n && option_map_or is_integer (slice_get params (n - 1)) false

abbrev pub are_right : List CType → CType → ℕ × Option ℕ → Bool
are_right params result a = is_pointer result && is_integer_parameter params a.0 && option_map_or (is_integer_parameter params) a.1 true

abbrev pub same_numbers : ℕ × Option ℕ → ℕ × Option ℕ → Bool
same_numbers a b = a.0 == b.0 && option_map_or (λ n. option_map_or (λ m. n == m) b.1 false) a.1 (is_none b.1)

abbrev pub agree : Option (ℕ × Option ℕ) → ℕ × Option ℕ → Bool
agree None a = true
agree (Some b) a = same_numbers a b

-- the numbers of a function behind its attributes, of which one after the other is held against those before it; none where one is wrong
abbrev pub alloc_sizes : List CType → CType → Option (ℕ × Option ℕ) → List Attribute → Option (Option (ℕ × Option ℕ))
alloc_sizes params result known [] = Some known
alloc_sizes params result known (attribute ∷ more) =
    option_and_then
    (λ a. if are_right params result a && agree known a then alloc_sizes params result (Some a) more else None)
    (attribute_numbers attribute)

-- ---- what a function's declarations say of it

abbrev pub known_sizes : Option Declared → Option (ℕ × Option ℕ)
known_sizes f = option_and_then (λ d. d.alloc_size) f

-- one more declaration
abbrev pub with_declaration : Name → Place → Bool → Bool → Option (ℕ × Option ℕ) → Option Declared → Declared
with_declaration name place has_body inlined sizes None =
    record { name = name; place = place; has_body = has_body; inlined = inlined; alloc_size = sizes }
with_declaration name place has_body inlined sizes (Some f) =
    record f { has_body = f.has_body || has_body; inlined = f.inlined || inlined; alloc_size = sizes }

abbrev pub replaced : Declared → List Declared → List Declared
replaced f fs = f ∷ filter (λ g. not (bytes_eq g.name f.name)) fs

-- A declarator of a function, with a body or not: its rules, and then its name is there.
abbrev pub function_part : Specifiers → ReadDeclarator → Shape → Bool → Bool → Typing ⊤
function_part specs d shape has_body lacks_names = do
  before ← use_of (name_of d)
  tags ← look (λ s. s.tags)
  beside ← recall (λ b. b)
  let f = formed tags specs.base shape
  let params = params_made f.made
  let result = result_made f.made
  let known = declared_of beside.functions (name_of d)
  let sizes = alloc_sizes params result (known_sizes known) (filter is_alloc_size specs.attributes)
  first d.place (
      (Redeclared, is_other_function params result has_body known before)
      ∷ (BadType, f.bad_type || lacks_names)
      ∷ (LimitObject, passes_limit f)
      ∷ (ByValue, f.by_value)
      ∷ (FunctionPointer, f.function_pointer)
      ∷ (LimitArguments, f.too_many)
      ∷ (AllocSizeIndex, is_none sizes)
      ∷ (LimitFunctions, has_body && nat_le most_functions (length beside.bodies)) ∷ [])
  change (add (name_of d) (Function (number_in beside.numbered (name_of d)) params result))
  note (λ b. record b {
    functions =
        replaced (with_declaration (name_of d) d.place has_body specs.is_inline (unwrap_or sizes None) known) b.functions;
  })

abbrev pub declared_function : Specifiers → ReadDeclarator → Option Init → Typing ⊤
declared_function specs d init = do
  shape ← d.parts
  function_part specs d shape false false
  no_init init

-- ---- declarations

abbrev pub declarator_part : Specifiers → ReadDeclarator → Option Init → Typing ⊤
declarator_part specs d init =
    if specs.is_typedef then typedef_part specs d init
    else (if d.is_function then declared_function specs d init
    else variable_part specs d init)

abbrev pub declarator_parts : Specifiers → List InitDeclarator → Typing ⊤
declarator_parts specs [] = pure tt
declarator_parts specs (d ∷ ds) = do
  declarator_part (with_attributes specs d) (read_declarator d.declarator) d.init
  declarator_parts specs ds

abbrev pub declaration_part : List Spec → List InitDeclarator → Typing ⊤
declaration_part specs ds = do
  known ← specifiers_part (map read_spec specs)
  declarator_parts known ds

-- ---- definitions (6.9.1)

-- the parameters of the list next to the name
abbrev pub own_params : Shape → List Parameter
own_params innermost = []
own_params (function innermost params) = params
own_params (function of params) = own_params of
own_params (pointer n of) = own_params of
own_params (array of bound) = own_params of

abbrev pub add_params : List Parameter → Typing ⊤
add_params [] = pure tt
add_params (p ∷ ps) = do
  number ← new_local (unwrap_or p.name []) p.ctype
  change (add (unwrap_or p.name []) (Local number p.ctype))
  add_params ps

abbrev pub around_body : CType → ℕ → Around
around_body result start = record { result = result; start = start; can_break = false; can_continue = false }

-- The parameters and the body's own block are one scope.
abbrev pub body_part : Specifiers → ReadDeclarator → Shape → Stmt → Typing ⊤
body_part specs d shape body = do
  tags ← look (λ s. s.tags)
  let made = (formed tags specs.base shape).made
  start ← look len
  note (λ b. record b { locals = [] })
  add_params (own_params shape)
  x ← body_stmt d.place body (around_body (result_made made) start)
  change (cut start)
  note (λ b. record b {
    bodies = b.bodies ++ record {
      name = name_of d;
      params = params_made made;
      result = result_made made;
      locals = b.locals;
      body = x;
    } ∷ [];
    locals = [];
  })

-- A definition that declares no function, or is a typedef, breaks that rule alone.
abbrev pub definition_part : List Spec → Declarator → Stmt → Typing ⊤
definition_part specs declarator body = do
  known ← specifiers_part (map read_spec specs)
  let d = read_declarator declarator
  shape ← d.parts
  first d.place ((BadType, not d.is_function || known.is_typedef) ∷ [])
  function_part known d shape true (list_any (λ p. is_none p.name) (own_params shape))
  body_part known d shape body

abbrev pub external_part : External → Typing ⊤
external_part (external.Header id place) = header_part id place
external_part (external.Declaration specs declarators place) = declaration_part specs declarators
external_part (external.Function specs declarator body place) = definition_part specs declarator body

abbrev pub external_parts : List External → Typing ⊤
external_parts [] = pure tt
external_parts (x ∷ xs) = do
  external_part x
  external_parts xs
