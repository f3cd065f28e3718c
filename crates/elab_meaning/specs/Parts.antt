-- What the parts of a written tree are to the node that holds them. The tree is read from its leaves up (`fold-Expr` and its kin of c_tree,
-- in Trees.antt), so a node sees of each part what stands here: what its context asks of it as it is written, and how it is typed. A word
-- that ends in `_layer` (Expressions.antt, Declarations.antt) is what a node is by its parts. `typed` runs nothing by itself: a node that
-- doesn't run a part leaves it untyped, as a call does with the name that it calls.
use Rattle.std.specs.Prelude.{ℕ, ℤ, Bool, List, Option}
use Rattle.fc_base.specs.declared.refusals.Place.{Place}
use Rattle.c_tree.specs.declared.nodes.Attribute.{Attribute}
use Rattle.c_tree.specs.declared.nodes.Declarator.TheOpen.{Declarator-F, ExprKind-F, Params-F, Spec-F, Enumerator-F, Expr-F, MemberDecl-F, Param-F, TypeName-F}
use Rattle.c_tree.specs.declared.nodes.BasicWord.{BasicWord}
use Rattle.c_tree.specs.declared.typed.TypedExpr.{TypedExpr}
use Rattle.c_layout.specs.declared.types.CType.{CType}
use Rattle.c_layout.specs.declared.tags.Member.{Member}
use Rattle.elab_meaning.specs.Scope.{Name}
use Rattle.elab_meaning.specs.Typing.{Typing}

-- ---- expressions

-- what a context asks of an expression as it is written: whether it is a name, which a call may call, or a string literal, which may
-- initialise an array or be a format
pub data Form : Type 0 where
  is_name : Name → Form
  is_text : List ℕ → Form
  is_other : Form

-- An expression. `typed` gives it before any conversion of its context: an array stays one. It adds string literals and the tags that are
-- mentioned first, and leaves the names as they are.
pub record ReadExpr : Type 0 where
  pub form : Form
  pub place : Place
  pub typed : Typing TypedExpr

-- the same without its place, which the node around it has
pub record ReadKind : Type 0 where
  pub form : Form
  pub typed : Place → Typing TypedExpr

-- ---- types

-- a type name gives its type, once its own rules are looked at
abbrev pub ReadTypeName : Type 0
ReadTypeName = Typing CType

-- what a specifier says
pub data Meant : Type 0 where
  typedef_word : Meant
  static_word : Meant
  inline_word : Meant
  -- extern or const
  plain_word : Meant
  attributes : List Attribute → Meant
  basic : BasicWord → Meant
  -- a typedef's name, a structure, a union or an enumeration
  type : CType → Meant

-- A specifier. Typing it adds the tag and, where it has a body, its members or its enumerators.
abbrev pub ReadSpec : Type 0
ReadSpec = Typing Meant

-- A parameter of a list: its name, if it has one; the place of its declarator; its type, which is no array and no function any more
-- (C11 6.7.6.3p7).
pub record Parameter : Type 0 where
  pub name : Option Name
  pub place : Place
  pub ctype : CType

-- a parameter, given where the scope of its list begins and its place in the list; behind it its name is there
abbrev pub ReadParam : Type 0
ReadParam = (start number : ℕ) → Typing Parameter

-- a list of parameters in a scope of its own, which is left behind it
abbrev pub ReadParams : Type 0
ReadParams = Typing (List Parameter)

-- A declarator once its bounds and parameter lists are typed, of the same shape: from the name out, as it is written. A type goes through
-- it from the outside in.
pub data Shape : Type 0 where
  -- the name, or where it is left out
  innermost : Shape
  -- so many stars
  pointer : ℕ → Shape → Shape
  -- with the value of the bound, if one is written
  array : Shape → Option ℤ → Shape
  function : Shape → List Parameter → Shape

-- A declarator: its name, if it has one; the place of its first token; whether it is the name alone; whether a list of parameters stands
-- next to the name, so that it declares a function; and its bounds and parameter lists, typed in text order.
pub record ReadDeclarator : Type 0 where
  pub name : Option Name
  pub place : Place
  pub is_bare : Bool
  pub is_function : Bool
  pub parts : Typing Shape

-- The members of one declaration in a structure, or in a union, behind these members, and whether it is the last declaration there: it
-- gives all members up to here.
abbrev pub ReadMembers : Type 0
ReadMembers = (is_union : Bool) (before : List Member) (is_last : Bool) → Typing (List Member)

-- an enumerator, given the value that it has if none is written (C11 6.7.2.2p3): it gives its value, and behind it its name is there
abbrev pub ReadEnumerator : Type 0
ReadEnumerator = ℤ → Typing ℤ

-- ---- the nodes of the tree over what their parts are to them

abbrev pub DeclaratorLayer : Type 0
DeclaratorLayer = Declarator-F ReadDeclarator ReadKind ReadParams ReadSpec ReadEnumerator ReadExpr ReadMembers ReadParam ReadTypeName

abbrev pub KindLayer : Type 0
KindLayer = ExprKind-F ReadDeclarator ReadKind ReadParams ReadSpec ReadEnumerator ReadExpr ReadMembers ReadParam ReadTypeName

abbrev pub ParamsLayer : Type 0
ParamsLayer = Params-F ReadDeclarator ReadKind ReadParams ReadSpec ReadEnumerator ReadExpr ReadMembers ReadParam ReadTypeName

abbrev pub SpecLayer : Type 0
SpecLayer = Spec-F ReadDeclarator ReadKind ReadParams ReadSpec ReadEnumerator ReadExpr ReadMembers ReadParam ReadTypeName

abbrev pub EnumeratorLayer : Type 0
EnumeratorLayer = Enumerator-F ReadDeclarator ReadKind ReadParams ReadSpec ReadEnumerator ReadExpr ReadMembers ReadParam ReadTypeName

abbrev pub ExprLayer : Type 0
ExprLayer = Expr-F ReadDeclarator ReadKind ReadParams ReadSpec ReadEnumerator ReadExpr ReadMembers ReadParam ReadTypeName

abbrev pub MemberLayer : Type 0
MemberLayer = MemberDecl-F ReadDeclarator ReadKind ReadParams ReadSpec ReadEnumerator ReadExpr ReadMembers ReadParam ReadTypeName

abbrev pub ParamLayer : Type 0
ParamLayer = Param-F ReadDeclarator ReadKind ReadParams ReadSpec ReadEnumerator ReadExpr ReadMembers ReadParam ReadTypeName

abbrev pub TypeNameLayer : Type 0
TypeNameLayer = TypeName-F ReadDeclarator ReadKind ReadParams ReadSpec ReadEnumerator ReadExpr ReadMembers ReadParam ReadTypeName
