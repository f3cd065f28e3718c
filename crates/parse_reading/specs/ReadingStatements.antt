-- How initialisers, declarations and statements are read: functions that compute what the grammar has, as in Reading. The contracts
-- of the parsers name them.
use Rattle.std.specs.Prelude.{ℕ, zero, suc, max, List, [], ◌∷◌, Option, Some, None, Bool, true, false, if◌then◌else◌, length}
use Rattle.fc_base.specs.declared.refusals.Place.{Place}
use Rattle.c_tokens.specs.declared.puncts.Punct.TheVariants as p
use Rattle.c_tree.specs.declared.nodes.Expr.{Expr}
use Rattle.c_tree.specs.declared.nodes.Attribute.{Attribute}
use Rattle.c_tree.specs.declared.nodes.Spec.{Spec}
use Rattle.c_tree.specs.declared.nodes.Declarator.{Declarator}
use Rattle.c_tree.specs.declared.statements.Init.{Init}
use Rattle.c_tree.specs.declared.statements.Init.TheVariants as init
use Rattle.c_tree.specs.declared.statements.InitDeclarator.{InitDeclarator}
use Rattle.c_tree.specs.declared.statements.ForHead.{ForHead}
use Rattle.c_tree.specs.declared.statements.ForHead.TheVariants as head
use Rattle.c_tree.specs.declared.statements.Stmt.{Stmt}
use Rattle.c_tree.specs.declared.statements.Stmt.TheVariants as s
use Rattle.parse_meaning.specs.declared.terminals.Keyword.TheVariants as w
use Rattle.parse_meaning.specs.declared.terminals.Terminal.TheVariants as k
use Rattle.parse_meaning.specs.Terminals.{Lexeme, at, place_of}
use Rattle.parse_meaning.specs.Specifiers.{block}
use Rattle.parse_meaning.specs.Expressions.{Declared, conditional, assignment, expression as full}
use Rattle.parse_meaning.specs.Statements.{are_objects}
use Rattle.parse_reading.specs.Reading.{Read, ◌>>=◌, found, prepended, after_left_paren, after_right_paren, after_colon, begins_spec}
use Rattle.parse_reading.specs.Reading.{plain_spec, specs_in, attribute_list, expression}
use Rattle.parse_reading.specs.ReadingDeclarators.{Named, declarator}

abbrev pub after_semicolon : List Lexeme → Option (List Lexeme)
after_semicolon (at (k.Punct p.Semicolon) o ∷ t) = Some t
after_semicolon _ = None

abbrev pub after_left_brace : List Lexeme → Option (List Lexeme)
after_left_brace (at (k.Punct p.LeftBrace) o ∷ t) = Some t
after_left_brace _ = None

abbrev pub after_while : List Lexeme → Option (List Lexeme)
after_while (at (k.Word w.While) o ∷ t) = Some t
after_while _ = None

-- ---- Initialisers

-- with a reader of initialisers in braces; the number bounds the turns
module _ (deep : List Lexeme → Option (Read Init)) where
  abbrev pub inits_comma : (List Lexeme → Option (Read (List Init))) → Read Init → List Lexeme → Option (Read (List Init))
  inits_comma later x (at (k.Punct p.RightBrace) o ∷ t) = Some (found (x.tree ∷ []) x.height t)
  inits_comma later x t = prepended (x.tree ∷ []) x.height (later t)

  abbrev pub inits_behind : (List Lexeme → Option (Read (List Init))) → Read Init → List Lexeme → Option (Read (List Init))
  inits_behind later x (at (k.Punct p.RightBrace) o ∷ t) = Some (found (x.tree ∷ []) x.height t)
  inits_behind later x (at (k.Punct p.Comma) o ∷ t) = inits_comma later x t
  inits_behind later x _ = None

  unfoldable pub inits : ℕ → List Lexeme → Option (Read (List Init))
  inits zero s = None
  inits (suc m) s = deep s >>= λ x. inits_behind (inits m) x x.rest

  module _ (sub : ℕ → List Lexeme → Option (Read Expr)) where
    unfoldable pub init_list : Place → List Lexeme → Option (Read Init)
    init_list place t = inits (length t) t >>= λ xs. Some (found (init.List xs.tree place) (suc xs.height) xs.rest)

    unfoldable pub init_expr : List Lexeme → Option (Read Init)
    init_expr s = sub assignment s >>= λ x. Some (found (init.Expr x.tree) x.height x.rest)

    abbrev pub init_by : List Lexeme → Option (Read Init)
    init_by (at (k.Punct p.LeftBrace) o ∷ t) = init_list o.place t
    init_by s = init_expr s

-- an initialiser whose tree is at most so high
unfoldable pub initialiser : ℕ → List Lexeme → Option (Read Init)
initialiser zero s = None
initialiser (suc n) s = init_by (initialiser n) (expression (suc n)) s

-- ---- Declarations

abbrev pub lists_by : (List Lexeme → Option (List (List Attribute) × List Lexeme)) → List Lexeme →
    Option (List (List Attribute) × List Lexeme)
lists_by later (at (k.Word w.Attribute) o ∷ t) = attribute_list t >>= λ x. later x.1 >>= λ xs. Some (x.0 ∷ xs.0, xs.1)
lists_by later s = Some ([], s)

-- any number of attribute lists; the number bounds the turns
unfoldable pub attribute_lists : ℕ → List Lexeme → Option (List (List Attribute) × List Lexeme)
attribute_lists zero s = lists_by (λ t. None) s
attribute_lists (suc m) s = lists_by (attribute_lists m) s

-- a declarator with its initialiser, or several, and what each declares
pub record NamedInit : Type 0 where
  pub tree : InitDeclarator
  pub declared : Declared

pub record NamedInits : Type 0 where
  pub trees : List InitDeclarator
  pub declared : List Declared

pub record Local : Type 0 where
  pub specs : List Spec
  pub declarators : List InitDeclarator

abbrev pub as_init : Declarator → List (List Attribute) → Option Init → Declared → NamedInit
as_init x xs y n = record { tree = record { declarator = x; attributes = xs; init = y }; declared = n }

-- with readers of declarators and initialisers
module _ (named : List Lexeme → Option (Read Named)) (init : List Lexeme → Option (Read Init)) where
  unfoldable pub initialised : Read Named → List (List Attribute) → List Lexeme → Option (Read NamedInit)
  initialised x xs u = init u >>= λ y. Some (found (as_init x.tree.tree xs (Some y.tree) x.tree.declared) (max x.height y.height) y.rest)

  abbrev pub init_behind : Read Named → List (List Attribute) → List Lexeme → Option (Read NamedInit)
  init_behind x xs (at (k.Punct p.Assign) o ∷ u) = initialised x xs u
  init_behind x xs u = Some (found (as_init x.tree.tree xs None x.tree.declared) x.height u)

  unfoldable pub init_declarator : List Lexeme → Option (Read NamedInit)
  init_declarator s = do
    x ← named s
    xs ← attribute_lists (length x.rest) x.rest
    init_behind x xs.0 xs.1

  -- up to and with the semicolon; the number bounds the turns
  abbrev pub with_init : Read NamedInit → Option (Read NamedInits) → Option (Read NamedInits)
  with_init x r = r >>= λ xs. Some (found (record {
    trees = x.tree.tree ∷ xs.tree.trees;
    declared = x.tree.declared ∷
        xs.tree.declared;
  }) (max x.height xs.height) xs.rest)

  abbrev pub init_declarators_behind : (List Lexeme → Option (Read NamedInits)) → Read NamedInit → List Lexeme → Option (Read NamedInits)
  init_declarators_behind later x (at (k.Punct p.Semicolon) o ∷ t) = Some (found (record {
    trees = x.tree.tree ∷
        [];
    declared = x.tree.declared ∷ [];
  }) x.height t)
  init_declarators_behind later x (at (k.Punct p.Comma) o ∷ t) = with_init x (later t)
  init_declarators_behind later x _ = None

  unfoldable pub init_declarators : ℕ → List Lexeme → Option (Read NamedInits)
  init_declarators zero s = None
  init_declarators (suc m) s = init_declarator s >>= λ x. init_declarators_behind (init_declarators m) x x.rest

  unfoldable pub local : List Lexeme → Option (Read Local)
  local s = do
    xs ← specs_in plain_spec block s
    ys ← init_declarators (length xs.rest) xs.rest
    if are_objects ys.tree.declared then Some (found (record { specs = xs.tree.specs; declarators = ys.tree.trees })
        (max xs.height ys.height) ys.rest) else None

-- ---- Statements

module _ (after : List Lexeme → Option (List Lexeme)) (sub : ℕ → List Lexeme → Option (Read Expr)) where
  unfoldable pub ended : List Lexeme → Option (Read (Option Expr))
  ended s = do
    x ← sub full s
    t ← after x.rest
    Some (found (Some x.tree) x.height t)

  abbrev pub optional_by : Option (List Lexeme) → List Lexeme → Option (Read (Option Expr))
  optional_by (Some t) s = Some (found None 0 t)
  optional_by None s = ended s

  -- an expression or none, up to and with a token
  abbrev pub optional : List Lexeme → Option (Read (Option Expr))
  optional s = optional_by (after s) s

-- with readers of expressions, of declarations and of statements
module _ (sub : ℕ → List Lexeme → Option (Read Expr)) (local : List Lexeme → Option (Read Local)) (deep : List Lexeme →
    Option (Read Stmt)) where
  unfoldable pub case_label : Place → List Lexeme → Option (Read Stmt)
  case_label place a = do
    x ← sub conditional a
    t ← after_colon x.rest
    Some (found (s.Case x.tree place) (suc x.height) t)

  unfoldable pub default_label : Place → List Lexeme → Option (Read Stmt)
  default_label place t = after_colon t >>= λ u. Some (found (s.Default place) 1 u)

  abbrev pub label : List Lexeme → Option (Read Stmt)
  label (at (k.Word w.Case) o ∷ t) = case_label o.place t
  label (at (k.Word w.Default) o ∷ t) = default_label o.place t
  label _ = None

  abbrev pub begins_label : List Lexeme → Bool
  begins_label (at (k.Word w.Case) o ∷ t) = true
  begins_label (at (k.Word w.Default) o ∷ t) = true
  begins_label _ = false

  -- the labels and statements of a switch; the number bounds the turns
  unfoldable pub with_stmt : (List Lexeme → Option (Read (List Stmt))) → Option (Read Stmt) → Option (Read (List Stmt))
  with_stmt later r = r >>= λ x. prepended (x.tree ∷ []) x.height (later x.rest)

  abbrev pub labelled_by : (List Lexeme → Option (Read (List Stmt))) → List Lexeme → Option (Read (List Stmt))
  labelled_by later (at (k.Punct p.RightBrace) o ∷ t) = Some (found [] 0 t)
  labelled_by later a = with_stmt later (if begins_label a then label a else deep a)

  unfoldable pub labelled : ℕ → List Lexeme → Option (Read (List Stmt))
  labelled zero a = labelled_by (λ t. None) a
  labelled (suc m) a = labelled_by (labelled m) a

  abbrev pub cases : List Lexeme → Option (Read (List Stmt))
  cases (at (k.Punct p.RightBrace) o ∷ t) = Some (found [] 0 t)
  cases a = with_stmt (labelled (length a)) (label a)

  -- the items of a block; the number bounds the turns
  unfoldable pub declared_item : List Lexeme → Option (Read Stmt)
  declared_item a = local a >>= λ x. Some (found (s.Declare x.tree.specs x.tree.declarators (place_of a)) (suc x.height) x.rest)

  abbrev pub items_by : (List Lexeme → Option (Read (List Stmt))) → List Lexeme → Option (Read (List Stmt))
  items_by later (at (k.Punct p.RightBrace) o ∷ t) = Some (found [] 0 t)
  items_by later a = with_stmt later (if begins_spec a then declared_item a else deep a)

  unfoldable pub items : ℕ → List Lexeme → Option (Read (List Stmt))
  items zero a = items_by (λ t. None) a
  items (suc m) a = items_by (items m) a

  unfoldable pub compound : Place → List Lexeme → Option (Read Stmt)
  compound place t = items (length t) t >>= λ xs. Some (found (s.Block xs.tree place) (suc xs.height) xs.rest)

  unfoldable pub evaluation : List Lexeme → Option (Read Stmt)
  evaluation a = optional after_semicolon sub a >>= λ x. Some (found (s.Expr x.tree (place_of a)) (suc x.height) x.rest)

  -- an expression in parentheses
  unfoldable pub condition : List Lexeme → Option (Read Expr)
  condition a = do
    t ← after_left_paren a
    x ← sub full t
    u ← after_right_paren x.rest
    Some (found x.tree x.height u)

  abbrev pub otherwise : Place → Expr → ℕ → Stmt → ℕ → List Lexeme → Option (Read Stmt)
  otherwise place x h y j (at (k.Word w.Else) o ∷ u) = deep u >>= λ z. Some (found (s.If x y (Some z.tree) place)
      (suc (max h (max j z.height))) z.rest)
  otherwise place x h y j u = Some (found (s.If x y None place) (suc (max h j)) u)

  unfoldable pub if_read : Place → List Lexeme → Option (Read Stmt)
  if_read place a = do
    x ← condition a
    y ← deep x.rest
    otherwise place x.tree x.height y.tree y.height y.rest

  unfoldable pub switch_read : Place → List Lexeme → Option (Read Stmt)
  switch_read place a = do
    x ← condition a
    t ← after_left_brace x.rest
    ys ← cases t
    Some (found (s.Switch x.tree ys.tree place) (suc (max x.height ys.height)) ys.rest)

  unfoldable pub while_read : Place → List Lexeme → Option (Read Stmt)
  while_read place a = do
    x ← condition a
    y ← deep x.rest
    Some (found (s.While x.tree y.tree place) (suc (max x.height y.height)) y.rest)

  unfoldable pub do_read : Place → List Lexeme → Option (Read Stmt)
  do_read place a = do
    y ← deep a
    t ← after_while y.rest
    x ← condition t
    u ← after_semicolon x.rest
    Some (found (s.Do y.tree x.tree place) (suc (max y.height x.height)) u)

  unfoldable pub head_local : List Lexeme → Option (Read ForHead)
  head_local a = local a >>= λ x. Some (found (head.Declare x.tree.specs x.tree.declarators) x.height x.rest)

  unfoldable pub head_expr : List Lexeme → Option (Read ForHead)
  head_expr a = optional after_semicolon sub a >>= λ x. Some (found (head.Expr x.tree) x.height x.rest)

  abbrev pub for_head : List Lexeme → Option (Read ForHead)
  for_head a = if begins_spec a then head_local a else head_expr a

  unfoldable pub for_read : Place → List Lexeme → Option (Read Stmt)
  for_read place a = do
    b ← after_left_paren a
    x ← for_head b
    y ← optional after_semicolon sub x.rest
    z ← optional after_right_paren sub y.rest
    body ← deep z.rest
    Some (found (s.For x.tree y.tree z.tree body.tree place) (suc (max x.height (max y.height (max z.height body.height)))) body.rest)

  unfoldable pub jump : Stmt → List Lexeme → Option (Read Stmt)
  jump x a = after_semicolon a >>= λ t. Some (found x 1 t)

  unfoldable pub returned : Place → List Lexeme → Option (Read Stmt)
  returned place a = optional after_semicolon sub a >>= λ x. Some (found (s.Return x.tree place) (suc x.height) x.rest)

  abbrev pub statement_by : List Lexeme → Option (Read Stmt)
  statement_by (at (k.Punct p.LeftBrace) o ∷ t) = compound o.place t
  statement_by (at (k.Word w.If) o ∷ t) = if_read o.place t
  statement_by (at (k.Word w.Switch) o ∷ t) = switch_read o.place t
  statement_by (at (k.Word w.While) o ∷ t) = while_read o.place t
  statement_by (at (k.Word w.Do) o ∷ t) = do_read o.place t
  statement_by (at (k.Word w.For) o ∷ t) = for_read o.place t
  statement_by (at (k.Word w.Break) o ∷ t) = jump (s.Break o.place) t
  statement_by (at (k.Word w.Continue) o ∷ t) = jump (s.Continue o.place) t
  statement_by (at (k.Word w.Return) o ∷ t) = returned o.place t
  statement_by a = evaluation a

-- a statement whose tree is at most so high
unfoldable pub statement : ℕ → List Lexeme → Option (Read Stmt)
statement zero a = None
statement (suc n) a = statement_by (expression n) (local (declarator n) (initialiser n)) (statement n) a
