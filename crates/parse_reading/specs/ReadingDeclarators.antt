-- How declarators and specifiers with bodies are read: functions that compute what the grammar has, as in Reading. The contracts
-- of the parsers name them.
use Rattle.std.specs.Prelude.{ℕ, zero, suc, max, nat_le, List, [], ◌∷◌, Option, Some, None, Bool, true, false, not, if◌then◌else◌, length}
use Rattle.fc_base.specs.declared.refusals.Place.{Place}
use Rattle.c_tokens.specs.declared.puncts.Punct.TheVariants as p
use Rattle.c_tokens.specs.declared.tokens.Token.{Token}
use Rattle.c_tree.specs.declared.nodes.Expr.{Expr}
use Rattle.c_tree.specs.declared.nodes.Spec.{Spec}
use Rattle.c_tree.specs.declared.nodes.Spec.TheVariants as spec
use Rattle.c_tree.specs.declared.nodes.Aggregate.{Aggregate}
use Rattle.c_tree.specs.declared.nodes.Aggregate.TheVariants as aggregate
use Rattle.c_tree.specs.declared.nodes.MemberDecl.{MemberDecl}
use Rattle.c_tree.specs.declared.nodes.Enumerator.{Enumerator, roll-Enumerator}
use Rattle.c_tree.specs.declared.nodes.PointerWord.{PointerWord}
use Rattle.c_tree.specs.declared.nodes.PointerWord.TheVariants as pointer
use Rattle.c_tree.specs.declared.nodes.Declarator.{Declarator}
use Rattle.c_tree.specs.declared.nodes.Declarator.TheVariants as d
use Rattle.c_tree.specs.declared.nodes.Params.{Params}
use Rattle.c_tree.specs.declared.nodes.Params.TheVariants as params
use Rattle.c_tree.specs.declared.nodes.Param.{Param}
use Rattle.parse_meaning.specs.declared.terminals.Keyword.TheVariants as w
use Rattle.parse_meaning.specs.declared.terminals.Terminal.{Terminal}
use Rattle.parse_meaning.specs.declared.terminals.Terminal.TheVariants as k
use Rattle.parse_meaning.specs.Terminals.{Lexeme, at, text_of, is_tag, place_of}
use Rattle.parse_meaning.specs.Specifiers.{outer, inner, whole_type}
use Rattle.parse_meaning.specs.Expressions.{Declared, bare, parameters, other, behind, identifier, conditional}
use Rattle.parse_reading.specs.Reading.{Read, ◌>>=◌, found, prepended, after_right_paren, Counted, Specs, counted, plain_spec, specs_in}
use Rattle.parse_reading.specs.Reading.{pointer_words, stars, bound, abstract, expression}

-- a declarator, and what it declares
pub record Named : Type 0 where
  pub tree : Declarator
  pub declared : Declared

abbrev pub as_named : Declarator → Declared → Named
as_named x n = record { tree = x; declared = n }

-- ---- Whether a declarator or an abstract one stands in a parameter

abbrev pub begins_right_paren : List Lexeme → Bool
begins_right_paren (at (k.Punct p.RightParen) o ∷ t) = true
begins_right_paren _ = false

abbrev pub names_direct : List Lexeme → Bool
names_direct (at k.Name o ∷ t) = true
names_direct (at (k.Punct p.LeftParen) o ∷ t) = not (begins_right_paren (stars t).1)
names_direct _ = false

abbrev pub names : List Lexeme → Bool
names (at (k.Punct p.Star) o ∷ t) = names_direct (pointer_words t).1
names s = names_direct s

-- with the most that a tree may be high, and readers of expressions and of declarators in parameters
module _ (limit : ℕ) (sub : ℕ → List Lexeme → Option (Read Expr)) (deep : List Lexeme → Option (Read Named)) where
  unfoldable pub param_named : Read Specs → Option (Read Param)
  param_named xs = deep xs.rest >>= λ x. Some (found (record { specs = xs.tree.specs; declarator = x.tree.tree })
      (max xs.height x.height) x.rest)

  unfoldable pub param_abstract : Place → Read Specs → Option (Read Param)
  param_abstract place xs = abstract sub limit place xs.rest >>= λ x. Some (found (record { specs = xs.tree.specs; declarator = x.tree }) (max xs.height x.height) x.rest)

  unfoldable pub param : List Lexeme → Option (Read Param)
  param s = specs_in plain_spec inner s >>= λ xs. if names xs.rest then param_named xs else param_abstract (place_of s) xs

  -- one parameter or more, up to and with the parenthesis; the number bounds the turns
  abbrev pub params_behind : (List Lexeme → Option (Read (List Param))) → Read Param → List Lexeme → Option (Read (List Param))
  params_behind later x (at (k.Punct p.Comma) o ∷ t) = prepended (x.tree ∷ []) x.height (later t)
  params_behind later x (at (k.Punct p.RightParen) o ∷ t) = Some (found (x.tree ∷ []) x.height t)
  params_behind later x _ = None

  unfoldable pub params_some : ℕ → List Lexeme → Option (Read (List Param))
  params_some zero s = None
  params_some (suc m) s = param s >>= λ x. params_behind (params_some m) x x.rest

  unfoldable pub params_list : List Lexeme → Option (Read Params)
  params_list s = params_some (length s) s >>= λ xs. Some (found (params.List xs.tree) xs.height xs.rest)

  abbrev pub params_void : Token → List Lexeme → Option (Read Params)
  params_void o (at (k.Punct p.RightParen) q ∷ t) = Some (found params.Void 0 t)
  params_void o t = params_list (at (k.Word w.Void) o ∷ t)

  abbrev pub params_in : List Lexeme → Option (Read Params)
  params_in (at (k.Punct p.RightParen) o ∷ t) = Some (found params.Empty 0 t)
  params_in (at (k.Word w.Void) o ∷ t) = params_void o t
  params_in s = params_list s

  -- ---- Declarators

  -- how a declarator goes on; the number bounds the turns
  abbrev pub suffixes_behind : (Read Named → Option (Read Named)) → Place → Read Named → List Lexeme → Option (Read Named)
  suffixes_behind later start x (at (k.Punct p.LeftBracket) o ∷ t) =
      bound sub t >>= λ y.
      if nat_le (suc (max x.height y.height)) limit then later (found (as_named (d.Array x.tree.tree y.tree start)
      (behind x.tree.declared other)) (suc (max x.height y.height)) y.rest) else None
  suffixes_behind later start x (at (k.Punct p.LeftParen) o ∷ t) =
      params_in t >>= λ y.
      if nat_le (suc (max x.height y.height)) limit then later (found (as_named (d.Function x.tree.tree y.tree start)
      (behind x.tree.declared parameters)) (suc (max x.height y.height)) y.rest) else None
  suffixes_behind later start x _ = Some x

  unfoldable pub suffixes : ℕ → Place → Read Named → Option (Read Named)
  suffixes zero start x = suffixes_behind (λ x. None) start x x.rest
  suffixes (suc m) start x = suffixes_behind (suffixes m start) start x x.rest

  -- with a reader of what stands in parentheses
  module _ (inside : List Lexeme → Option (Read Named)) where
    unfoldable pub grouped : List Lexeme → Option (Read Named)
    grouped t = inside t >>= λ x. after_right_paren x.rest >>= λ u. Some (found x.tree x.height u)

    abbrev pub first : List Lexeme → Option (Read Named)
    first (at k.Name o ∷ t) = Some (found (as_named (d.Name (text_of o) o.place) (record { name = text_of o; nearest = bare })) 1 t)
    first (at (k.Punct p.LeftParen) o ∷ t) = grouped t
    first _ = None

    unfoldable pub direct : List Lexeme → Option (Read Named)
    direct s = first s >>= λ x. suffixes (length s) (place_of s) x

    unfoldable pub pointer_to : Place → List PointerWord → List Lexeme → Option (Read Named)
    pointer_to place ws s = direct s >>= λ x. Some (found (as_named (d.Pointer (pointer.Star ∷ ws) x.tree.tree place)
        (behind x.tree.declared other)) (suc x.height) x.rest)

    abbrev pub pointer_of : Place → List PointerWord × List Lexeme → Option (Read Named)
    pointer_of place (ws, s) = pointer_to place ws s

    abbrev pub whole_by : List Lexeme → Option (Read Named)
    whole_by (at (k.Punct p.Star) o ∷ t) = pointer_of o.place (pointer_words t)
    whole_by s = direct s

  -- the number bounds the parentheses that stand in one another
  unfoldable pub whole : ℕ → List Lexeme → Option (Read Named)
  whole zero s = None
  whole (suc m) s = whole_by (whole m) s

-- a declarator whose tree is at most so high
unfoldable pub declarator : ℕ → List Lexeme → Option (Read Named)
declarator zero s = None
declarator (suc n) s = whole (suc n) (expression n) (declarator n) (suc (length s)) s

-- ---- Specifiers with bodies

module _ (sub : ℕ → List Lexeme → Option (Read Expr)) where
  unfoldable pub enumerator_valued : Token → List Lexeme → Option (Read Enumerator)
  enumerator_valued o s = sub conditional s >>= λ x. Some (found (roll-Enumerator (record { name = identifier o; value = Some x.tree })) x.height x.rest)

  abbrev pub enumerator_behind : Token → List Lexeme → Option (Read Enumerator)
  enumerator_behind o (at (k.Punct p.Assign) q ∷ s) = enumerator_valued o s
  enumerator_behind o t = Some (found (roll-Enumerator (record { name = identifier o; value = None })) 0 t)

  abbrev pub enumerator : List Lexeme → Option (Read Enumerator)
  enumerator (at k.Name o ∷ t) = enumerator_behind o t
  enumerator _ = None

  -- up to and with the brace; the number bounds the turns
  abbrev pub enumerators_comma : (List Lexeme → Option (Read (List Enumerator))) → Read Enumerator → List Lexeme →
      Option (Read (List Enumerator))
  enumerators_comma later x (at (k.Punct p.RightBrace) o ∷ t) = Some (found (x.tree ∷ []) x.height t)
  enumerators_comma later x t = prepended (x.tree ∷ []) x.height (later t)

  abbrev pub enumerators_behind : (List Lexeme → Option (Read (List Enumerator))) → Read Enumerator → List Lexeme →
      Option (Read (List Enumerator))
  enumerators_behind later x (at (k.Punct p.RightBrace) o ∷ t) = Some (found (x.tree ∷ []) x.height t)
  enumerators_behind later x (at (k.Punct p.Comma) o ∷ t) = enumerators_comma later x t
  enumerators_behind later x _ = None

  unfoldable pub enumerators : ℕ → List Lexeme → Option (Read (List Enumerator))
  enumerators zero s = None
  enumerators (suc m) s = enumerator s >>= λ x. enumerators_behind (enumerators m) x x.rest

-- with a reader of declarators
module _ (deep : List Lexeme → Option (Read Named)) where
  -- up to and with the semicolon; the number bounds the turns
  abbrev pub declarators_behind : (List Lexeme → Option (Read (List Declarator))) → Read Named → List Lexeme →
      Option (Read (List Declarator))
  declarators_behind later x (at (k.Punct p.Comma) o ∷ t) = prepended (x.tree.tree ∷ []) x.height (later t)
  declarators_behind later x (at (k.Punct p.Semicolon) o ∷ t) = Some (found (x.tree.tree ∷ []) x.height t)
  declarators_behind later x _ = None

  unfoldable pub declarators : ℕ → List Lexeme → Option (Read (List Declarator))
  declarators zero s = None
  declarators (suc m) s = deep s >>= λ x. declarators_behind (declarators m) x x.rest

  -- and of specifiers with bodies
  module _ (one : List Lexeme → Option (Read Counted)) where
    unfoldable pub member_decl : List Lexeme → Option (Read MemberDecl)
    member_decl s = do
      xs ← specs_in one outer s
      ys ← declarators (length xs.rest) xs.rest
      Some (found (record { specs = xs.tree.specs; declarators = ys.tree }) (max xs.height ys.height) ys.rest)

    -- up to and with the brace; the number bounds the turns
    abbrev pub members_behind : (List Lexeme → Option (Read (List MemberDecl))) → Read MemberDecl → List Lexeme →
        Option (Read (List MemberDecl))
    members_behind later x (at (k.Punct p.RightBrace) o ∷ t) = Some (found (x.tree ∷ []) x.height t)
    members_behind later x t = prepended (x.tree ∷ []) x.height (later t)

    unfoldable pub members : ℕ → List Lexeme → Option (Read (List MemberDecl))
    members zero s = None
    members (suc m) s = member_decl s >>= λ x. members_behind (members m) x x.rest

module _ (sub : ℕ → List Lexeme → Option (Read Expr)) (deep : List Lexeme → Option (Read Named)) (one : List Lexeme →
    Option (Read Counted)) where
  abbrev pub bodied : Spec → ℕ → List Lexeme → Option (Read Counted)
  bodied x h t = Some (found (record { spec = x; tally = whole_type }) h t)

  unfoldable pub untagged : Aggregate → Place → List Lexeme → Option (Read Counted)
  untagged a place t = members deep one (length t) t >>= λ xs. bodied (spec.Untagged a xs.tree place) (suc xs.height) xs.rest

  unfoldable pub tagged : Aggregate → Place → Token → List Lexeme → Option (Read Counted)
  tagged a place q t = members deep one (length t) t >>= λ xs. bodied (spec.Tagged a (identifier q) (Some xs.tree) place)
      (suc xs.height) xs.rest

  abbrev pub tagged_behind : Aggregate → Place → Token → List Lexeme → Option (Read Counted)
  tagged_behind a place q (at (k.Punct p.LeftBrace) r ∷ t) = tagged a place q t
  tagged_behind a place q t = counted (spec.Tagged a (identifier q) None place) whole_type t

  abbrev pub aggregate_as : Aggregate → Place → Terminal → Token → List Lexeme → Option (Read Counted)
  aggregate_as a place (k.Punct p.LeftBrace) q t = untagged a place t
  aggregate_as a place b q t = if is_tag b then tagged_behind a place q t else None

  abbrev pub aggregate_spec : Aggregate → Place → List Lexeme → Option (Read Counted)
  aggregate_spec a place [] = None
  aggregate_spec a place (at b q ∷ t) = aggregate_as a place b q t

  unfoldable pub enum_untagged : Place → List Lexeme → Option (Read Counted)
  enum_untagged place t = enumerators sub (length t) t >>= λ xs. bodied (spec.Enum None xs.tree place) (suc xs.height) xs.rest

  unfoldable pub enum_tagged : Place → Token → List Lexeme → Option (Read Counted)
  enum_tagged place q t = enumerators sub (length t) t >>= λ xs. bodied (spec.Enum (Some (identifier q)) xs.tree place)
      (suc xs.height) xs.rest

  abbrev pub enum_behind : Place → Token → List Lexeme → Option (Read Counted)
  enum_behind place q (at (k.Punct p.LeftBrace) r ∷ t) = enum_tagged place q t
  enum_behind place q t = counted (spec.EnumTag (identifier q) place) whole_type t

  abbrev pub enum_as : Place → Terminal → Token → List Lexeme → Option (Read Counted)
  enum_as place (k.Punct p.LeftBrace) q t = enum_untagged place t
  enum_as place b q t = if is_tag b then enum_behind place q t else None

  abbrev pub enum_spec : Place → List Lexeme → Option (Read Counted)
  enum_spec place [] = None
  enum_spec place (at b q ∷ t) = enum_as place b q t

  abbrev pub spec_by : List Lexeme → Option (Read Counted)
  spec_by (at (k.Word w.Struct) o ∷ t) = aggregate_spec aggregate.Struct o.place t
  spec_by (at (k.Word w.Union) o ∷ t) = aggregate_spec aggregate.Union o.place t
  spec_by (at (k.Word w.Enum) o ∷ t) = enum_spec o.place t
  spec_by s = plain_spec s

-- a specifier that may have a body, whose tree is at most so high
unfoldable pub outer_spec : ℕ → List Lexeme → Option (Read Counted)
outer_spec zero s = None
outer_spec (suc n) s = spec_by (expression n) (declarator n) (outer_spec n) s
