-- How expressions are read: functions that compute what the grammar has, step by step. The contracts of the parsers name
-- them, and proofs/ ties them to the grammar: what they find is in it, and what is in it is found.
use Rattle.std.specs.Prelude.{ℕ, zero, suc, max, List, [], ◌∷◌, ◌++◌, Option, Some, None, Bool, true, false, nat_le, nat_lt, if◌then◌else◌}
use Rattle.std.specs.Prelude.{length}
use Rattle.fc_base.specs.declared.refusals.Place.{Place}
use Rattle.c_tokens.specs.declared.puncts.Punct.{Punct}
use Rattle.c_tokens.specs.declared.puncts.Punct.TheVariants as p
use Rattle.c_tokens.specs.declared.tokens.Token.{Token}
use Rattle.c_tree.specs.declared.operators.PrefixOp.{PrefixOp}
use Rattle.c_tree.specs.declared.operators.AssignOp.{AssignOp}
use Rattle.c_tree.specs.declared.operators.BinaryOp.{BinaryOp}
use Rattle.c_tree.specs.declared.operators.AssignOp.TheVariants as assign_op
use Rattle.c_tree.specs.declared.operators.BinaryOp.TheVariants as binary_op
use Rattle.c_tree.specs.declared.operators.PostfixOp.TheVariants as postfix_op
use Rattle.c_tree.specs.declared.nodes.Expr.{Expr}
use Rattle.c_tree.specs.declared.nodes.ExprKind.{ExprKind}
use Rattle.c_tree.specs.declared.nodes.ExprKind.TheVariants as e
use Rattle.c_tree.specs.declared.nodes.TypeName.{TypeName}
use Rattle.c_tree.specs.declared.nodes.Attribute.{Attribute}
use Rattle.c_tree.specs.declared.nodes.Spec.{Spec}
use Rattle.c_tree.specs.declared.nodes.Spec.TheVariants as spec
use Rattle.c_tree.specs.declared.nodes.PointerWord.{PointerWord}
use Rattle.c_tree.specs.declared.nodes.PointerWord.TheVariants as pointer
use Rattle.c_tree.specs.declared.nodes.Declarator.{Declarator}
use Rattle.c_tree.specs.declared.nodes.Declarator.TheVariants as d
use Rattle.c_tree.specs.declared.nodes.BasicWord.{BasicWord}
use Rattle.c_tree.specs.declared.nodes.Aggregate.TheVariants as aggregate
use Rattle.parse_meaning.specs.declared.terminals.Brackets.{Brackets}
use Rattle.parse_meaning.specs.declared.terminals.Brackets.TheVariants as brackets
use Rattle.parse_meaning.specs.declared.terminals.Keyword.{Keyword}
use Rattle.parse_meaning.specs.declared.terminals.Keyword.TheVariants as w
use Rattle.parse_reading.specs.declared.operators.Operator.{Operator}
use Rattle.parse_reading.specs.declared.operators.Operator.TheVariants as role
use Rattle.parse_meaning.specs.declared.terminals.Terminal.{Terminal}
use Rattle.parse_meaning.specs.declared.terminals.Terminal.TheVariants as k
use Rattle.parse_meaning.specs.Terminals.{Lexeme, at, text_of, is_tag, is_word, place_of}
use Rattle.parse_meaning.specs.Specifiers.{Context, inner, Tally, nothing, whole_type, together, may_stand}
use Rattle.parse_meaning.specs.Expressions.{expr, constant_of, prefix_operator, opening, closing, pointer_word, basic_word, identifier}
use Rattle.parse_meaning.specs.Expressions.{primary, postfix, unary, cast, multiplicative, additive, shift, relational, equality, bit_and}
use Rattle.parse_meaning.specs.Expressions.{bit_xor, bit_or, logical_and, logical_or, conditional, assignment, expression as full}

infixl 10 ◌>>=◌
abbrev pub ◌>>=◌ : {A B : Type 0} → Option A → (A → Option B) → Option B
None >>= f = None
(Some x) >>= f = f x

-- a tree, its height, and the rest
pub record Read (A : Type 0) : Type 0 where
  pub tree : A
  pub height : ℕ
  pub rest : List Lexeme

abbrev pub found : {A : Type 0} → A → ℕ → List Lexeme → Read A
found x h t = record { tree = x; height = h; rest = t }

-- trees, the height of the highest, and then those that a reader finds
abbrev pub prepended : {A : Type 0} → List A → ℕ → Option (Read (List A)) → Option (Read (List A))
prepended xs h r = r >>= λ ys. Some (found (xs ++ ys.tree) (max h ys.height) ys.rest)

-- ---- The rest behind a token of a kind

abbrev pub after_left_paren : List Lexeme → Option (List Lexeme)
after_left_paren (at (k.Punct p.LeftParen) o ∷ t) = Some t
after_left_paren _ = None

abbrev pub after_right_paren : List Lexeme → Option (List Lexeme)
after_right_paren (at (k.Punct p.RightParen) o ∷ t) = Some t
after_right_paren _ = None

abbrev pub after_left_bracket : List Lexeme → Option (List Lexeme)
after_left_bracket (at (k.Punct p.LeftBracket) o ∷ t) = Some t
after_left_bracket _ = None

abbrev pub after_right_bracket : List Lexeme → Option (List Lexeme)
after_right_bracket (at (k.Punct p.RightBracket) o ∷ t) = Some t
after_right_bracket _ = None

abbrev pub after_comma : List Lexeme → Option (List Lexeme)
after_comma (at (k.Punct p.Comma) o ∷ t) = Some t
after_comma _ = None

abbrev pub after_colon : List Lexeme → Option (List Lexeme)
after_colon (at (k.Punct p.Colon) o ∷ t) = Some t
after_colon _ = None

-- ---- How an expression goes on

abbrev pub operator_of_punct : Punct → Operator
operator_of_punct p.LeftParen = role.Call
operator_of_punct p.LeftBracket = role.Index
operator_of_punct p.Dot = role.Member false
operator_of_punct p.Arrow = role.Member true
operator_of_punct p.PlusPlus = role.Step postfix_op.Increment
operator_of_punct p.MinusMinus = role.Step postfix_op.Decrement
operator_of_punct p.Question = role.Choice
operator_of_punct p.Comma = role.List
operator_of_punct p.Assign = role.Assign assign_op.Plain
operator_of_punct p.StarAssign = role.Assign assign_op.Mul
operator_of_punct p.SlashAssign = role.Assign assign_op.Div
operator_of_punct p.PercentAssign = role.Assign assign_op.Rem
operator_of_punct p.PlusAssign = role.Assign assign_op.Add
operator_of_punct p.MinusAssign = role.Assign assign_op.Sub
operator_of_punct p.ShiftLeftAssign = role.Assign assign_op.ShiftLeft
operator_of_punct p.ShiftRightAssign = role.Assign assign_op.ShiftRight
operator_of_punct p.AmpersandAssign = role.Assign assign_op.BitAnd
operator_of_punct p.CaretAssign = role.Assign assign_op.BitXor
operator_of_punct p.BarAssign = role.Assign assign_op.BitOr
operator_of_punct p.Star = role.Join binary_op.Mul cast
operator_of_punct p.Slash = role.Join binary_op.Div cast
operator_of_punct p.Percent = role.Join binary_op.Rem cast
operator_of_punct p.Plus = role.Join binary_op.Add multiplicative
operator_of_punct p.Minus = role.Join binary_op.Sub multiplicative
operator_of_punct p.ShiftLeft = role.Join binary_op.ShiftLeft additive
operator_of_punct p.ShiftRight = role.Join binary_op.ShiftRight additive
operator_of_punct p.Less = role.Join binary_op.Less shift
operator_of_punct p.Greater = role.Join binary_op.Greater shift
operator_of_punct p.LessEqual = role.Join binary_op.LessEqual shift
operator_of_punct p.GreaterEqual = role.Join binary_op.GreaterEqual shift
operator_of_punct p.EqualEqual = role.Join binary_op.Equal relational
operator_of_punct p.NotEqual = role.Join binary_op.NotEqual relational
operator_of_punct p.Ampersand = role.Join binary_op.BitAnd equality
operator_of_punct p.Caret = role.Join binary_op.BitXor bit_and
operator_of_punct p.Bar = role.Join binary_op.BitOr bit_xor
operator_of_punct p.AndAnd = role.Join binary_op.LogicalAnd bit_or
operator_of_punct p.OrOr = role.Join binary_op.LogicalOr logical_and
operator_of_punct _ = role.End

abbrev pub operator_of : Terminal → Operator
operator_of (k.Punct a) = operator_of_punct a
operator_of k.Str = role.Str
operator_of _ = role.End

-- looser than each level of an expression
abbrev pub no_level : ℕ
no_level = suc full

-- the level that an expression has once it has gone on so, and the loosest level that it may have before
abbrev pub operator_binds : Operator → ℕ
operator_binds role.Call = postfix
operator_binds role.Index = postfix
operator_binds (role.Member arrow) = postfix
operator_binds (role.Step b) = postfix
operator_binds role.Choice = conditional
operator_binds (role.Assign b) = assignment
operator_binds (role.Join b l) = suc l
operator_binds role.List = full
operator_binds role.Str = primary
operator_binds role.End = no_level

abbrev pub operator_takes : Operator → ℕ
operator_takes role.Call = postfix
operator_takes role.Index = postfix
operator_takes (role.Member arrow) = postfix
operator_takes (role.Step b) = postfix
operator_takes role.Choice = logical_or
operator_takes (role.Assign b) = unary
operator_takes (role.Join b l) = suc l
operator_takes role.List = assignment
operator_takes role.Str = primary
operator_takes role.End = primary

abbrev pub binds : List Lexeme → ℕ
binds [] = no_level
binds (at c o ∷ t) = operator_binds (operator_of c)

-- ---- Attributes

abbrev pub same_brackets : Brackets → Brackets → Bool
same_brackets brackets.Round brackets.Round = true
same_brackets brackets.Square brackets.Square = true
same_brackets brackets.Curly brackets.Curly = true
same_brackets _ _ = false

-- tokens up to a bracket that closes none of them, where these brackets are open, the inmost first
abbrev pub with_token : Token → Option (List Token × List Lexeme) → Option (List Token × List Lexeme)
with_token o r = r >>= λ r. Some (o ∷ r.0, r.1)

abbrev pub balanced_by : (List Brackets → Option (List Token × List Lexeme)) → List Brackets → Token → List Lexeme → Option Brackets →
    Option Brackets
    → Option (List Token × List Lexeme)
balanced_by later waiting o s (Some b) close = with_token o (later (b ∷ waiting))
balanced_by later waiting o s None None = with_token o (later waiting)
balanced_by later [] o s None (Some b) = Some ([], s)
balanced_by later (a ∷ waiting) o s None (Some b) = if same_brackets a b then with_token o (later waiting) else None

abbrev pub balanced_as : (List Brackets → Option (List Token × List Lexeme)) → List Brackets → Terminal → Token → List Lexeme →
    Option (List Token × List Lexeme)
balanced_as later waiting (k.Punct a) o s = balanced_by later waiting o s (opening a) (closing a)
balanced_as later waiting _ o s = with_token o (later waiting)

unfoldable pub balanced : List Brackets → List Lexeme → Option (List Token × List Lexeme)
balanced waiting [] = None
balanced waiting (at c o ∷ s) = balanced_as (λ waiting. balanced waiting s) waiting c o (at c o ∷ s)

-- an attribute, with the name that has been read
unfoldable pub attribute_called : Token → List Lexeme → Option (Attribute × List Lexeme)
attribute_called o t = do
  r ← balanced [] t
  u ← after_right_paren r.1
  Some (record { name = text_of o; args = Some r.0 }, u)

abbrev pub attribute_behind : Token → List Lexeme → Option (Attribute × List Lexeme)
attribute_behind o (at (k.Punct p.LeftParen) q ∷ t) = attribute_called o t
attribute_behind o t = Some (record { name = text_of o; args = None }, t)

unfoldable pub attribute : List Lexeme → Option (Attribute × List Lexeme)
attribute [] = None
attribute (at c o ∷ t) = if is_word c then attribute_behind o t else None

-- up to and with the two brackets that close a list; the number bounds the turns
abbrev pub attributes_behind : (List Lexeme → Option (List Attribute × List Lexeme)) → Attribute → List Lexeme →
    Option (List Attribute × List Lexeme)
attributes_behind later x (at (k.Punct p.Comma) o ∷ t) = later t >>= λ xs. Some (x ∷ xs.0, xs.1)
attributes_behind later x (at (k.Punct p.RightParen) o ∷ t) = after_right_paren t >>= λ u. Some (x ∷ [], u)
attributes_behind later x _ = None

unfoldable pub attributes : ℕ → List Lexeme → Option (List Attribute × List Lexeme)
attributes zero s = None
attributes (suc m) s = attribute s >>= λ x. attributes_behind (attributes m) x.0 x.1

-- behind the word
abbrev pub attributes_within : List Lexeme → Option (List Attribute × List Lexeme)
attributes_within (at (k.Punct p.RightParen) o ∷ t) = after_right_paren t >>= λ u. Some ([], u)
attributes_within t = attributes (length t) t

unfoldable pub attribute_list : List Lexeme → Option (List Attribute × List Lexeme)
attribute_list s = do
  t ← after_left_paren s
  u ← after_left_paren t
  attributes_within u

-- ---- Specifiers without bodies

-- a specifier and what it counts as; several, and what they count as together
pub record Counted : Type 0 where
  pub spec : Spec
  pub tally : Tally

pub record Specs : Type 0 where
  pub specs : List Spec
  pub tally : Tally

abbrev pub is_spec_word : Keyword → Bool
is_spec_word w.Typedef = true
is_spec_word w.Extern = true
is_spec_word w.Static = true
is_spec_word w.Inline = true
is_spec_word w.Const = true
is_spec_word w.Attribute = true
is_spec_word w.Void = true
is_spec_word w.Char = true
is_spec_word w.Short = true
is_spec_word w.Int = true
is_spec_word w.Long = true
is_spec_word w.Signed = true
is_spec_word w.Unsigned = true
is_spec_word w.Struct = true
is_spec_word w.Union = true
is_spec_word w.Enum = true
is_spec_word _ = false

abbrev pub is_spec : Terminal → Bool
is_spec k.Type = true
is_spec (k.Word word) = is_spec_word word
is_spec _ = false

abbrev pub begins_spec : List Lexeme → Bool
begins_spec [] = false
begins_spec (at c o ∷ t) = is_spec c

abbrev pub counted : Spec → Tally → List Lexeme → Option (Read Counted)
counted x a t = Some (found (record { spec = x; tally = a }) 1 t)

abbrev pub tag_behind : (Token → Spec) → Terminal → Token → List Lexeme → Option (Read Counted)
tag_behind x c q t = if is_tag c then counted (x q) whole_type t else None

abbrev pub tag : (Token → Spec) → List Lexeme → Option (Read Counted)
tag x [] = None
tag x (at c q ∷ t) = tag_behind x c q t

unfoldable pub attribute_spec : Place → List Lexeme → Option (Read Counted)
attribute_spec place t = attribute_list t >>= λ xs. counted (spec.Attributes xs.0 place) nothing xs.1

abbrev pub basic_spec : Option (BasicWord × Tally) → Place → List Lexeme → Option (Read Counted)
basic_spec (Some x) place t = counted (spec.Basic x.0 place) x.1 t
basic_spec None place t = None

abbrev pub word_spec : Keyword → Place → List Lexeme → Option (Read Counted)
word_spec w.Typedef place t = counted (spec.Typedef place) (record nothing { typedef = 1 }) t
word_spec w.Extern place t = counted (spec.Extern place) (record nothing { extern = 1 }) t
word_spec w.Static place t = counted (spec.Static place) (record nothing { static = 1 }) t
word_spec w.Inline place t = counted (spec.Inline place) (record nothing { inline = 1 }) t
word_spec w.Const place t = counted (spec.Const place) nothing t
word_spec w.Attribute place t = attribute_spec place t
word_spec w.Struct place t = tag (λ q. spec.Tagged aggregate.Struct (identifier q) None place) t
word_spec w.Union place t = tag (λ q. spec.Tagged aggregate.Union (identifier q) None place) t
word_spec w.Enum place t = tag (λ q. spec.EnumTag (identifier q) place) t
word_spec word place t = basic_spec (basic_word word) place t

abbrev pub plain_spec : List Lexeme → Option (Read Counted)
plain_spec (at k.Type o ∷ t) = counted (spec.TypedefName (text_of o) o.place) whole_type t
plain_spec (at (k.Word word) o ∷ t) = word_spec word o.place t
plain_spec _ = None

-- several that one function reads; the number bounds the turns
abbrev pub with_spec : Read Counted → Option (Read Specs) → Option (Read Specs)
with_spec x r = r >>= λ xs.
    Some (found (record { specs = x.tree.spec ∷ xs.tree.specs; tally = together x.tree.tally xs.tree.tally })
    (max x.height xs.height) xs.rest)

module _ (one : List Lexeme → Option (Read Counted)) where
  abbrev pub specs_behind : (List Lexeme → Option (Read Specs)) → Read Counted → Bool → Option (Read Specs)
  specs_behind later x true = with_spec x (later x.rest)
  specs_behind later x false = Some (found (record { specs = x.tree.spec ∷ []; tally = x.tree.tally }) x.height x.rest)

  unfoldable pub specs_any : ℕ → List Lexeme → Option (Read Specs)
  specs_any zero s = None
  specs_any (suc m) s = one s >>= λ x. specs_behind (specs_any m) x (begins_spec x.rest)

  unfoldable pub specs_in : Context → List Lexeme → Option (Read Specs)
  specs_in c s = specs_any (length s) s >>= λ xs. if may_stand c xs.tree.tally then Some xs else None

-- ---- Pointers

abbrev pub pointer_words_by : (List PointerWord × List Lexeme) → List Lexeme → Option PointerWord → List PointerWord × List Lexeme
pointer_words_by later s (Some x) = (x ∷ later.0, later.1)
pointer_words_by later s None = ([], s)

unfoldable pub pointer_words : List Lexeme → List PointerWord × List Lexeme
pointer_words [] = ([], [])
pointer_words (at c o ∷ s) = pointer_words_by (pointer_words s) (at c o ∷ s) (pointer_word c)

-- stars alone
unfoldable pub stars : List Lexeme → List PointerWord × List Lexeme
stars (at (k.Punct p.Star) o ∷ s) = (pointer.Star ∷ (stars s).0, (stars s).1)
stars s = ([], s)

-- ---- String literals

-- with the one that has been read
unfoldable pub strings : Token → List Lexeme → List ℕ × List Lexeme
strings o (at k.Str q ∷ s) = (text_of o ++ (strings q s).0, (strings q s).1)
strings o s = (text_of o, s)

-- ---- Abstract declarators and type names, with a reader of expressions

module _ (sub : ℕ → List Lexeme → Option (Read Expr)) where
  unfoldable pub bound_some : List Lexeme → Option (Read (Option Expr))
  bound_some s = do
    x ← sub conditional s
    u ← after_right_bracket x.rest
    Some (found (Some x.tree) x.height u)

  abbrev pub bound : List Lexeme → Option (Read (Option Expr))
  bound (at (k.Punct p.RightBracket) o ∷ t) = Some (found None 0 t)
  bound s = bound_some s

  -- with the most that a tree may be high
  module _ (limit : ℕ) (place : Place) where
    -- the number bounds the turns
    abbrev pub arrays_behind : (Read Declarator → Option (Read Declarator)) → Place → Read Declarator → List Lexeme →
        Option (Read Declarator)
    arrays_behind later start x (at (k.Punct p.LeftBracket) o ∷ t) =
        bound t >>= λ y. if nat_le (suc (max x.height y.height)) limit then later (found (d.Array x.tree y.tree start)
        (suc (max x.height y.height)) y.rest) else None
    arrays_behind later start x _ = Some x

    unfoldable pub arrays : ℕ → Place → Read Declarator → Option (Read Declarator)
    arrays zero start x = arrays_behind (λ x. None) start x x.rest
    arrays (suc m) start x = arrays_behind (arrays m start) start x x.rest

    -- `*` in parentheses, and one bound behind them
    unfoldable pub group_behind : Place → Place → List PointerWord → List Lexeme → Option (Read Declarator)
    group_behind start star ws s = do
      t ← after_right_paren s
      u ← after_left_bracket t
      y ← bound u
      Some (found (d.Array (d.Pointer ws (d.Omitted place) star) y.tree start) (suc (max 2 y.height)) y.rest)

    abbrev pub group_of : Place → Place → List PointerWord × List Lexeme → Option (Read Declarator)
    group_of start star ([], s) = None
    group_of start star (x ∷ ws, s) = group_behind start star (x ∷ ws) s

    abbrev pub abstract_direct : List Lexeme → Option (Read Declarator)
    abstract_direct (at (k.Punct p.LeftParen) o ∷ t) = group_of o.place (place_of t) (stars t)
    abstract_direct s = arrays (length s) (place_of s) (found (d.Omitted place) 1 s)

    unfoldable pub abstract_pointer : Place → List PointerWord → List Lexeme → Option (Read Declarator)
    abstract_pointer star ws s = abstract_direct s >>= λ x. Some (found (d.Pointer (pointer.Star ∷ ws) x.tree star) (suc x.height) x.rest)

    abbrev pub abstract_pointer_of : Place → List PointerWord × List Lexeme → Option (Read Declarator)
    abstract_pointer_of star (ws, s) = abstract_pointer star ws s

    abbrev pub abstract : List Lexeme → Option (Read Declarator)
    abstract (at (k.Punct p.Star) o ∷ t) = abstract_pointer_of o.place (pointer_words t)
    abstract s = abstract_direct s

-- a tree that is not too high
abbrev pub bounded : {A : Type 0} → ℕ → Read A → Option (Read A)
bounded limit x = if nat_le x.height limit then Some x else None

module _ (limit : ℕ) (sub : ℕ → List Lexeme → Option (Read Expr)) where
  unfoldable pub type_name : List Lexeme → Option (Read TypeName)
  type_name s = do
    xs ← specs_in plain_spec inner s
    x ← abstract sub (suc limit) (place_of s) xs.rest
    bounded limit (found (record { specs = xs.tree.specs; declarator = x.tree; place = place_of s }) (suc (max xs.height x.height)) x.rest)

-- ---- Expressions

-- an expression so far, and its level
pub record LeftOperand : Type 0 where
  pub level : ℕ
  pub read : Read Expr

abbrev pub left : ℕ → Expr → ℕ → List Lexeme → LeftOperand
left l x h t = record { level = l; read = found x h t }

-- with a reader of expressions that are at most n high
module _ (n : ℕ) (sub : ℕ → List Lexeme → Option (Read Expr)) where
  -- one expression of the level of assignments or more; the number bounds the turns
  abbrev pub exprs_behind : (List Lexeme → Option (Read (List Expr))) → Read Expr → List Lexeme → Option (Read (List Expr))
  exprs_behind later x (at (k.Punct p.Comma) o ∷ t) = prepended (x.tree ∷ []) x.height (later t)
  exprs_behind later x t = Some (found (x.tree ∷ []) x.height t)

  unfoldable pub exprs : ℕ → List Lexeme → Option (Read (List Expr))
  exprs zero s = None
  exprs (suc m) s = sub assignment s >>= λ x. exprs_behind (exprs m) x x.rest

  -- ---- How an expression goes on behind a token

  unfoldable pub called_some : Read Expr → List Lexeme → Option LeftOperand
  called_some x t = do
    xs ← exprs (length t) t
    u ← after_right_paren xs.rest
    Some (left postfix (expr (e.Call x.tree xs.tree) x.tree.place) (suc (max x.height xs.height)) u)

  abbrev pub called : Read Expr → List Lexeme → Option LeftOperand
  called x (at (k.Punct p.RightParen) o ∷ t) = Some (left postfix (expr (e.Call x.tree []) x.tree.place) (suc x.height) t)
  called x t = called_some x t

  unfoldable pub indexed : Read Expr → Place → List Lexeme → Option LeftOperand
  indexed x place t = do
    y ← sub full t
    u ← after_right_bracket y.rest
    Some (left postfix (expr (e.Index x.tree y.tree) place) (suc (max x.height y.height)) u)

  abbrev pub member_behind : Read Expr → Bool → Terminal → Token → List Lexeme → Option LeftOperand
  member_behind x arrow c q t = if is_tag c then Some (left postfix (expr (e.Member x.tree arrow (text_of q)) q.place)
      (suc x.height) t) else None

  abbrev pub member_of : Read Expr → Bool → List Lexeme → Option LeftOperand
  member_of x arrow [] = None
  member_of x arrow (at c q ∷ t) = member_behind x arrow c q t

  unfoldable pub chosen : Read Expr → Place → List Lexeme → Option LeftOperand
  chosen x place t = do
    y ← sub full t
    u ← after_colon y.rest
    z ← sub conditional u
    Some (left conditional (expr (e.Cond x.tree y.tree z.tree) place) (suc (max x.height (max y.height z.height))) z.rest)

  unfoldable pub assigned_to : Read Expr → AssignOp → Place → List Lexeme → Option LeftOperand
  assigned_to x b place t = sub assignment t >>= λ y. Some (left assignment (expr (e.Assign b x.tree y.tree) place)
      (suc (max x.height y.height)) y.rest)

  unfoldable pub joined : Read Expr → BinaryOp → ℕ → Place → List Lexeme → Option LeftOperand
  joined x b l place t = sub l t >>= λ y. Some (left (suc l) (expr (e.Binary b x.tree y.tree) place) (suc (max x.height y.height)) y.rest)

  unfoldable pub listed : Read Expr → Place → List Lexeme → Option LeftOperand
  listed x start t = exprs (length t) t >>= λ xs. Some (left full (expr (e.Comma (x.tree ∷ xs.tree)) start)
      (suc (max x.height xs.height)) xs.rest)

  -- with the place where the expression starts, and the token's
  abbrev pub next_by : Place → Read Expr → Operator → Place → List Lexeme → Option LeftOperand
  next_by start x role.Call place t = called x t
  next_by start x role.Index place t = indexed x place t
  next_by start x (role.Member arrow) place t = member_of x arrow t
  next_by start x (role.Step b) place t = Some (left postfix (expr (e.Postfix b x.tree) start) (suc x.height) t)
  next_by start x role.Choice place t = chosen x place t
  next_by start x (role.Assign b) place t = assigned_to x b place t
  next_by start x (role.Join b l) place t = joined x b l place t
  next_by start x role.List place t = listed x start t
  next_by start x role.Str place t = None
  next_by start x role.End place t = None

  unfoldable pub next_from : Place → LeftOperand → Terminal → Place → List Lexeme → Option LeftOperand
  next_from start l c place t = if nat_le l.level (operator_takes (operator_of c)) then next_by start l.read (operator_of c) place t else None

  abbrev pub next_in : Place → LeftOperand → List Lexeme → Option LeftOperand
  next_in start l [] = None
  next_in start l (at c o ∷ t) = next_from start l c o.place t

  -- the number bounds the turns
  unfoldable pub climb : ℕ → ℕ → Place → LeftOperand → Option (Read Expr)
  climb zero to start l = if nat_lt to (binds l.read.rest) then Some l.read else None
  climb (suc m) to start l = if nat_lt to (binds l.read.rest) then Some l.read
      else (next_in start l l.read.rest >>= λ x. if nat_le x.read.height (suc n) then climb m to start x else None)

  -- ---- What an expression begins with

  unfoldable pub converted : Place → List Lexeme → Option LeftOperand
  converted place t = do
    m ← type_name n sub t
    u ← after_right_paren m.rest
    x ← sub cast u
    Some (left cast (expr (e.Cast m.tree x.tree) place) (suc (max m.height x.height)) x.rest)

  unfoldable pub sized_type : Place → List Lexeme → Option LeftOperand
  sized_type place t = do
    m ← type_name n sub t
    u ← after_right_paren m.rest
    Some (left unary (expr (e.SizeofType m.tree) place) (suc m.height) u)

  unfoldable pub sized_expr : Place → List Lexeme → Option LeftOperand
  sized_expr place t = sub unary t >>= λ x. Some (left unary (expr (e.SizeofExpr x.tree) place) (suc x.height) x.rest)

  abbrev pub sized : Place → List Lexeme → Option LeftOperand
  sized place (at (k.Punct p.LeftParen) q ∷
      t) = if begins_spec t then sized_type place t else sized_expr place (at (k.Punct p.LeftParen) q ∷ t)
  sized place t = sized_expr place t

  unfoldable pub size_called : Place → List Lexeme → Option LeftOperand
  size_called place s = do
    t ← after_left_paren s
    x ← sub assignment t
    u ← after_comma x.rest
    y ← sub conditional u
    v ← after_right_paren y.rest
    Some (left postfix (expr (e.SizeCall x.tree y.tree) place) (suc (max x.height y.height)) v)

  unfoldable pub prefixed_by : PrefixOp → ℕ → Place → List Lexeme → Option LeftOperand
  prefixed_by b l place t = sub l t >>= λ x. Some (left unary (expr (e.Prefix b x.tree) place) (suc x.height) x.rest)

  abbrev pub prefixed_of : Option (PrefixOp × ℕ) → Place → List Lexeme → Option LeftOperand
  prefixed_of None place t = None
  prefixed_of (Some o) place t = prefixed_by o.0 o.1 place t

  abbrev pub constant_read : Option ExprKind → Place → List Lexeme → Option LeftOperand
  constant_read None place t = None
  constant_read (Some x) place t = Some (left primary (expr x place) 1 t)

  -- an expression of a level, which begins so
  unfoldable pub begun : ℕ → Place → Option LeftOperand → Option (Read Expr)
  begun to start first = first >>= λ l. if nat_le l.level to then climb (suc n) to start l else None

  -- behind a parenthesis: an expression that begins so, and the parenthesis that closes
  unfoldable pub parenthesised : Option LeftOperand → Place → Option LeftOperand
  parenthesised first start = do
    x ← begun full start first
    u ← after_right_paren x.rest
    Some (left primary x.tree x.height u)

  abbrev pub opened : Option LeftOperand → Bool → Place → List Lexeme → Option LeftOperand
  opened first true place t = converted place t
  opened first false place t = parenthesised first (place_of t)

  unfoldable pub prefix : List Lexeme → Option LeftOperand
  prefix [] = None
  prefix (at k.Name o ∷ t) = Some (left primary (expr (e.Name (text_of o)) o.place) 1 t)
  prefix (at k.Constant o ∷ t) = constant_read (constant_of o.kind) o.place t
  prefix (at k.Str o ∷ t) = Some (left primary (expr (e.Str (strings o t).0) o.place) 1 (strings o t).1)
  prefix (at (k.Word w.Sizeof) o ∷ t) = sized o.place t
  prefix (at (k.Word w.DynamicObjectSize) o ∷ t) = size_called o.place t
  prefix (at (k.Punct p.LeftParen) o ∷ t) = opened (prefix t) (begins_spec t) o.place t
  prefix (at (k.Punct a) o ∷ t) = prefixed_of (prefix_operator a) o.place t
  prefix _ = None

  abbrev pub level_up_to : ℕ → List Lexeme → Option (Read Expr)
  level_up_to to s = begun to (place_of s) (prefix s)

-- an expression of a level, whose tree is no higher than the first number
unfoldable pub expression : ℕ → ℕ → List Lexeme → Option (Read Expr)
expression zero to s = None
expression (suc n) to s = level_up_to n (expression n) to s
