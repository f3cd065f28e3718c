-- Expressions, type names, specifiers and declarators: which tokens are one (C11 6.5 and 6.7).
--
-- Each family has two lists of tokens: those of the first before the second are the tree. The number is the tree's
-- height: a node is one higher than its highest part, and a node without parts is 1 high. The nodes are expressions,
-- type names, specifiers, declarators, initialisers, statements and external declarations; what else stands in a tree
-- is a part of the node that holds it. Parentheses make no node, and a node in parentheses is no higher. So a reader
-- that counts heights down has to read parentheses that stand directly in one another by a loop.
use Rattle.std.specs.Prelude.{◌≡◌, ℕ, suc, max, List, [], ◌∷◌, ◌++◌, Option, Some, None, is_some, Bool, true, false, ◌||◌}
use Rattle.fc_base.specs.declared.refusals.Place.{Place}
use Rattle.c_tokens.specs.declared.puncts.Punct.{Punct}
use Rattle.c_tokens.specs.declared.puncts.Punct.TheVariants as p
use Rattle.c_tokens.specs.declared.tokens.Token.{Token}
use Rattle.c_tokens.specs.declared.tokens.TokenKind.{TokenKind}
use Rattle.c_tokens.specs.declared.tokens.TokenKind.TheVariants as kind
use Rattle.c_tree.specs.declared.operators.AssignOp.{AssignOp}
use Rattle.c_tree.specs.declared.operators.AssignOp.TheVariants as assign_op
use Rattle.c_tree.specs.declared.operators.BinaryOp.{BinaryOp}
use Rattle.c_tree.specs.declared.operators.BinaryOp.TheVariants as binary_op
use Rattle.c_tree.specs.declared.operators.PrefixOp.{PrefixOp}
use Rattle.c_tree.specs.declared.operators.PrefixOp.TheVariants as prefix_op
use Rattle.c_tree.specs.declared.operators.PostfixOp.{PostfixOp}
use Rattle.c_tree.specs.declared.operators.PostfixOp.TheVariants as postfix_op
use Rattle.c_tree.specs.declared.nodes.Expr.{Expr}
use Rattle.c_tree.specs.declared.nodes.ExprKind.{ExprKind}
use Rattle.c_tree.specs.declared.nodes.ExprKind.TheVariants as e
use Rattle.c_tree.specs.declared.nodes.TypeName.{TypeName}
use Rattle.c_tree.specs.declared.nodes.Identifier.{Identifier}
use Rattle.c_tree.specs.declared.nodes.BasicWord.{BasicWord}
use Rattle.c_tree.specs.declared.nodes.BasicWord.TheVariants as basic
use Rattle.c_tree.specs.declared.nodes.Aggregate.{Aggregate}
use Rattle.c_tree.specs.declared.nodes.Aggregate.TheVariants as aggregate
use Rattle.c_tree.specs.declared.nodes.Attribute.{Attribute}
use Rattle.c_tree.specs.declared.nodes.Spec.{Spec}
use Rattle.c_tree.specs.declared.nodes.Spec.TheVariants as spec
use Rattle.c_tree.specs.declared.nodes.MemberDecl.{MemberDecl}
use Rattle.c_tree.specs.declared.nodes.Enumerator.{Enumerator, roll-Enumerator}
use Rattle.c_tree.specs.declared.nodes.PointerWord.{PointerWord}
use Rattle.c_tree.specs.declared.nodes.PointerWord.TheVariants as pointer
use Rattle.c_tree.specs.declared.nodes.Declarator.{Declarator}
use Rattle.c_tree.specs.declared.nodes.Declarator.TheVariants as d
use Rattle.c_tree.specs.declared.nodes.Params.{Params}
use Rattle.c_tree.specs.declared.nodes.Params.TheVariants as params
use Rattle.c_tree.specs.declared.nodes.Param.{Param}
use Rattle.parse_meaning.specs.declared.terminals.Brackets.{Brackets}
use Rattle.parse_meaning.specs.declared.terminals.Brackets.TheVariants as brackets
use Rattle.parse_meaning.specs.declared.terminals.Keyword.{Keyword}
use Rattle.parse_meaning.specs.declared.terminals.Keyword.TheVariants as w
use Rattle.parse_meaning.specs.declared.terminals.Terminal.{Terminal}
use Rattle.parse_meaning.specs.declared.terminals.Terminal.TheVariants as k
use Rattle.parse_meaning.specs.Terminals.{Lexeme, at, text_of, is_tag, is_word, place_of}
use Rattle.parse_meaning.specs.Specifiers.{Context, outer, inner, Tally, nothing, whole_type, together, may_stand}

-- ---- Operators and levels

-- The levels of expressions, of which each has what the one before it has (C11 6.5.1 to 6.5.17).
abbrev pub primary : ℕ
primary = 0

abbrev pub postfix : ℕ
postfix = 1

abbrev pub unary : ℕ
unary = 2

abbrev pub cast : ℕ
cast = 3

abbrev pub multiplicative : ℕ
multiplicative = 4

abbrev pub additive : ℕ
additive = 5

abbrev pub shift : ℕ
shift = 6

abbrev pub relational : ℕ
relational = 7

abbrev pub equality : ℕ
equality = 8

abbrev pub bit_and : ℕ
bit_and = 9

abbrev pub bit_xor : ℕ
bit_xor = 10

abbrev pub bit_or : ℕ
bit_or = 11

abbrev pub logical_and : ℕ
logical_and = 12

abbrev pub logical_or : ℕ
logical_or = 13

abbrev pub conditional : ℕ
conditional = 14

abbrev pub assignment : ℕ
assignment = 15

abbrev pub expression : ℕ
expression = 16

-- An operator that groups to the left, and the level of its right operand. What it makes is one level looser, as is
-- its left operand (C11 6.5.5 to 6.5.14).
abbrev pub binary_operator : Punct → Option (BinaryOp × ℕ)
binary_operator p.Star = Some (binary_op.Mul, cast)
binary_operator p.Slash = Some (binary_op.Div, cast)
binary_operator p.Percent = Some (binary_op.Rem, cast)
binary_operator p.Plus = Some (binary_op.Add, multiplicative)
binary_operator p.Minus = Some (binary_op.Sub, multiplicative)
binary_operator p.ShiftLeft = Some (binary_op.ShiftLeft, additive)
binary_operator p.ShiftRight = Some (binary_op.ShiftRight, additive)
binary_operator p.Less = Some (binary_op.Less, shift)
binary_operator p.Greater = Some (binary_op.Greater, shift)
binary_operator p.LessEqual = Some (binary_op.LessEqual, shift)
binary_operator p.GreaterEqual = Some (binary_op.GreaterEqual, shift)
binary_operator p.EqualEqual = Some (binary_op.Equal, relational)
binary_operator p.NotEqual = Some (binary_op.NotEqual, relational)
binary_operator p.Ampersand = Some (binary_op.BitAnd, equality)
binary_operator p.Caret = Some (binary_op.BitXor, bit_and)
binary_operator p.Bar = Some (binary_op.BitOr, bit_xor)
binary_operator p.AndAnd = Some (binary_op.LogicalAnd, bit_or)
binary_operator p.OrOr = Some (binary_op.LogicalOr, logical_and)
binary_operator _ = None

-- C11 6.5.16
abbrev pub assignment_operator : Punct → Option AssignOp
assignment_operator p.Assign = Some assign_op.Plain
assignment_operator p.StarAssign = Some assign_op.Mul
assignment_operator p.SlashAssign = Some assign_op.Div
assignment_operator p.PercentAssign = Some assign_op.Rem
assignment_operator p.PlusAssign = Some assign_op.Add
assignment_operator p.MinusAssign = Some assign_op.Sub
assignment_operator p.ShiftLeftAssign = Some assign_op.ShiftLeft
assignment_operator p.ShiftRightAssign = Some assign_op.ShiftRight
assignment_operator p.AmpersandAssign = Some assign_op.BitAnd
assignment_operator p.CaretAssign = Some assign_op.BitXor
assignment_operator p.BarAssign = Some assign_op.BitOr
assignment_operator _ = None

-- a unary operator, and the level of its operand (C11 6.5.3)
abbrev pub prefix_operator : Punct → Option (PrefixOp × ℕ)
prefix_operator p.PlusPlus = Some (prefix_op.Increment, unary)
prefix_operator p.MinusMinus = Some (prefix_op.Decrement, unary)
prefix_operator p.Ampersand = Some (prefix_op.Address, cast)
prefix_operator p.Star = Some (prefix_op.Indirection, cast)
prefix_operator p.Plus = Some (prefix_op.Plus, cast)
prefix_operator p.Minus = Some (prefix_op.Minus, cast)
prefix_operator p.Tilde = Some (prefix_op.BitNot, cast)
prefix_operator p.Exclamation = Some (prefix_op.Not, cast)
prefix_operator _ = None

-- C11 6.5.2.4
abbrev pub postfix_operator : Punct → Option PostfixOp
postfix_operator p.PlusPlus = Some postfix_op.Increment
postfix_operator p.MinusMinus = Some postfix_op.Decrement
postfix_operator _ = None

-- `.` or `->`, and whether it is the arrow (C11 6.5.2.3)
abbrev pub member_operator : Punct → Option Bool
member_operator p.Dot = Some false
member_operator p.Arrow = Some true
member_operator _ = None

-- a constant, which is one token (C11 6.4.4)
abbrev pub constant_of : TokenKind → Option ExprKind
constant_of (kind.Number value spelled) = Some (e.Number value spelled)
constant_of (kind.CharConst byte) = Some (e.CharConst byte)
constant_of _ = None

abbrev pub expr : ExprKind → Place → Expr
expr x place = record { kind = x; place = place }

-- one string literal or more, and the bytes of all (C11 6.4.5, paragraph 5)
pub data AreStrings : List Lexeme → List ℕ → List Lexeme → Type 0 where
  -- string-literal: " s-char-sequence " (C11 6.4.5)
  one_string : {o : Token} {t : List Lexeme} → AreStrings (at k.Str o ∷ t) (text_of o) t
  -- string-literals that stand next to one another are one (C11 6.4.5p5)
  more_strings : {o : Token} {s t : List Lexeme} {bytes : List ℕ} → AreStrings s bytes t →
      AreStrings (at k.Str o ∷ s) (text_of o ++ bytes) t

-- ---- Attributes (GCC manual, "Attribute Syntax")

abbrev pub opening : Punct → Option Brackets
opening p.LeftParen = Some brackets.Round
opening p.LeftBracket = Some brackets.Square
opening p.LeftBrace = Some brackets.Curly
opening _ = None

abbrev pub closing : Punct → Option Brackets
closing p.RightParen = Some brackets.Round
closing p.RightBracket = Some brackets.Square
closing p.RightBrace = Some brackets.Curly
closing _ = None

abbrev pub is_bracket : Terminal → Bool
is_bracket (k.Punct a) = is_some (opening a) || is_some (closing a)
is_bracket _ = false

-- tokens in which each bracket has its partner of the same kind
pub data AreBalanced : List Lexeme → List Token → List Lexeme → Type 0 where
  -- balanced: nothing
  balanced_end : {t : List Lexeme} → AreBalanced t [] t
  -- balanced: token-that-is-no-bracket balanced
  balanced_token : {c : Terminal} {o : Token} {os : List Token} {s t : List Lexeme} → is_bracket c ≡ false → AreBalanced s os t →
      AreBalanced (at c o ∷ s) (o ∷ os) t
  -- balanced: ( balanced ) balanced, and with [ ] or { } so
  balanced_group : {a b : Punct} {x : Brackets} {o q : Token} {os qs : List Token} {s t u : List Lexeme} → opening a ≡ Some x →
      closing b ≡ Some x → AreBalanced s os (at (k.Punct b) q ∷ t) → AreBalanced t qs u →
      AreBalanced (at (k.Punct a) o ∷ s) (o ∷ os ++ q ∷ qs) u

pub data IsAttribute : List Lexeme → Attribute → List Lexeme → Type 0 where
  -- attribute: any-word
  attribute : {c : Terminal} {o : Token} {t : List Lexeme} → is_word c ≡ true →
      IsAttribute (at c o ∷ t) (record { name = text_of o; args = None }) t
  -- attribute: any-word ( balanced )
  attribute_called : {c : Terminal} {o q r : Token} {os : List Token} {s t : List Lexeme} → is_word c ≡ true →
      AreBalanced s os (at (k.Punct p.RightParen) r ∷ t) →
      IsAttribute (at c o ∷ at (k.Punct p.LeftParen) q ∷ s) (record { name = text_of o; args = Some os }) t

-- one attribute or more, with commas between them, up to and with the two brackets that close their list
pub data AreAttributes : List Lexeme → List Attribute → List Lexeme → Type 0 where
  -- attribute-list: attribute, before ) )
  last_attribute : {o q : Token} {s t : List Lexeme} {x : Attribute} →
      IsAttribute s x (at (k.Punct p.RightParen) o ∷ at (k.Punct p.RightParen) q ∷ t) → AreAttributes s (x ∷ []) t
  -- attribute-list: attribute , attribute-list
  more_attributes : {o : Token} {s t u : List Lexeme} {x : Attribute} {xs : List Attribute} → IsAttribute s x (at (k.Punct p.Comma) o ∷ t) →
      AreAttributes t xs u → AreAttributes s (x ∷ xs) u

pub data IsAttributeList : List Lexeme → List Attribute → List Lexeme → Type 0 where
  -- attribute-specifier: __attribute__ ( ( ) )
  empty_attributes : {o q r a b : Token} {t : List Lexeme} →
      IsAttributeList (at (k.Word w.Attribute) o ∷ at (k.Punct p.LeftParen) q ∷ at (k.Punct p.LeftParen) r ∷ at (k.Punct p.RightParen) a ∷
      at (k.Punct p.RightParen) b ∷ t) [] t
  -- attribute-specifier: __attribute__ ( ( attribute-list ) )
  some_attributes : {o q r : Token} {s t : List Lexeme} {xs : List Attribute} → AreAttributes s xs t →
      IsAttributeList (at (k.Word w.Attribute) o ∷ at (k.Punct p.LeftParen) q ∷ at (k.Punct p.LeftParen) r ∷ s) xs t

-- ---- Pointers (C11 6.7.6)

-- `const` and `restrict` are the qualifiers of pointers here, and a further star begins a pointer again
abbrev pub pointer_word : Terminal → Option PointerWord
pointer_word (k.Punct p.Star) = Some pointer.Star
pointer_word (k.Word w.Const) = Some pointer.Const
pointer_word (k.Word w.Restrict) = Some pointer.Restrict
pointer_word _ = None

-- any number of stars and qualifiers
pub data ArePointerWords : List Lexeme → List PointerWord → List Lexeme → Type 0 where
  no_words : {t : List Lexeme} → ArePointerWords t [] t
  -- pointer: * type-qualifier-list(opt) pointer(opt), behind its first star (C11 6.7.6)
  more_words : {c : Terminal} {o : Token} {x : PointerWord} {xs : List PointerWord} {s t : List Lexeme} → pointer_word c ≡ Some x →
      ArePointerWords s xs t → ArePointerWords (at c o ∷ s) (x ∷ xs) t

-- one star or more, and no qualifier
pub data AreStars : List Lexeme → List PointerWord → List Lexeme → Type 0 where
  -- pointer: *
  one_star : {o : Token} {t : List Lexeme} → AreStars (at (k.Punct p.Star) o ∷ t) (pointer.Star ∷ []) t
  -- pointer: * pointer
  more_stars : {o : Token} {s t : List Lexeme} {xs : List PointerWord} → AreStars s xs t →
      AreStars (at (k.Punct p.Star) o ∷ s) (pointer.Star ∷ xs) t

-- ---- Specifiers that are one token

abbrev pub basic_word : Keyword → Option (BasicWord × Tally)
basic_word w.Void = Some (basic.Void, record nothing { void = 1 })
basic_word w.Char = Some (basic.Char, record nothing { char = 1 })
basic_word w.Short = Some (basic.Short, record nothing { short = 1 })
basic_word w.Int = Some (basic.Int, record nothing { int = 1 })
basic_word w.Long = Some (basic.Long, record nothing { long = 1 })
basic_word w.Signed = Some (basic.Signed, record nothing { signed = 1 })
basic_word w.Unsigned = Some (basic.Unsigned, record nothing { unsigned = 1 })
basic_word _ = None

abbrev pub aggregate_word : Keyword → Option Aggregate
aggregate_word w.Struct = Some aggregate.Struct
aggregate_word w.Union = Some aggregate.Union
aggregate_word _ = None

abbrev pub identifier : Token → Identifier
identifier o = record { name = text_of o; place = o.place }

-- bodies of structures, unions and enumerations stand only in external declarations and their members
abbrev pub has_bodies : Context → Bool
has_bodies outer = true
has_bodies _ = false

-- ---- What a declarator declares

-- what stands next to the name, whatever parentheses are round it: nothing, parameters, or a star or an array's bound
pub data Nearest : Type 0 where
  bare parameters other : Nearest

pub record Declared : Type 0 where
  pub name : List ℕ
  pub nearest : Nearest

-- what stands nearest, where this comes behind what is there
abbrev pub nearer : Nearest → Nearest → Nearest
nearer bare next = next
nearer parameters next = parameters
nearer other next = other

abbrev pub behind : Declared → Nearest → Declared
behind x next = record { name = x.name; nearest = nearer x.nearest next }

-- `void` alone between the brackets of a function declarator (C11 6.7.6.3, paragraph 10)
abbrev pub is_void_alone : List Lexeme → Bool
is_void_alone (at (k.Word w.Void) o ∷ at (k.Punct p.RightParen) q ∷ t) = true
is_void_alone _ = false

-- ---- The productions that lead back to expressions

mutual
  -- An expression of a level. A node has the place of its first token where no operator or word names another.
  pub data IsExpr : ℕ → List Lexeme → Expr → ℕ → List Lexeme → Type 0 where
    -- each level has what the one before it has, as multiplicative-expression: cast-expression
    looser : {l h : ℕ} {s t : List Lexeme} {x : Expr} → IsExpr l s x h t → IsExpr (suc l) s x h t
    -- primary-expression: identifier (C11 6.5.1)
    name : {o : Token} {t : List Lexeme} → IsExpr primary (at k.Name o ∷ t) (expr (e.Name (text_of o)) o.place) 1 t
    -- primary-expression: constant (C11 6.5.1)
    constant : {o : Token} {x : ExprKind} {t : List Lexeme} → constant_of o.kind ≡ Some x →
        IsExpr primary (at k.Constant o ∷ t) (expr x o.place) 1 t
    -- primary-expression: string-literal (C11 6.5.1)
    string : {s t : List Lexeme} {bytes : List ℕ} → AreStrings s bytes t → IsExpr primary s (expr (e.Str bytes) (place_of s)) 1 t
    -- primary-expression: ( expression ) (C11 6.5.1)
    parens : {h : ℕ} {o q : Token} {t u : List Lexeme} {x : Expr} → IsExpr expression t x h (at (k.Punct p.RightParen) q ∷ u) →
        IsExpr primary (at (k.Punct p.LeftParen) o ∷ t) x h u
    -- postfix-expression: postfix-expression [ expression ] (C11 6.5.2.1)
    index : {h j : ℕ} {o q : Token} {s t u : List Lexeme} {x y : Expr} → IsExpr postfix s x h (at (k.Punct p.LeftBracket) o ∷ t) →
        IsExpr expression t y j (at (k.Punct p.RightBracket) q ∷ u) → IsExpr postfix s (expr (e.Index x y) o.place) (suc (max h j)) u
    -- postfix-expression: postfix-expression ( ) (C11 6.5.2.2)
    call_empty : {h : ℕ} {o q : Token} {s t : List Lexeme} {x : Expr} →
        IsExpr postfix s x h (at (k.Punct p.LeftParen) o ∷ at (k.Punct p.RightParen) q ∷ t) →
        IsExpr postfix s (expr (e.Call x []) x.place) (suc h) t
    -- postfix-expression: postfix-expression ( argument-expression-list ) (C11 6.5.2.2)
    call : {h j : ℕ} {o q : Token} {s t u : List Lexeme} {x : Expr} {xs : List Expr} →
        IsExpr postfix s x h (at (k.Punct p.LeftParen) o ∷ t) → AreExprs t xs j (at (k.Punct p.RightParen) q ∷ u) →
        IsExpr postfix s (expr (e.Call x xs) x.place) (suc (max h j)) u
    -- postfix-expression: postfix-expression . identifier, and with -> so (C11 6.5.2.3)
    member : {h : ℕ} {a : Punct} {b : Bool} {c : Terminal} {o q : Token} {s t : List Lexeme} {x : Expr} → member_operator a ≡ Some b →
        is_tag c ≡ true → IsExpr postfix s x h (at (k.Punct a) o ∷ at c q ∷ t) →
        IsExpr postfix s (expr (e.Member x b (text_of q)) q.place) (suc h) t
    -- postfix-expression: postfix-expression ++, and with -- so (C11 6.5.2.4)
    stepped : {h : ℕ} {a : Punct} {b : PostfixOp} {o : Token} {s t : List Lexeme} {x : Expr} → postfix_operator a ≡ Some b →
        IsExpr postfix s x h (at (k.Punct a) o ∷ t) → IsExpr postfix s (expr (e.Postfix b x) (place_of s)) (suc h) t
    -- postfix-expression: __builtin_dynamic_object_size ( assignment-expression , conditional-expression ) (GCC manual)
    size_call : {h j : ℕ} {o q r a : Token} {t u v : List Lexeme} {x y : Expr} → IsExpr assignment t x h (at (k.Punct p.Comma) r ∷ u) →
        IsExpr conditional u y j (at (k.Punct p.RightParen) a ∷ v) →
        IsExpr postfix (at (k.Word w.DynamicObjectSize) o ∷ at (k.Punct p.LeftParen) q ∷ t) (expr (e.SizeCall x y) o.place)
        (suc (max h j)) v
    -- unary-expression: ++ unary-expression, -- unary-expression, unary-operator cast-expression (C11 6.5.3.1 and 6.5.3.3)
    prefixed : {l h : ℕ} {a : Punct} {b : PrefixOp} {o : Token} {t u : List Lexeme} {x : Expr} → prefix_operator a ≡ Some (b, l) →
        IsExpr l t x h u → IsExpr unary (at (k.Punct a) o ∷ t) (expr (e.Prefix b x) o.place) (suc h) u
    -- unary-expression: sizeof unary-expression (C11 6.5.3.4)
    sizeof_expr : {h : ℕ} {o : Token} {t u : List Lexeme} {x : Expr} → IsExpr unary t x h u →
        IsExpr unary (at (k.Word w.Sizeof) o ∷ t) (expr (e.SizeofExpr x) o.place) (suc h) u
    -- unary-expression: sizeof ( type-name ) (C11 6.5.3.4)
    sizeof_type : {h : ℕ} {o q r : Token} {t u : List Lexeme} {n : TypeName} → IsTypeName t n h (at (k.Punct p.RightParen) r ∷ u) →
        IsExpr unary (at (k.Word w.Sizeof) o ∷ at (k.Punct p.LeftParen) q ∷ t) (expr (e.SizeofType n) o.place) (suc h) u
    -- cast-expression: ( type-name ) cast-expression (C11 6.5.4)
    conversion : {h j : ℕ} {o q : Token} {t u v : List Lexeme} {n : TypeName} {x : Expr} →
        IsTypeName t n h (at (k.Punct p.RightParen) q ∷ u) → IsExpr cast u x j v →
        IsExpr cast (at (k.Punct p.LeftParen) o ∷ t) (expr (e.Cast n x) o.place) (suc (max h j)) v
    -- C11 6.5.5 to 6.5.14
    -- multiplicative-expression: multiplicative-expression * cast-expression, and each operator to || so (C11 6.5.5 to 6.5.14)
    operation : {l h j : ℕ} {a : Punct} {b : BinaryOp} {o : Token} {s t u : List Lexeme} {x y : Expr} → binary_operator a ≡ Some (b, l) →
        IsExpr (suc l) s x h (at (k.Punct a) o ∷ t) → IsExpr l t y j u → IsExpr (suc l) s (expr (e.Binary b x y) o.place) (suc (max h j)) u
    -- conditional-expression: logical-OR-expression ? expression : conditional-expression (C11 6.5.15)
    choice : {h j m : ℕ} {o q : Token} {s t u v : List Lexeme} {x y z : Expr} → IsExpr logical_or s x h (at (k.Punct p.Question) o ∷ t) →
        IsExpr expression t y j (at (k.Punct p.Colon) q ∷ u) → IsExpr conditional u z m v →
        IsExpr conditional s (expr (e.Cond x y z) o.place) (suc (max h (max j m))) v
    -- assignment-expression: unary-expression assignment-operator assignment-expression (C11 6.5.16)
    assigned : {h j : ℕ} {a : Punct} {b : AssignOp} {o : Token} {s t u : List Lexeme} {x y : Expr} → assignment_operator a ≡ Some b →
        IsExpr unary s x h (at (k.Punct a) o ∷ t) → IsExpr assignment t y j u →
        IsExpr assignment s (expr (e.Assign b x y) o.place) (suc (max h j)) u
    -- expression: assignment-expression , expression (C11 6.5.17; all that stand next to one another are one node)
    comma : {h j : ℕ} {o : Token} {s t u : List Lexeme} {x : Expr} {xs : List Expr} → IsExpr assignment s x h (at (k.Punct p.Comma) o ∷ t) →
        AreExprs t xs j u → IsExpr expression s (expr (e.Comma (x ∷ xs)) (place_of s)) (suc (max h j)) u

  -- one expression of the level of assignments or more, with commas between them
  pub data AreExprs : List Lexeme → List Expr → ℕ → List Lexeme → Type 0 where
    -- argument-expression-list: assignment-expression (C11 6.5.2)
    one_expr : {h : ℕ} {s t : List Lexeme} {x : Expr} → IsExpr assignment s x h t → AreExprs s (x ∷ []) h t
    -- argument-expression-list: assignment-expression , argument-expression-list (C11 6.5.2)
    more_exprs : {h j : ℕ} {o : Token} {s t u : List Lexeme} {x : Expr} {xs : List Expr} →
        IsExpr assignment s x h (at (k.Punct p.Comma) o ∷ t) → AreExprs t xs j u → AreExprs s (x ∷ xs) (max h j) u

  -- C11 6.7.7
  pub data IsTypeName : List Lexeme → TypeName → ℕ → List Lexeme → Type 0 where
    -- type-name: specifier-qualifier-list abstract-declarator(opt) (C11 6.7.7)
    type_name : {h j : ℕ} {s t u : List Lexeme} {xs : List Spec} {a : Tally} {x : Declarator} → AreSpecs inner s xs a h t →
        IsAbstract (place_of s) t x j u → IsTypeName s (record { specs = xs; declarator = x; place = place_of s }) (suc (max h j)) u

  -- the bound of an array, up to and with the bracket behind it (C11 6.7.6.2)
  pub data IsBound : List Lexeme → Option Expr → ℕ → List Lexeme → Type 0 where
    -- direct-declarator: direct-declarator [ ], from its ] on (C11 6.7.6)
    no_bound : {o : Token} {t : List Lexeme} → IsBound (at (k.Punct p.RightBracket) o ∷ t) None 0 t
    -- direct-declarator: direct-declarator [ constant-expression ], behind its [ (C11 6.7.6)
    bound : {h : ℕ} {o : Token} {s t : List Lexeme} {x : Expr} → IsExpr conditional s x h (at (k.Punct p.RightBracket) o ∷ t) →
        IsBound s (Some x) h t

  -- An abstract declarator (C11 6.7.7), with the place of the first token of its parameter or type name.
  pub data IsAbstract : Place → List Lexeme → Declarator → ℕ → List Lexeme → Type 0 where
    -- abstract-declarator: direct-abstract-declarator, or nothing (C11 6.7.7)
    abstract_plain : {h : ℕ} {place : Place} {s t : List Lexeme} {x : Declarator} → IsAbstractDirect place s x h t →
        IsAbstract place s x h t
    -- abstract-declarator: pointer direct-abstract-declarator(opt) (C11 6.7.7)
    abstract_pointer : {h : ℕ} {place : Place} {o : Token} {s t u : List Lexeme} {ws : List PointerWord} {x : Declarator} →
        ArePointerWords s ws t → IsAbstractDirect place t x h u →
        IsAbstract place (at (k.Punct p.Star) o ∷ s) (d.Pointer (pointer.Star ∷ ws) x o.place) (suc h) u

  pub data IsAbstractDirect : Place → List Lexeme → Declarator → ℕ → List Lexeme → Type 0 where
    -- direct-abstract-declarator: bounds alone (C11 6.7.7)
    abstract_arrays : {h : ℕ} {place : Place} {s t : List Lexeme} {x : Declarator} → AreArrays place s x h t →
        IsAbstractDirect place s x h t
    -- direct-abstract-declarator: ( pointer ) [ constant-expression(opt) ] (C11 6.7.7, as far as this project has it)
    abstract_group : {h : ℕ} {place : Place} {o q r : Token} {s t u : List Lexeme} {ws : List PointerWord} {x : Option Expr} →
        AreStars s ws (at (k.Punct p.RightParen) q ∷ at (k.Punct p.LeftBracket) r ∷ t) → IsBound t x h u →
        IsAbstractDirect place (at (k.Punct p.LeftParen) o ∷ s) (d.Array (d.Pointer ws (d.Omitted place) (place_of s)) x o.place)
        (suc (max 2 h)) u

  -- the name that is left out, and any number of bounds
  pub data AreArrays : Place → List Lexeme → Declarator → ℕ → List Lexeme → Type 0 where
    omitted : {place : Place} {t : List Lexeme} → AreArrays place t (d.Omitted place) 1 t
    -- direct-abstract-declarator: direct-abstract-declarator(opt) [ constant-expression(opt) ] (C11 6.7.7)
    abstract_array : {h j : ℕ} {place : Place} {o : Token} {s t u : List Lexeme} {x : Declarator} {y : Option Expr} →
        AreArrays place s x h (at (k.Punct p.LeftBracket) o ∷ t) → IsBound t y j u →
        AreArrays place s (d.Array x y (place_of s)) (suc (max h j)) u

  -- A specifier, and what it counts as (C11 6.7.1 to 6.7.4).
  pub data IsSpec : Context → List Lexeme → Spec → Tally → ℕ → List Lexeme → Type 0 where
    -- storage-class-specifier: typedef (C11 6.7.1)
    spec_typedef : {c : Context} {o : Token} {t : List Lexeme} →
        IsSpec c (at (k.Word w.Typedef) o ∷ t) (spec.Typedef o.place) (record nothing { typedef = 1 }) 1 t
    -- storage-class-specifier: extern (C11 6.7.1)
    spec_extern : {c : Context} {o : Token} {t : List Lexeme} →
        IsSpec c (at (k.Word w.Extern) o ∷ t) (spec.Extern o.place) (record nothing { extern = 1 }) 1 t
    -- storage-class-specifier: static (C11 6.7.1)
    spec_static : {c : Context} {o : Token} {t : List Lexeme} →
        IsSpec c (at (k.Word w.Static) o ∷ t) (spec.Static o.place) (record nothing { static = 1 }) 1 t
    -- function-specifier: inline (C11 6.7.4)
    spec_inline : {c : Context} {o : Token} {t : List Lexeme} →
        IsSpec c (at (k.Word w.Inline) o ∷ t) (spec.Inline o.place) (record nothing { inline = 1 }) 1 t
    -- type-qualifier: const (C11 6.7.3)
    spec_const : {c : Context} {o : Token} {t : List Lexeme} → IsSpec c (at (k.Word w.Const) o ∷ t) (spec.Const o.place) nothing 1 t
    -- attribute-specifier (GCC manual, "Attribute Syntax")
    spec_attributes : {c : Context} {s t : List Lexeme} {xs : List Attribute} → IsAttributeList s xs t →
        IsSpec c s (spec.Attributes xs (place_of s)) nothing 1 t
    -- type-specifier: void, char, short, int, long, signed, unsigned (C11 6.7.2)
    spec_basic : {c : Context} {word : Keyword} {x : BasicWord} {a : Tally} {o : Token} {t : List Lexeme} → basic_word word ≡ Some (x, a) →
        IsSpec c (at (k.Word word) o ∷ t) (spec.Basic x o.place) a 1 t
    -- type-specifier: typedef-name (C11 6.7.2 and 6.7.8)
    spec_type : {c : Context} {o : Token} {t : List Lexeme} →
        IsSpec c (at k.Type o ∷ t) (spec.TypedefName (text_of o) o.place) whole_type 1 t
    -- struct-or-union-specifier: struct-or-union identifier (C11 6.7.2.1 and 6.7.2.3)
    spec_tag : {c : Context} {word : Keyword} {a : Aggregate} {b : Terminal} {o q : Token} {t : List Lexeme} →
        aggregate_word word ≡ Some a → is_tag b ≡ true →
        IsSpec c (at (k.Word word) o ∷ at b q ∷ t) (spec.Tagged a (identifier q) None o.place) whole_type 1 t
    -- struct-or-union-specifier: struct-or-union identifier { struct-declaration-list } (C11 6.7.2.1)
    spec_body : {c : Context} {h : ℕ} {word : Keyword} {a : Aggregate} {b : Terminal} {o q r : Token} {t u : List Lexeme}
        {xs : List MemberDecl} →
        has_bodies c ≡ true → aggregate_word word ≡ Some a → is_tag b ≡ true → AreMembers t xs h u →
        IsSpec c (at (k.Word word) o ∷ at b q ∷ at (k.Punct p.LeftBrace) r ∷ t) (spec.Tagged a (identifier q)
        (Some xs) o.place) whole_type (suc h) u
    -- struct-or-union-specifier: struct-or-union { struct-declaration-list } (C11 6.7.2.1)
    spec_untagged : {c : Context} {h : ℕ} {word : Keyword} {a : Aggregate} {o r : Token} {t u : List Lexeme} {xs : List MemberDecl} →
        has_bodies c ≡ true → aggregate_word word ≡ Some a → AreMembers t xs h u →
        IsSpec c (at (k.Word word) o ∷ at (k.Punct p.LeftBrace) r ∷ t) (spec.Untagged a xs o.place) whole_type (suc h) u
    -- enum-specifier: enum identifier (C11 6.7.2.2 and 6.7.2.3)
    spec_enum_tag : {c : Context} {b : Terminal} {o q : Token} {t : List Lexeme} → is_tag b ≡ true →
        IsSpec c (at (k.Word w.Enum) o ∷ at b q ∷ t) (spec.EnumTag (identifier q) o.place) whole_type 1 t
    -- enum-specifier: enum identifier { enumerator-list }, and with a comma behind the list (C11 6.7.2.2)
    spec_enum_body : {c : Context} {h : ℕ} {b : Terminal} {o q r : Token} {t u : List Lexeme} {xs : List Enumerator} → has_bodies c ≡ true →
        is_tag b ≡ true → AreEnumerators t xs h u →
        IsSpec c (at (k.Word w.Enum) o ∷ at b q ∷ at (k.Punct p.LeftBrace) r ∷ t)
        (spec.Enum (Some (identifier q)) xs o.place) whole_type (suc h) u
    -- enum-specifier: enum { enumerator-list }, and with a comma behind the list (C11 6.7.2.2)
    spec_enum_untagged : {c : Context} {h : ℕ} {o r : Token} {t u : List Lexeme} {xs : List Enumerator} → has_bodies c ≡ true →
        AreEnumerators t xs h u →
        IsSpec c (at (k.Word w.Enum) o ∷ at (k.Punct p.LeftBrace) r ∷ t) (spec.Enum None xs o.place) whole_type (suc h) u

  -- one specifier or more
  pub data AreSpecsAny : Context → List Lexeme → List Spec → Tally → ℕ → List Lexeme → Type 0 where
    -- declaration-specifiers: one specifier (C11 6.7)
    one_spec : {c : Context} {h : ℕ} {a : Tally} {s t : List Lexeme} {x : Spec} → IsSpec c s x a h t → AreSpecsAny c s (x ∷ []) a h t
    -- declaration-specifiers: one specifier declaration-specifiers (C11 6.7)
    more_specs : {c : Context} {h j : ℕ} {a b : Tally} {s t u : List Lexeme} {x : Spec} {xs : List Spec} → IsSpec c s x a h t →
        AreSpecsAny c t xs b j u → AreSpecsAny c s (x ∷ xs) (together a b) (max h j) u

  -- that may stand together
  pub data AreSpecs : Context → List Lexeme → List Spec → Tally → ℕ → List Lexeme → Type 0 where
    specs : {c : Context} {h : ℕ} {a : Tally} {s t : List Lexeme} {xs : List Spec} → AreSpecsAny c s xs a h t → may_stand c a ≡ true →
        AreSpecs c s xs a h t

  -- one declaration of members or more, up to and with the brace that closes them (C11 6.7.2.1)
  pub data AreMembers : List Lexeme → List MemberDecl → ℕ → List Lexeme → Type 0 where
    -- struct-declaration-list: struct-declaration, before } (C11 6.7.2.1)
    last_member : {h : ℕ} {o : Token} {s t : List Lexeme} {x : MemberDecl} → IsMember s x h (at (k.Punct p.RightBrace) o ∷ t) →
        AreMembers s (x ∷ []) h t
    -- struct-declaration-list: struct-declaration struct-declaration-list (C11 6.7.2.1)
    more_members : {h j : ℕ} {s t u : List Lexeme} {x : MemberDecl} {xs : List MemberDecl} → IsMember s x h t → AreMembers t xs j u →
        AreMembers s (x ∷ xs) (max h j) u

  pub data IsMember : List Lexeme → MemberDecl → ℕ → List Lexeme → Type 0 where
    -- struct-declaration: specifier-qualifier-list struct-declarator-list ; (C11 6.7.2.1)
    member_decl : {h j : ℕ} {s t u : List Lexeme} {xs : List Spec} {a : Tally} {ys : List Declarator} → AreSpecs outer s xs a h t →
        AreDeclarators t ys j u → IsMember s (record { specs = xs; declarators = ys }) (max h j) u

  -- one declarator or more, with commas between them, up to and with the semicolon
  pub data AreDeclarators : List Lexeme → List Declarator → ℕ → List Lexeme → Type 0 where
    -- struct-declarator-list: declarator, before ; (C11 6.7.2.1)
    last_declarator : {h : ℕ} {o : Token} {s t : List Lexeme} {x : Declarator} {n : Declared} →
        IsDeclarator s x n h (at (k.Punct p.Semicolon) o ∷ t) → AreDeclarators s (x ∷ []) h t
    -- struct-declarator-list: declarator , struct-declarator-list (C11 6.7.2.1)
    more_declarators : {h j : ℕ} {o : Token} {s t u : List Lexeme} {x : Declarator} {n : Declared} {xs : List Declarator} →
        IsDeclarator s x n h (at (k.Punct p.Comma) o ∷ t) → AreDeclarators t xs j u → AreDeclarators s (x ∷ xs) (max h j) u

  -- one enumerator or more, with commas between them and perhaps one behind, up to and with the brace (C11 6.7.2.2)
  pub data AreEnumerators : List Lexeme → List Enumerator → ℕ → List Lexeme → Type 0 where
    -- enumerator-list: enumerator, before } (C11 6.7.2.2)
    last_enumerator : {h : ℕ} {o : Token} {s t : List Lexeme} {x : Enumerator} → IsEnumerator s x h (at (k.Punct p.RightBrace) o ∷ t) →
        AreEnumerators s (x ∷ []) h t
    -- enumerator-list: enumerator, before , } (C11 6.7.2.2)
    last_enumerator_comma : {h : ℕ} {o q : Token} {s t : List Lexeme} {x : Enumerator} →
        IsEnumerator s x h (at (k.Punct p.Comma) o ∷ at (k.Punct p.RightBrace) q ∷ t) → AreEnumerators s (x ∷ []) h t
    -- enumerator-list: enumerator , enumerator-list (C11 6.7.2.2)
    more_enumerators : {h j : ℕ} {o : Token} {s t u : List Lexeme} {x : Enumerator} {xs : List Enumerator} →
        IsEnumerator s x h (at (k.Punct p.Comma) o ∷ t) → AreEnumerators t xs j u → AreEnumerators s (x ∷ xs) (max h j) u

  pub data IsEnumerator : List Lexeme → Enumerator → ℕ → List Lexeme → Type 0 where
    -- enumerator: enumeration-constant (C11 6.7.2.2)
    enumerator : {o : Token} {t : List Lexeme} →
        IsEnumerator (at k.Name o ∷ t) (roll-Enumerator (record { name = identifier o; value = None })) 0 t
    -- enumerator: enumeration-constant = constant-expression (C11 6.7.2.2)
    enumerator_valued : {h : ℕ} {o q : Token} {s t : List Lexeme} {x : Expr} → IsExpr conditional s x h t →
        IsEnumerator (at k.Name o ∷ at (k.Punct p.Assign) q ∷ s) (roll-Enumerator (record { name = identifier o; value = Some x })) h t

  -- A declarator, and what it declares (C11 6.7.6).
  pub data IsDeclarator : List Lexeme → Declarator → Declared → ℕ → List Lexeme → Type 0 where
    -- declarator: direct-declarator (C11 6.7.6)
    declarator_plain : {h : ℕ} {s t : List Lexeme} {x : Declarator} {n : Declared} → IsDirect s x n h t → IsDeclarator s x n h t
    -- declarator: pointer direct-declarator (C11 6.7.6)
    declarator_pointer : {h : ℕ} {o : Token} {s t u : List Lexeme} {ws : List PointerWord} {x : Declarator} {n : Declared} →
        ArePointerWords s ws t → IsDirect t x n h u →
        IsDeclarator (at (k.Punct p.Star) o ∷ s) (d.Pointer (pointer.Star ∷ ws) x o.place) (behind n other) (suc h) u

  pub data IsDirect : List Lexeme → Declarator → Declared → ℕ → List Lexeme → Type 0 where
    -- direct-declarator: identifier (C11 6.7.6)
    direct_name : {o : Token} {t : List Lexeme} →
        IsDirect (at k.Name o ∷ t) (d.Name (text_of o) o.place) (record { name = text_of o; nearest = bare }) 1 t
    -- direct-declarator: ( declarator ) (C11 6.7.6)
    direct_parens : {h : ℕ} {o q : Token} {t u : List Lexeme} {x : Declarator} {n : Declared} →
        IsDeclarator t x n h (at (k.Punct p.RightParen) q ∷ u) → IsDirect (at (k.Punct p.LeftParen) o ∷ t) x n h u
    -- direct-declarator: direct-declarator [ constant-expression(opt) ] (C11 6.7.6.2)
    direct_array : {h j : ℕ} {o : Token} {s t u : List Lexeme} {x : Declarator} {n : Declared} {y : Option Expr} →
        IsDirect s x n h (at (k.Punct p.LeftBracket) o ∷ t) → IsBound t y j u →
        IsDirect s (d.Array x y (place_of s)) (behind n other) (suc (max h j)) u
    -- direct-declarator: direct-declarator ( parameter-type-list ), and with () or (void) (C11 6.7.6.3)
    direct_function : {h j : ℕ} {o : Token} {s t u : List Lexeme} {x : Declarator} {n : Declared} {y : Params} →
        IsDirect s x n h (at (k.Punct p.LeftParen) o ∷ t) → AreParams t y j u →
        IsDirect s (d.Function x y (place_of s)) (behind n parameters) (suc (max h j)) u

  -- what stands between the brackets of a function declarator, up to and with the one that closes (C11 6.7.6.3)
  pub data AreParams : List Lexeme → Params → ℕ → List Lexeme → Type 0 where
    -- direct-declarator: direct-declarator ( ), from its ) on (C11 6.7.6.3)
    no_params : {o : Token} {t : List Lexeme} → AreParams (at (k.Punct p.RightParen) o ∷ t) params.Empty 0 t
    -- parameter-type-list: void, alone (C11 6.7.6.3p10)
    void_params : {o q : Token} {t : List Lexeme} → AreParams (at (k.Word w.Void) o ∷ at (k.Punct p.RightParen) q ∷ t) params.Void 0 t
    -- parameter-type-list: parameter-list (C11 6.7.6)
    some_params : {h : ℕ} {s t : List Lexeme} {xs : List Param} → is_void_alone s ≡ false → AreParamsSome s xs h t →
        AreParams s (params.List xs) h t

  pub data AreParamsSome : List Lexeme → List Param → ℕ → List Lexeme → Type 0 where
    -- parameter-list: parameter-declaration, before ) (C11 6.7.6)
    last_param : {h : ℕ} {o : Token} {s t : List Lexeme} {x : Param} → IsParam s x h (at (k.Punct p.RightParen) o ∷ t) →
        AreParamsSome s (x ∷ []) h t
    -- parameter-list: parameter-declaration , parameter-list (C11 6.7.6)
    more_params : {h j : ℕ} {o : Token} {s t u : List Lexeme} {x : Param} {xs : List Param} → IsParam s x h (at (k.Punct p.Comma) o ∷ t) →
        AreParamsSome t xs j u → AreParamsSome s (x ∷ xs) (max h j) u

  pub data IsParam : List Lexeme → Param → ℕ → List Lexeme → Type 0 where
    -- parameter-declaration: declaration-specifiers declarator (C11 6.7.6)
    param_named : {h j : ℕ} {s t u : List Lexeme} {xs : List Spec} {a : Tally} {x : Declarator} {n : Declared} → AreSpecs inner s xs a h t →
        IsDeclarator t x n j u → IsParam s (record { specs = xs; declarator = x }) (max h j) u
    -- parameter-declaration: declaration-specifiers abstract-declarator(opt) (C11 6.7.6)
    param_abstract : {h j : ℕ} {s t u : List Lexeme} {xs : List Spec} {a : Tally} {x : Declarator} → AreSpecs inner s xs a h t →
        IsAbstract (place_of s) t x j u → IsParam s (record { specs = xs; declarator = x }) (max h j) u
