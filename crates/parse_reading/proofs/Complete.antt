-- What is in the grammar is read: abstract declarators, type names and expressions.
use Rattle.std.proofs.Common.{◌≡◌, ℕ, zero, suc, ◌+◌, ◌<◌, ◌≤◌, List, [], ◌∷◌, Option, Some, Bool, true, false, refl, subst, arith, length}
use Rattle.std.specs.Prelude.{is_some}
use Rattle.c_tokens.specs.declared.puncts.Punct.{Punct}
use Rattle.c_tokens.specs.declared.puncts.Punct.TheVariants as p
use Rattle.c_tokens.specs.declared.tokens.Token.{Token}
use Rattle.c_tree.specs.declared.operators.PrefixOp.{PrefixOp}
use Rattle.c_tree.specs.declared.operators.PostfixOp.{PostfixOp}
use Rattle.c_tree.specs.declared.operators.AssignOp.{AssignOp}
use Rattle.c_tree.specs.declared.operators.BinaryOp.{BinaryOp}
use Rattle.c_tree.specs.declared.nodes.Expr.{Expr}
use Rattle.parse_meaning.specs.declared.terminals.Keyword.{Keyword}
use Rattle.parse_meaning.specs.declared.terminals.Keyword.TheVariants as w
use Rattle.parse_reading.specs.declared.operators.Operator.TheVariants as role
use Rattle.parse_meaning.specs.declared.terminals.Terminal.{Terminal}
use Rattle.parse_meaning.specs.declared.terminals.Terminal.TheVariants as k
use Rattle.parse_meaning.specs.Terminals.{Lexeme, at}
use Rattle.parse_meaning.specs.Expressions as g
use Rattle.parse_meaning.specs.Expressions.{IsExpr, AreStrings, AreSpecs, pointer_word, AreExprs, IsTypeName, IsBound, IsAbstract, IsAbstractDirect, AreArrays, ArePointerWords, AreStars, binary_operator, assignment_operator, prefix_operator, postfix_operator, member_operator, constant_of, expr}
use Rattle.parse_reading.specs.Reading.{is_spec_word, Read, found, operator_of_punct, binds, begins_spec, prefixed_by, prefix}
use Rattle.c_tree.specs.declared.operators.PrefixOp.TheVariants as prefix_op
use Rattle.parse_meaning.proofs.Alone.{alike_shorter, expr_moves}

-- ---- Levels

-- the level of the operand that an expression of the level ends with, if it ends with one; a list goes on itself
abbrev pub last : ℕ → ℕ
last zero = 0
last (suc zero) = 0
last (suc (suc zero)) = 3
last (suc (suc (suc zero))) = 3
last (suc (suc (suc (suc zero)))) = 3
last (suc (suc (suc (suc (suc zero))))) = 4
last (suc (suc (suc (suc (suc (suc zero)))))) = 5
last (suc (suc (suc (suc (suc (suc (suc zero))))))) = 6
last (suc (suc (suc (suc (suc (suc (suc (suc zero)))))))) = 7
last (suc (suc (suc (suc (suc (suc (suc (suc (suc zero))))))))) = 8
last (suc (suc (suc (suc (suc (suc (suc (suc (suc (suc zero)))))))))) = 9
last (suc (suc (suc (suc (suc (suc (suc (suc (suc (suc (suc zero))))))))))) = 10
last (suc (suc (suc (suc (suc (suc (suc (suc (suc (suc (suc (suc zero)))))))))))) = 11
last (suc (suc (suc (suc (suc (suc (suc (suc (suc (suc (suc (suc (suc zero))))))))))))) = 12
last (suc (suc (suc (suc (suc (suc (suc (suc (suc (suc (suc (suc (suc (suc l)))))))))))))) = 14 + l

pub last-suc : (l : ℕ) → last l ≤ last (suc l)
last-suc zero = omega arith
last-suc (suc zero) = omega arith
last-suc (suc (suc zero)) = omega arith
last-suc (suc (suc (suc zero))) = omega arith
last-suc (suc (suc (suc (suc zero)))) = omega arith
last-suc (suc (suc (suc (suc (suc zero))))) = omega arith
last-suc (suc (suc (suc (suc (suc (suc zero)))))) = omega arith
last-suc (suc (suc (suc (suc (suc (suc (suc zero))))))) = omega arith
last-suc (suc (suc (suc (suc (suc (suc (suc (suc zero)))))))) = omega arith
last-suc (suc (suc (suc (suc (suc (suc (suc (suc (suc zero))))))))) = omega arith
last-suc (suc (suc (suc (suc (suc (suc (suc (suc (suc (suc zero)))))))))) = omega arith
last-suc (suc (suc (suc (suc (suc (suc (suc (suc (suc (suc (suc zero))))))))))) = omega arith
last-suc (suc (suc (suc (suc (suc (suc (suc (suc (suc (suc (suc (suc zero)))))))))))) = omega arith
last-suc (suc (suc (suc (suc (suc (suc (suc (suc (suc (suc (suc (suc (suc zero))))))))))))) = omega arith
last-suc (suc (suc (suc (suc (suc (suc (suc (suc (suc (suc (suc (suc (suc (suc l)))))))))))))) = omega arith

-- what holds of the token of an operator
pub record IsInfix (a : Punct) (b : BinaryOp) (l : ℕ) : Type 0 where
  pub is : operator_of_punct a ≡ role.Join b l
  pub last_is : last (suc l) ≡ l
  pub low : l ≤ 12

found_at : (a : Punct) (b c : BinaryOp) (l m : ℕ) → IsInfix a b l → ◌≡◌ {A = Option (BinaryOp × ℕ)} (Some (b, l)) (Some (c, m))
    → IsInfix a c m
found_at a b c l m h e = let both : ◌≡◌ {A = BinaryOp × ℕ} (b, l) (c, m) = cc in subst (λ p. IsInfix a p.0 p.1) both h

pub infix_of : (a : Punct) (b : BinaryOp) (l : ℕ) → binary_operator a ≡ Some (b, l) → IsInfix a b l
infix_of p.Star b l e = found_at _ _ _ _ _ (record { is = refl; last_is = refl; low = omega arith }) e
infix_of p.Slash b l e = found_at _ _ _ _ _ (record { is = refl; last_is = refl; low = omega arith }) e
infix_of p.Percent b l e = found_at _ _ _ _ _ (record { is = refl; last_is = refl; low = omega arith }) e
infix_of p.Plus b l e = found_at _ _ _ _ _ (record { is = refl; last_is = refl; low = omega arith }) e
infix_of p.Minus b l e = found_at _ _ _ _ _ (record { is = refl; last_is = refl; low = omega arith }) e
infix_of p.ShiftLeft b l e = found_at _ _ _ _ _ (record { is = refl; last_is = refl; low = omega arith }) e
infix_of p.ShiftRight b l e = found_at _ _ _ _ _ (record { is = refl; last_is = refl; low = omega arith }) e
infix_of p.Less b l e = found_at _ _ _ _ _ (record { is = refl; last_is = refl; low = omega arith }) e
infix_of p.Greater b l e = found_at _ _ _ _ _ (record { is = refl; last_is = refl; low = omega arith }) e
infix_of p.LessEqual b l e = found_at _ _ _ _ _ (record { is = refl; last_is = refl; low = omega arith }) e
infix_of p.GreaterEqual b l e = found_at _ _ _ _ _ (record { is = refl; last_is = refl; low = omega arith }) e
infix_of p.EqualEqual b l e = found_at _ _ _ _ _ (record { is = refl; last_is = refl; low = omega arith }) e
infix_of p.NotEqual b l e = found_at _ _ _ _ _ (record { is = refl; last_is = refl; low = omega arith }) e
infix_of p.Ampersand b l e = found_at _ _ _ _ _ (record { is = refl; last_is = refl; low = omega arith }) e
infix_of p.Caret b l e = found_at _ _ _ _ _ (record { is = refl; last_is = refl; low = omega arith }) e
infix_of p.Bar b l e = found_at _ _ _ _ _ (record { is = refl; last_is = refl; low = omega arith }) e
infix_of p.AndAnd b l e = found_at _ _ _ _ _ (record { is = refl; last_is = refl; low = omega arith }) e
infix_of p.OrOr b l e = found_at _ _ _ _ _ (record { is = refl; last_is = refl; low = omega arith }) e
infix_of _ b l e = cc

pub assigns : (a : Punct) (b : AssignOp) → assignment_operator a ≡ Some b → operator_of_punct a ≡ role.Assign b
assigns p.Assign b e = cc
assigns p.StarAssign b e = cc
assigns p.SlashAssign b e = cc
assigns p.PercentAssign b e = cc
assigns p.PlusAssign b e = cc
assigns p.MinusAssign b e = cc
assigns p.ShiftLeftAssign b e = cc
assigns p.ShiftRightAssign b e = cc
assigns p.AmpersandAssign b e = cc
assigns p.CaretAssign b e = cc
assigns p.BarAssign b e = cc
assigns _ b e = cc

pub steps : (a : Punct) (b : PostfixOp) → postfix_operator a ≡ Some b → operator_of_punct a ≡ role.Step b
steps p.PlusPlus b e = cc
steps p.MinusMinus b e = cc
steps _ b e = cc

pub members : (a : Punct) (b : Bool) → member_operator a ≡ Some b → operator_of_punct a ≡ role.Member b
members p.Dot b e = cc
members p.Arrow b e = cc
members _ b e = cc

-- what holds of an operator before its operand
pub record IsPrefix (a : Punct) (b : PrefixOp) (l : ℕ) : Type 0 where
  pub no_paren : (n : ℕ) (sub : ℕ → List Lexeme → Option (Read Expr)) (o : Token) (t : List Lexeme)
      → prefix n sub (at (k.Punct a) o ∷ t) ≡ prefixed_by n sub b l o.place t
  pub last_is : last l ≡ 3
  pub low : l ≤ 3

prefix_found : (a : Punct) (b c : PrefixOp) (l m : ℕ) → IsPrefix a b l → ◌≡◌ {A = Option (PrefixOp × ℕ)} (Some (b, l)) (Some (c, m))
    → IsPrefix a c m
prefix_found a b c l m h e = let both : ◌≡◌ {A = PrefixOp × ℕ} (b, l) (c, m) = cc in subst (λ p. IsPrefix a p.0 p.1) both h

pub prefix_of : (a : Punct) (b : PrefixOp) (l : ℕ) → prefix_operator a ≡ Some (b, l) → IsPrefix a b l
unfolding prefix prefixed_by
prefix_of p.PlusPlus b l e =
    prefix_found p.PlusPlus prefix_op.Increment b 2 l (record { no_paren = λ n sub o t. refl; last_is = refl; low = omega arith }) e
prefix_of p.MinusMinus b l e =
    prefix_found p.MinusMinus prefix_op.Decrement b 2 l (record { no_paren = λ n sub o t. refl; last_is = refl; low = omega arith }) e
prefix_of p.Ampersand b l e =
    prefix_found p.Ampersand prefix_op.Address b 3 l (record { no_paren = λ n sub o t. refl; last_is = refl; low = omega arith }) e
prefix_of p.Star b l e =
    prefix_found p.Star prefix_op.Indirection b 3 l (record { no_paren = λ n sub o t. refl; last_is = refl; low = omega arith }) e
prefix_of p.Plus b l e =
    prefix_found p.Plus prefix_op.Plus b 3 l (record { no_paren = λ n sub o t. refl; last_is = refl; low = omega arith }) e
prefix_of p.Minus b l e =
    prefix_found p.Minus prefix_op.Minus b 3 l (record { no_paren = λ n sub o t. refl; last_is = refl; low = omega arith }) e
prefix_of p.Tilde b l e =
    prefix_found p.Tilde prefix_op.BitNot b 3 l (record { no_paren = λ n sub o t. refl; last_is = refl; low = omega arith }) e
prefix_of p.Exclamation b l e =
    prefix_found p.Exclamation prefix_op.Not b 3 l (record { no_paren = λ n sub o t. refl; last_is = refl; low = omega arith }) e
prefix_of _ b l e = cc

-- ---- What an expression begins with

abbrev pub starts : Terminal → Bool
starts k.Name = true
starts k.Constant = true
starts k.Str = true
starts (k.Word w.Sizeof) = true
starts (k.Word w.DynamicObjectSize) = true
starts (k.Punct p.LeftParen) = true
starts (k.Punct a) = is_some (prefix_operator a)
starts _ = false

abbrev pub begins_expr : List Lexeme → Bool
begins_expr [] = false
begins_expr (at c o ∷ t) = starts c

prefix_starts : (a : Punct) (x : PrefixOp × ℕ) → prefix_operator a ≡ Some x → starts (k.Punct a) ≡ true
prefix_starts p.LeftParen x e = cc
prefix_starts a x e = go a x e
  where
    go : (a : Punct) (x : PrefixOp × ℕ) → prefix_operator a ≡ Some x → is_some (prefix_operator a) ≡ true
    go a x e = rw e refl

strings_begin : {s t : List Lexeme} {bytes : List ℕ} → AreStrings s bytes t → begins_expr s ≡ true
strings_begin g.one_string = refl
strings_begin (g.more_strings d) = refl

pub expr_begins : {l h : ℕ} {s t : List Lexeme} {x : Expr} → IsExpr l s x h t → begins_expr s ≡ true
expr_begins (g.looser d) = expr_begins d
expr_begins g.name = refl
expr_begins (g.constant e) = refl
expr_begins (g.string d) = strings_begin d
expr_begins (g.parens d) = refl
expr_begins (g.index d f) = expr_begins d
expr_begins (g.call_empty d) = expr_begins d
expr_begins (g.call d f) = expr_begins d
expr_begins (g.member e tag d) = expr_begins d
expr_begins (g.stepped e d) = expr_begins d
expr_begins (g.size_call d f) = refl
expr_begins (g.prefixed {a = a} e d) = prefix_starts a _ e
expr_begins (g.sizeof_expr d) = refl
expr_begins (g.sizeof_type d) = refl
expr_begins (g.conversion d f) = refl
expr_begins (g.operation e d f) = expr_begins d
expr_begins (g.choice d f i) = expr_begins d
expr_begins (g.assigned e d f) = expr_begins d
expr_begins (g.comma d f) = expr_begins d

pub no_spec : (s : List Lexeme) → begins_expr s ≡ true → begins_spec s ≡ false
no_spec [] e = refl
no_spec (at k.Type o ∷ t) e = cc
no_spec (at (k.Word word) o ∷ t) e = go word e
  where
    go : (word : Keyword) → starts (k.Word word) ≡ true → is_spec_word word ≡ false
    go w.Sizeof e = refl
    go w.DynamicObjectSize e = refl
    go _ e = cc
no_spec (at _ o ∷ t) e = refl

pub expr_shorter : {l h : ℕ} {s t : List Lexeme} {x : Expr} → IsExpr l s x h t → length t < length s
expr_shorter d = alike_shorter (expr_moves d []).1

pub expr_higher : {l h : ℕ} {s t : List Lexeme} {x : Expr} → IsExpr l s x h t → 1 ≤ h
expr_higher (g.looser d) = expr_higher d
expr_higher (g.parens d) = expr_higher d
expr_higher _ = omega arith

-- an expression of the level ends before these tokens
pub record Ends (to : ℕ) (t : List Lexeme) : Type 0 where
  pub stops : to < binds t
  pub last : last to < binds t

-- everything up to a height is read
abbrev pub ReadsAll : ℕ → (ℕ → List Lexeme → Option (Read Expr)) → Type 0
ReadsAll n sub = (to h : ℕ) (s t : List Lexeme) (x : Expr) → IsExpr to s x h t → h ≤ n → Ends to t → sub to s ≡ Some (found x h t)
