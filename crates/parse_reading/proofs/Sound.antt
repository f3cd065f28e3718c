-- What is read is in the grammar: abstract declarators, type names and expressions.
use Rattle.std.proofs.Common.{◌≡◌, ℕ, zero, suc, ◌≤◌, max, List, [], ◌∷◌, Option, Some, None, Bool, true, false, refl, sym, subst, ⊎_elim, arith, length}
use Rattle.std.specs.Prelude.{IfSome, nat_le, nat_lt}
use Rattle.std.proofs.lemmas.Bool.{leb-true, ltb-false}
use Rattle.std.proofs.Math.Nat.{le-suc_iff}
use Rattle.fc_base.specs.declared.refusals.Place.{Place}
use Rattle.c_tokens.specs.declared.puncts.Punct.{Punct}
use Rattle.c_tokens.specs.declared.puncts.Punct.TheVariants as p
use Rattle.c_tokens.specs.declared.tokens.Token.{Token}
use Rattle.c_tree.specs.declared.operators.PrefixOp.{PrefixOp}
use Rattle.c_tree.specs.declared.operators.PostfixOp.{PostfixOp}
use Rattle.c_tree.specs.declared.operators.AssignOp.{AssignOp}
use Rattle.c_tree.specs.declared.operators.BinaryOp.{BinaryOp}
use Rattle.c_tree.specs.declared.nodes.Expr.{Expr}
use Rattle.c_tree.specs.declared.nodes.ExprKind.{ExprKind}
use Rattle.c_tree.specs.declared.nodes.ExprKind.TheVariants as e
use Rattle.c_tree.specs.declared.nodes.PointerWord.{PointerWord}
use Rattle.c_tree.specs.declared.nodes.Declarator.{Declarator}
use Rattle.c_tree.specs.declared.nodes.Declarator.TheVariants as d
use Rattle.parse_meaning.specs.declared.terminals.Keyword.TheVariants as w
use Rattle.parse_reading.specs.declared.operators.Operator.{Operator}
use Rattle.parse_reading.specs.declared.operators.Operator.TheVariants as role
use Rattle.parse_meaning.specs.declared.terminals.Terminal.{Terminal}
use Rattle.parse_meaning.specs.declared.terminals.Terminal.TheVariants as k
use Rattle.parse_meaning.specs.Terminals.{Lexeme, at, is_tag, place_of}
use Rattle.parse_meaning.specs.Specifiers.{inner}
use Rattle.parse_meaning.specs.Expressions as g
use Rattle.parse_meaning.specs.Expressions.{IsExpr, AreExprs, IsTypeName, IsBound, IsAbstract, IsAbstractDirect, AreArrays, ArePointerWords, AreStars, binary_operator, assignment_operator, prefix_operator, postfix_operator, member_operator, constant_of, expr}
use Rattle.parse_reading.specs.Reading.{Read, LeftOperand, found, after_left_paren, after_right_paren, after_left_bracket, after_right_bracket, after_comma, after_colon, operator_of_punct, operator_of, operator_binds, operator_takes, binds, begins_spec, plain_spec, specs_in, pointer_words, stars, bound_some, bound, arrays_behind, arrays, group_behind, group_of, abstract_direct, abstract_pointer, abstract_pointer_of, abstract, type_name, exprs_behind, exprs, called_some, called, indexed, member_of, chosen, assigned_to, joined, listed, next_by, next_from, next_in, climb, converted, sized_type, sized_expr, sized, size_called, prefixed_by, prefixed_of, constant_read, begun, parenthesised, opened, prefix, level_up_to, expression}
use Rattle.parse_reading.proofs.Basics.{bind_all, if_all, weaken, Found, FoundLow, after_left_paren_sound, after_right_paren_sound, after_left_bracket_sound, after_right_bracket_sound, after_comma_sound, after_colon_sound}
use Rattle.parse_reading.proofs.SoundParts.{MaybeStars, some_stars, stars_sound, pointer_words_sound, strings_sound, plain_sound_in, specs_in_sound}

pub lift : {l h : ℕ} {s t : List Lexeme} {x : Expr} (to : ℕ) → l ≤ to → IsExpr l s x h t → IsExpr to s x h t
lift {l} {h} {s} {t} {x} zero low d = let same : l ≡ zero = omega arith in subst (λ m. IsExpr m s x h t) same d
lift {l} {h} {s} {t} {x} (suc to) low d =
    ⊎_elim (λ less. g.looser (lift to less d)) (λ (same : l ≡ suc to). subst (λ m. IsExpr m s x h t) same d) (le-suc_iff.0 low)

-- what the tables of operators say of a role
member_role : (a : Punct) (b : Bool) → operator_of_punct a ≡ role.Member b → member_operator a ≡ Some b
member_role p.Dot b e = cc
member_role p.Arrow b e = cc
member_role _ b e = cc

step_role : (a : Punct) (b : PostfixOp) → operator_of_punct a ≡ role.Step b → postfix_operator a ≡ Some b
step_role p.PlusPlus b e = cc
step_role p.MinusMinus b e = cc
step_role _ b e = cc

assign_role : (a : Punct) (b : AssignOp) → operator_of_punct a ≡ role.Assign b → assignment_operator a ≡ Some b
assign_role p.Assign b e = cc
assign_role p.StarAssign b e = cc
assign_role p.SlashAssign b e = cc
assign_role p.PercentAssign b e = cc
assign_role p.PlusAssign b e = cc
assign_role p.MinusAssign b e = cc
assign_role p.ShiftLeftAssign b e = cc
assign_role p.ShiftRightAssign b e = cc
assign_role p.AmpersandAssign b e = cc
assign_role p.CaretAssign b e = cc
assign_role p.BarAssign b e = cc
assign_role _ b e = cc

join_role : (a : Punct) (b : BinaryOp) (l : ℕ) → operator_of_punct a ≡ role.Join b l → binary_operator a ≡ Some (b, l)
join_role p.Star b l e = cc
join_role p.Slash b l e = cc
join_role p.Percent b l e = cc
join_role p.Plus b l e = cc
join_role p.Minus b l e = cc
join_role p.ShiftLeft b l e = cc
join_role p.ShiftRight b l e = cc
join_role p.Less b l e = cc
join_role p.Greater b l e = cc
join_role p.LessEqual b l e = cc
join_role p.GreaterEqual b l e = cc
join_role p.EqualEqual b l e = cc
join_role p.NotEqual b l e = cc
join_role p.Ampersand b l e = cc
join_role p.Caret b l e = cc
join_role p.Bar b l e = cc
join_role p.AndAnd b l e = cc
join_role p.OrOr b l e = cc
join_role _ b l e = cc

-- only these have the roles without an operator
call_role : (a : Punct) → operator_of_punct a ≡ role.Call → a ≡ p.LeftParen
call_role p.LeftParen e = refl
call_role _ e = cc

index_role : (a : Punct) → operator_of_punct a ≡ role.Index → a ≡ p.LeftBracket
index_role p.LeftBracket e = refl
index_role _ e = cc

choice_role : (a : Punct) → operator_of_punct a ≡ role.Choice → a ≡ p.Question
choice_role p.Question e = refl
choice_role _ e = cc

list_role : (a : Punct) → operator_of_punct a ≡ role.List → a ≡ p.Comma
list_role p.Comma e = refl
list_role _ e = cc

-- ---- Abstract declarators and type names

pub record Spells (limit to : ℕ) (s : List Lexeme) (r : Read Expr) : Type 0 where
  pub derives : IsExpr to s r.tree r.height r.rest
  pub low : r.height ≤ limit

module _ (n : ℕ) (sub : ℕ → List Lexeme → Option (Read Expr)) (sound : (to : ℕ) (s : List Lexeme) → IfSome (sub to s) (Spells n to s)) where
  bound_some_sound : (s : List Lexeme) → IfSome (bound_some sub s) (Found IsBound s)
  unfolding bound_some
  bound_some_sound s =
      bind_all _ _ (sub g.conditional s) _ (sound g.conditional s) (λ x d.
      bind_all _ _ (after_right_bracket x.rest) _ (after_right_bracket_sound x.rest) (λ u close.
      record { derives = g.bound (subst (IsExpr g.conditional s x.tree x.height) close.1 d.derives) }))

  pub bound_sound : (s : List Lexeme) → IfSome (bound sub s) (Found IsBound s)
  bound_sound [] = bound_some_sound []
  bound_sound (at (k.Punct p.RightBracket) o ∷ t) = record { derives = g.no_bound }
  bound_sound (o ∷ t) = bound_some_sound (o ∷ t)

  module _ (limit : ℕ) (place : Place) where
    arrays_behind_sound : (later : Read Declarator → Option (Read Declarator)) (s : List Lexeme) →
        ((x : Read Declarator) → AreArrays place s x.tree x.height x.rest → IfSome (later x) (Found (AreArrays place) s)) →
        (x : Read Declarator) (t : List Lexeme) → x.rest ≡ t → AreArrays place s x.tree x.height x.rest →
        IfSome (arrays_behind sub limit place later (place_of s) x t) (Found (AreArrays place) s)
    arrays_behind_sound later s h x [] e d = record { derives = d }
    arrays_behind_sound later s h x (at (k.Punct p.LeftBracket) o ∷ t) e d =
        bind_all _ _ (bound sub t) _ (bound_sound t) (λ y f.
        if_all _ (nat_le (suc (max x.height y.height)) limit) _ _
        (λ _. h (record { tree = _; height = _; rest = y.rest })
        (g.abstract_array (subst (AreArrays place s x.tree x.height) e d) f.derives)) (λ _. tt))
    arrays_behind_sound later s h x _ e d = record { derives = d }

    arrays_sound : (m : ℕ) (s : List Lexeme) (x : Read Declarator) → AreArrays place s x.tree x.height x.rest →
        IfSome (arrays sub limit place m (place_of s) x) (Found (AreArrays place) s)
    unfolding arrays
    arrays_sound zero s x d = arrays_behind_sound (λ x. None) s (λ x d. tt) x x.rest refl d
    arrays_sound (suc m) s x d = arrays_behind_sound (arrays sub limit place m (place_of s)) s (arrays_sound m s) x x.rest refl d

    group_sound : (o : Token) (t : List Lexeme) (ws : List PointerWord) (s : List Lexeme) → MaybeStars t ws s →
        IfSome (group_of sub limit place o.place (place_of t) (ws, s)) (Found (IsAbstractDirect place) (at (k.Punct p.LeftParen) o ∷ t))
    unfolding group_behind
    group_sound o t [] s d = tt
    group_sound o t (w ∷ ws) s (some_stars d) =
        bind_all _ _ (after_right_paren s) _ (after_right_paren_sound s) (λ u close.
        bind_all _ _ (after_left_bracket u) _ (after_left_bracket_sound u) (λ v begin.
        bind_all _ _ (bound sub v) _ (bound_sound v) (λ y f.
        record {
          derives = g.abstract_group (subst (λ l. AreStars t (w ∷ ws) (at (k.Punct p.RightParen) close.0 ∷ l)) begin.1
              (subst (AreStars t (w ∷ ws)) close.1 d)) f.derives;
        })))

    arrays_whole : (s : List Lexeme) → IfSome (arrays sub limit place (length s) (place_of s) (found (d.Omitted place) 1 s))
        (Found (IsAbstractDirect place) s)
    arrays_whole s =
        weaken _ _ (arrays sub limit place (length s) (place_of s) (found (d.Omitted place) 1 s)) (arrays_sound (length s) s _ g.omitted)
        (λ r f. record { derives = g.abstract_arrays f.derives })

    direct_sound : (s : List Lexeme) → IfSome (abstract_direct sub limit place s) (Found (IsAbstractDirect place) s)
    direct_sound [] = arrays_whole []
    direct_sound (at (k.Punct p.LeftParen) o ∷ t) = group_sound o t (stars t).0 (stars t).1 (stars_sound t)
    direct_sound (o ∷ t) = arrays_whole (o ∷ t)

    pointer_sound : (o : Token) (t : List Lexeme) (ws : List PointerWord) (s : List Lexeme) → ArePointerWords t ws s →
        IfSome (abstract_pointer_of sub limit place o.place (ws, s)) (Found (IsAbstract place) (at (k.Punct p.Star) o ∷ t))
    unfolding abstract_pointer
    pointer_sound o t ws s d =
        bind_all _ _ (abstract_direct sub limit place s) _ (direct_sound s) (λ x f. record { derives = g.abstract_pointer d f.derives })

    plain_whole : (s : List Lexeme) → IfSome (abstract_direct sub limit place s) (Found (IsAbstract place) s)
    plain_whole s = weaken _ _ (abstract_direct sub limit place s) (direct_sound s) (λ r f. record { derives = g.abstract_plain f.derives })

    pub abstract_sound : (s : List Lexeme) → IfSome (abstract sub limit place s) (Found (IsAbstract place) s)
    abstract_sound [] = plain_whole []
    abstract_sound (at (k.Punct p.Star) o ∷ t) = pointer_sound o t (pointer_words t).0 (pointer_words t).1 (pointer_words_sound t)
    abstract_sound (o ∷ t) = plain_whole (o ∷ t)

  type_name_sound : (limit : ℕ) (s : List Lexeme) → IfSome (type_name limit sub s) (FoundLow IsTypeName limit s)
  unfolding type_name
  type_name_sound limit s =
      bind_all _ _ (specs_in plain_spec inner s) _ (specs_in_sound inner plain_spec (plain_sound_in inner) s) (λ xs d.
      bind_all _ _ (abstract sub (suc limit) (place_of s) xs.rest) _ (abstract_sound (suc limit) (place_of s) xs.rest) (λ x f.
      if_all _ (nat_le (suc (max xs.height x.height)) limit) _ _
      (λ low. record { derives = g.type_name d.derives f.derives; low = leb-true _ _ low }) (λ _. tt)))

  -- ---- Expressions

  exprs_behind_sound : (later : List Lexeme → Option (Read (List Expr))) → ((s : List Lexeme) → IfSome (later s) (FoundLow AreExprs n s)) →
      (s : List Lexeme) (x : Read Expr)
      (t : List Lexeme) → IsExpr g.assignment s x.tree x.height t → x.height ≤ n →
      IfSome (exprs_behind n sub later x t) (FoundLow AreExprs n s)
  exprs_behind_sound later h s x [] d low = record { derives = g.one_expr d; low = low }
  exprs_behind_sound later h s x (at (k.Punct p.Comma) o ∷ t) d low =
      bind_all _ _ (later t) _ (h t) (λ xs f. record { derives = g.more_exprs d f.derives; low = omega (arith, f.low) })
  exprs_behind_sound later h s x _ d low = record { derives = g.one_expr d; low = low }

  exprs_sound : (m : ℕ) (s : List Lexeme) → IfSome (exprs n sub m s) (FoundLow AreExprs n s)
  unfolding exprs
  exprs_sound zero s = tt
  exprs_sound (suc m) s =
      bind_all _ _ (sub g.assignment s) _ (sound g.assignment s)
      (λ x d. exprs_behind_sound (exprs n sub m) (exprs_sound m) s x x.rest d.derives d.low)

  -- going on from x, which stands at the level that the role takes
  record Grows (s : List Lexeme) (x : Read Expr) (r : Operator) (l : LeftOperand) : Type 0 where
    derives : IsExpr l.level s l.read.tree l.read.height l.read.rest
    same : l.level ≡ operator_binds r

  called_some_sound : (s : List Lexeme) (x : Read Expr) (o : Token) (t : List Lexeme) →
      IsExpr g.postfix s x.tree x.height (at (k.Punct p.LeftParen) o ∷ t) →
      IfSome (called_some n sub x t) (Grows s x role.Call)
  unfolding called_some
  called_some_sound s x o t d =
      bind_all _ _ (exprs n sub (length t) t) _ (exprs_sound (length t) t) (λ xs f.
      bind_all _ _ (after_right_paren xs.rest) _ (after_right_paren_sound xs.rest) (λ u close.
      record { derives = g.call d (subst (AreExprs t xs.tree xs.height) close.1 f.derives); same = refl }))

  called_sound : (s : List Lexeme) (x : Read Expr) (o : Token) (t : List Lexeme) →
      IsExpr g.postfix s x.tree x.height (at (k.Punct p.LeftParen) o ∷ t) →
      IfSome (called n sub x t) (Grows s x role.Call)
  called_sound s x o [] d = called_some_sound s x o [] d
  called_sound s x o (at (k.Punct p.RightParen) q ∷ t) d = record { derives = g.call_empty d; same = refl }
  called_sound s x o (q ∷ t) d = called_some_sound s x o (q ∷ t) d

  member_sound : (s : List Lexeme) (x : Read Expr) (a : Punct) (b : Bool) (o : Token) (t : List Lexeme) → member_operator a ≡ Some b →
      IsExpr g.postfix s x.tree x.height (at (k.Punct a) o ∷ t) → IfSome (member_of n sub x b t) (Grows s x (role.Member b))
  member_sound s x a b o [] e d = tt
  member_sound s x a b o (at c q ∷ t) e d = if_all _ (is_tag c) _ _ (λ tag. record { derives = g.member e tag d; same = refl }) (λ _. tt)

  by_sound : (s : List Lexeme) (x : Read Expr) (a : Punct) (r : Operator) (o : Token) (t : List Lexeme) → operator_of_punct a ≡ r →
      IsExpr (operator_takes r) s x.tree x.height (at (k.Punct a) o ∷ t) → IfSome (next_by n sub (place_of s) x r o.place t) (Grows s x r)
  unfolding indexed chosen assigned_to joined listed
  by_sound s x a role.Call o t e d =
      called_sound s x o t (subst (λ a. IsExpr g.postfix s x.tree x.height (at (k.Punct a) o ∷ t)) (call_role a e) d)
  by_sound s x a role.Index o t e d =
      bind_all _ _ (sub g.expression t) _ (sound g.expression t) (λ y f.
      bind_all _ _ (after_right_bracket y.rest) _ (after_right_bracket_sound y.rest) (λ u close.
      record {
        derives = g.index (subst (λ a. IsExpr g.postfix s x.tree x.height (at (k.Punct a) o ∷ t)) (index_role a e) d)
            (subst (IsExpr g.expression t y.tree y.height) close.1 f.derives);
        same = refl;
      }))
  by_sound s x a (role.Member b) o t e d = member_sound s x a b o t (member_role a b e) d
  by_sound s x a (role.Step b) o t e d = record { derives = g.stepped (step_role a b e) d; same = refl }
  by_sound s x a role.Choice o t e d =
      bind_all _ _ (sub g.expression t) _ (sound g.expression t) (λ y f.
      bind_all _ _ (after_colon y.rest) _ (after_colon_sound y.rest) (λ u colon.
      bind_all _ _ (sub g.conditional u) _ (sound g.conditional u) (λ z i.
      record {
        derives = g.choice (subst (λ a. IsExpr g.logical_or s x.tree x.height (at (k.Punct a) o ∷ t)) (choice_role a e) d)
            (subst (IsExpr g.expression t y.tree y.height) colon.1 f.derives) i.derives;
        same = refl;
      })))
  by_sound s x a (role.Assign b) o t e d =
      bind_all _ _ (sub g.assignment t) _ (sound g.assignment t)
      (λ y f. record { derives = g.assigned (assign_role a b e) d f.derives; same = refl })
  by_sound s x a (role.Join b l) o t e d =
      bind_all _ _ (sub l t) _ (sound l t) (λ y f. record { derives = g.operation (join_role a b l e) d f.derives; same = refl })
  by_sound s x a role.List o t e d =
      bind_all _ _ (exprs n sub (length t) t) _ (exprs_sound (length t) t) (λ xs f.
      record {
        derives = g.comma (subst (λ a. IsExpr g.assignment s x.tree x.height (at (k.Punct a) o ∷ t)) (list_role a e) d) f.derives;
        same = refl;
      })
  by_sound s x a role.Str o t e d = tt
  by_sound s x a role.End o t e d = tt

  from_sound : (s : List Lexeme) (l : LeftOperand) (c : Terminal) (o : Token) (t : List Lexeme) →
      IsExpr l.level s l.read.tree l.read.height (at c o ∷ t) →
      IfSome (next_from n sub (place_of s) l c o.place t) (Grows s l.read (operator_of c))
  unfolding next_from
  from_sound s l (k.Punct a) o t d =
      if_all _ (nat_le l.level (operator_takes (operator_of_punct a))) _ _
      (λ low. by_sound s l.read a (operator_of_punct a) o t refl (lift _ (leb-true _ _ low) d)) (λ _. tt)
  from_sound s l k.Str o t d = if_all _ (nat_le l.level 0) _ _ (λ _. tt) (λ _. tt)
  from_sound s l k.Name o t d = if_all _ (nat_le l.level 0) _ _ (λ _. tt) (λ _. tt)
  from_sound s l k.Type o t d = if_all _ (nat_le l.level 0) _ _ (λ _. tt) (λ _. tt)
  from_sound s l k.Constant o t d = if_all _ (nat_le l.level 0) _ _ (λ _. tt) (λ _. tt)
  from_sound s l (k.Word word) o t d = if_all _ (nat_le l.level 0) _ _ (λ _. tt) (λ _. tt)
  from_sound s l k.Header o t d = if_all _ (nat_le l.level 0) _ _ (λ _. tt) (λ _. tt)
  from_sound s l k.Other o t d = if_all _ (nat_le l.level 0) _ _ (λ _. tt) (λ _. tt)

  record GrowsFrom (s t : List Lexeme) (l : LeftOperand) : Type 0 where
    derives : IsExpr l.level s l.read.tree l.read.height l.read.rest
    same : l.level ≡ binds t

  next_sound : (s : List Lexeme) (l : LeftOperand) (t : List Lexeme) → IsExpr l.level s l.read.tree l.read.height t →
      IfSome (next_in n sub (place_of s) l t) (GrowsFrom s t)
  next_sound s l [] d = tt
  next_sound s l (at c o ∷ t) d =
      weaken _ _ (next_from n sub (place_of s) l c o.place t) (from_sound s l c o t d)
      (λ r f. record { derives = f.derives; same = f.same })

  climb_sound : (m to : ℕ) (s : List Lexeme) (l : LeftOperand) → IsExpr l.level s l.read.tree l.read.height l.read.rest → l.level ≤ to →
      l.read.height ≤ suc n
      → IfSome (climb n sub m to (place_of s) l) (Spells (suc n) to s)
  unfolding climb
  climb_sound zero to s l d level low =
      if_all _ (nat_lt to (binds l.read.rest)) _ _ (λ _. record { derives = lift to level d; low = low }) (λ _. tt)
  climb_sound (suc m) to s l d level low =
      if_all _ (nat_lt to (binds l.read.rest)) _ _ (λ _. record { derives = lift to level d; low = low }) (λ on.
      bind_all _ _ (next_in n sub (place_of s) l l.read.rest) _ (next_sound s l l.read.rest d) (λ x grows.
      if_all _ (nat_le x.read.height (suc n)) _ _ (λ fits.
      climb_sound m to s x grows.derives (let within : binds l.read.rest ≤ to = ltb-false _ _ on in omega (arith, grows.same))
      (leb-true _ _ fits)) (λ _. tt)))

  -- ---- What an expression begins with

  record Starts (s : List Lexeme) (l : LeftOperand) : Type 0 where
    derives : IsExpr l.level s l.read.tree l.read.height l.read.rest
    low : l.read.height ≤ suc n

  converted_sound : (o : Token) (t : List Lexeme) → IfSome (converted n sub o.place t) (Starts (at (k.Punct p.LeftParen) o ∷ t))
  unfolding converted
  converted_sound o t =
      bind_all _ _ (type_name n sub t) _ (type_name_sound n t) (λ m d.
      bind_all _ _ (after_right_paren m.rest) _ (after_right_paren_sound m.rest) (λ u close.
      bind_all _ _ (sub g.cast u) _ (sound g.cast u) (λ x f.
      record {
        derives = g.conversion (subst (IsTypeName t m.tree m.height) close.1 d.derives) f.derives;
        low = omega (arith, d.low, f.low);
      })))

  sized_type_sound : (o q : Token) (t : List Lexeme) →
      IfSome (sized_type n sub o.place t) (Starts (at (k.Word w.Sizeof) o ∷ at (k.Punct p.LeftParen) q ∷ t))
  unfolding sized_type
  sized_type_sound o q t =
      bind_all _ _ (type_name n sub t) _ (type_name_sound n t) (λ m d.
      bind_all _ _ (after_right_paren m.rest) _ (after_right_paren_sound m.rest) (λ u close.
      record { derives = g.sizeof_type (subst (IsTypeName t m.tree m.height) close.1 d.derives); low = omega (arith, d.low) }))

  sized_expr_sound : (o : Token) (t : List Lexeme) → IfSome (sized_expr n sub o.place t) (Starts (at (k.Word w.Sizeof) o ∷ t))
  unfolding sized_expr
  sized_expr_sound o t =
      bind_all _ _ (sub g.unary t) _ (sound g.unary t) (λ x f. record { derives = g.sizeof_expr f.derives; low = omega (arith, f.low) })

  sized_sound : (o : Token) (t : List Lexeme) → IfSome (sized n sub o.place t) (Starts (at (k.Word w.Sizeof) o ∷ t))
  sized_sound o [] = sized_expr_sound o []
  sized_sound o (at (k.Punct p.LeftParen) q ∷ t) =
      if_all _ (begins_spec t) _ _ (λ _. sized_type_sound o q t) (λ _. sized_expr_sound o (at (k.Punct p.LeftParen) q ∷ t))
  sized_sound o (q ∷ t) = sized_expr_sound o (q ∷ t)

  size_called_sound : (o : Token) (s : List Lexeme) → IfSome (size_called n sub o.place s) (Starts (at (k.Word w.DynamicObjectSize) o ∷ s))
  unfolding size_called
  size_called_sound o s =
      bind_all _ _ (after_left_paren s) _ (after_left_paren_sound s) (λ t begin.
      bind_all _ _ (sub g.assignment t) _ (sound g.assignment t) (λ x d.
      bind_all _ _ (after_comma x.rest) _ (after_comma_sound x.rest) (λ u comma.
      bind_all _ _ (sub g.conditional u) _ (sound g.conditional u) (λ y f.
      bind_all _ _ (after_right_paren y.rest) _ (after_right_paren_sound y.rest) (λ v close.
      let made = g.size_call {o = o} {q = begin.0} (subst (IsExpr g.assignment t x.tree x.height) comma.1 d.derives)
      (subst (IsExpr g.conditional u y.tree y.height) close.1 f.derives) in
      record {
        derives =
            subst (λ l. IsExpr g.postfix (at (k.Word w.DynamicObjectSize) o ∷ l) (expr (e.SizeCall x.tree y.tree) o.place)
            (suc (max x.height y.height)) v) (sym begin.1) made;
        low = omega (arith, d.low, f.low);
      })))))

  prefixed_sound : (a : Punct) (o : Token) (t : List Lexeme) (x : Option (PrefixOp × ℕ)) → prefix_operator a ≡ x →
      IfSome (prefixed_of n sub x o.place t) (Starts (at (k.Punct a) o ∷ t))
  unfolding prefixed_by
  prefixed_sound a o t None e = tt
  prefixed_sound a o t (Some x) e =
      bind_all _ _ (sub x.1 t) _ (sound x.1 t) (λ y f. record { derives = g.prefixed e f.derives; low = omega (arith, f.low) })

  constant_sound : (o : Token) (t : List Lexeme) (x : Option ExprKind) → constant_of o.kind ≡ x →
      IfSome (constant_read n sub x o.place t) (Starts (at k.Constant o ∷ t))
  constant_sound o t None e = tt
  constant_sound o t (Some x) e = record { derives = g.constant e; low = omega arith }

  begun_sound : (to : ℕ) (s : List Lexeme) (first : Option LeftOperand) → IfSome first (Starts s) →
      IfSome (begun n sub to (place_of s) first) (Spells (suc n) to s)
  unfolding begun
  begun_sound to s first h =
      bind_all _ _ first _ h (λ l d.
      if_all _ (nat_le l.level to) _ _ (λ within. climb_sound (suc n) to s l d.derives (leb-true _ _ within) d.low) (λ _. tt))

  opened_sound : (o : Token) (t : List Lexeme) (first : Option LeftOperand) (type : Bool) → IfSome first (Starts t) →
      IfSome (opened n sub first type o.place t) (Starts (at (k.Punct p.LeftParen) o ∷ t))
  unfolding parenthesised
  opened_sound o t first true h = converted_sound o t
  opened_sound o t first false h =
      bind_all _ _ (begun n sub g.expression (place_of t) first) _ (begun_sound g.expression t first h) (λ x f.
      bind_all _ _ (after_right_paren x.rest) _ (after_right_paren_sound x.rest) (λ u close.
      record { derives = g.parens (subst (IsExpr g.expression t x.tree x.height) close.1 f.derives); low = f.low }))

  prefix_sound : (s : List Lexeme) → IfSome (prefix n sub s) (Starts s)
  unfolding prefix
  prefix_sound [] = tt
  prefix_sound (at k.Name o ∷ t) = record { derives = g.name; low = omega arith }
  prefix_sound (at k.Constant o ∷ t) = constant_sound o t (constant_of o.kind) refl
  prefix_sound (at k.Str o ∷ t) = record { derives = g.string (strings_sound o t); low = omega arith }
  prefix_sound (at (k.Word w.Sizeof) o ∷ t) = sized_sound o t
  prefix_sound (at (k.Word w.DynamicObjectSize) o ∷ t) = size_called_sound o t
  prefix_sound (at (k.Punct p.LeftParen) o ∷ t) = opened_sound o t (prefix n sub t) (begins_spec t) (prefix_sound t)
  prefix_sound (at (k.Punct a) o ∷ t) = prefixed_sound a o t (prefix_operator a) refl
  prefix_sound _ = tt

  level_up_to_sound : (to : ℕ) (s : List Lexeme) → IfSome (level_up_to n sub to s) (Spells (suc n) to s)
  level_up_to_sound to s = begun_sound to s (prefix n sub s) (prefix_sound s)

pub expression_sound : (n to : ℕ) (s : List Lexeme) → IfSome (expression n to s) (Spells n to s)
unfolding expression
expression_sound zero to s = tt
expression_sound (suc n) to s = level_up_to_sound n (expression n) (expression_sound n) to s
