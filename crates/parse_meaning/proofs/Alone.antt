-- A derivation doesn't look past its tokens: with another rest behind the same tokens it stands too.
use Rattle.std.proofs.Common.{◌≡◌, ℕ, suc, max, List, [], ◌∷◌, ◌++◌, Option, false, refl, sym, ap, subst, length, ◌<◌, ◌≤◌, arith}
use Rattle.fc_base.specs.declared.refusals.Place.{Place}
use Rattle.c_tokens.specs.declared.puncts.Punct.TheVariants as p
use Rattle.c_tokens.specs.declared.tokens.Token.{Token}
use Rattle.c_tree.specs.declared.nodes.Expr.{Expr}
use Rattle.c_tree.specs.declared.nodes.ExprKind.TheVariants as e
use Rattle.c_tree.specs.declared.nodes.TypeName.{TypeName}
use Rattle.c_tree.specs.declared.nodes.Attribute.{Attribute}
use Rattle.c_tree.specs.declared.nodes.Spec.{Spec}
use Rattle.c_tree.specs.declared.nodes.Spec.TheVariants as spec
use Rattle.c_tree.specs.declared.nodes.MemberDecl.{MemberDecl}
use Rattle.c_tree.specs.declared.nodes.Enumerator.{Enumerator}
use Rattle.c_tree.specs.declared.nodes.PointerWord.{PointerWord}
use Rattle.c_tree.specs.declared.nodes.Declarator.{Declarator}
use Rattle.c_tree.specs.declared.nodes.Declarator.TheVariants as d
use Rattle.c_tree.specs.declared.nodes.Params.{Params}
use Rattle.c_tree.specs.declared.nodes.Param.{Param}
use Rattle.parse_meaning.specs.declared.terminals.Keyword.TheVariants as w
use Rattle.parse_meaning.specs.declared.terminals.Terminal.{Terminal}
use Rattle.parse_meaning.specs.declared.terminals.Terminal.TheVariants as k
use Rattle.parse_meaning.specs.Terminals.{Lexeme, at, place_of}
use Rattle.parse_meaning.specs.Specifiers.{Context, Tally, nothing}
use Rattle.parse_meaning.specs.Expressions as g
use Rattle.parse_meaning.specs.Expressions.{AreStrings, AreBalanced, IsAttribute, AreAttributes, IsAttributeList, ArePointerWords, AreStars, IsExpr, AreExprs, IsTypeName, IsBound, IsAbstract, IsAbstractDirect, AreArrays, IsSpec, AreSpecsAny, AreSpecs, AreMembers, IsMember, AreDeclarators, AreEnumerators, IsEnumerator, IsDeclarator, IsDirect, AreParams, AreParamsSome, IsParam, Declared, expr, is_void_alone, behind}

-- the tokens of s before t are those of p before q
pub data Alike : List Lexeme → List Lexeme → List Lexeme → List Lexeme → Type 0 where
  same : {t q : List Lexeme} → Alike t t q q
  more : {o : Lexeme} {s t v q : List Lexeme} → Alike s t v q → Alike (o ∷ s) t (o ∷ v) q

-- and there is one at least
pub data AlikeSome : List Lexeme → List Lexeme → List Lexeme → List Lexeme → Type 0 where
  some : {o : Lexeme} {s t v q : List Lexeme} → Alike s t v q → AlikeSome (o ∷ s) t (o ∷ v) q

pub past : {s t u v q r : List Lexeme} → Alike s t v q → Alike t u q r → Alike s u v r
past same h = h
past (more f) h = more (past f h)

pub then_any : {s t u v q r : List Lexeme} → AlikeSome s t v q → Alike t u q r → AlikeSome s u v r
then_any (some f) h = some (past f h)

pub any : {s t v q : List Lexeme} → AlikeSome s t v q → Alike s t v q
any (some f) = more f

-- and one token more behind
pub one_more : {o : Lexeme} {s t v q : List Lexeme} → Alike s (o ∷ t) v (o ∷ q) → AlikeSome s t v q
one_more same = some same
one_more (more f) = some (any (one_more f))

pub alike_before : {s t v : List Lexeme} → Alike s t v [] → s ≡ v ++ t
alike_before same = refl
alike_before (more {o} h) = ap (λ l. o ∷ l) (alike_before h)

pub alike_after : {s v q : List Lexeme} → Alike s [] v q → v ≡ s ++ q
alike_after same = refl
alike_after (more {o} h) = ap (λ l. o ∷ l) (alike_after h)

pub alike_length : {s t v q : List Lexeme} → Alike s t v q → length t ≤ length s
alike_length same = omega arith
alike_length (more h) = omega (arith, alike_length h)

pub alike_shorter : {s t v q : List Lexeme} → AlikeSome s t v q → length t < length s
alike_shorter (some h) = omega (arith, alike_length h)

same_first : (o : Lexeme) (s v : List Lexeme) → place_of (o ∷ s) ≡ place_of (o ∷ v)
same_first (at c o) s v = refl

pub same_place : {s t v q : List Lexeme} → AlikeSome s t v q → place_of s ≡ place_of v
same_place (some {o} {s} {t} {v} h) = same_first o s v

abbrev pub Moved : (List Lexeme → List Lexeme → Type 0) → List Lexeme → List Lexeme → List Lexeme → Type 0
Moved D s t q = (v : List Lexeme) × Alike s t v q × D v q

abbrev pub MovedSome : (List Lexeme → List Lexeme → Type 0) → List Lexeme → List Lexeme → List Lexeme → Type 0
MovedSome D s t q = (v : List Lexeme) × AlikeSome s t v q × D v q

-- ---- Parts

pub strings_move : {s t : List Lexeme} {x : List ℕ} → AreStrings s x t → (q : List Lexeme) → MovedSome (λ v q. AreStrings v x q) s t q
strings_move (g.one_string {o = o}) q = (at k.Str o ∷ q, some same, g.one_string)
strings_move (g.more_strings {o = o} d) q = let m = strings_move d q in (at k.Str o ∷ m.0, some (any m.1), g.more_strings m.2)

pub balanced_move : {s t : List Lexeme} {x : List Token} → AreBalanced s x t → (q : List Lexeme) → Moved (λ v q. AreBalanced v x q) s t q
balanced_move g.balanced_end q = (q, same, g.balanced_end)
balanced_move (g.balanced_token {c = c} {o = o} f d) q = let m = balanced_move d q in (at c o ∷ m.0, more m.1, g.balanced_token f m.2)
balanced_move (g.balanced_group {a = a} {b = b} {o = o} {q = r} f h d i) q =
    let n = balanced_move i q in let m = balanced_move d (at (k.Punct b) r ∷ n.0) in
    (at (k.Punct a) o ∷ m.0, more (past m.1 (more n.1)), g.balanced_group f h m.2 n.2)

pub attribute_moves : {s t : List Lexeme} {x : Attribute} → IsAttribute s x t → (q : List Lexeme) →
    MovedSome (λ v q. IsAttribute v x q) s t q
attribute_moves (g.attribute {c = c} {o = o} f) q = (at c o ∷ q, some same, g.attribute f)
attribute_moves (g.attribute_called {c = c} {o = o} {q = r} {r = b} f d) q =
    let m = balanced_move d (at (k.Punct p.RightParen) b ∷ q) in
    (at c o ∷ at (k.Punct p.LeftParen) r ∷ m.0, some (more (past m.1 (more same))), g.attribute_called f m.2)

pub attributes_move : {s t : List Lexeme} {x : List Attribute} → AreAttributes s x t → (q : List Lexeme) →
    MovedSome (λ v q. AreAttributes v x q) s t q
attributes_move (g.last_attribute {o = o} {q = r} d) q =
    let m = attribute_moves d (at (k.Punct p.RightParen) o ∷ at (k.Punct p.RightParen) r ∷ q) in
    (m.0, then_any m.1 (more (more same)), g.last_attribute m.2)
attributes_move (g.more_attributes {o = o} d f) q =
    let n = attributes_move f q in let m = attribute_moves d (at (k.Punct p.Comma) o ∷ n.0) in
    (m.0, then_any m.1 (more (any n.1)), g.more_attributes m.2 n.2)

pub list_moves : {s t : List Lexeme} {x : List Attribute} → IsAttributeList s x t → (q : List Lexeme) →
    MovedSome (λ v q. IsAttributeList v x q) s t q
list_moves g.empty_attributes q = (_, some (more (more (more (more same)))), g.empty_attributes)
list_moves (g.some_attributes {o = o} {q = r} {r = b} d) q =
    let m = attributes_move d q in (
      at (k.Word w.Attribute) o ∷ at (k.Punct p.LeftParen) r ∷ at (k.Punct p.LeftParen) b ∷ m.0,
      some (more (more (any m.1))),
      g.some_attributes m.2,
    )

pub words_move : {s t : List Lexeme} {x : List PointerWord} → ArePointerWords s x t → (q : List Lexeme) →
    Moved (λ v q. ArePointerWords v x q) s t q
words_move g.no_words q = (q, same, g.no_words)
words_move (g.more_words {c = c} {o = o} f d) q = let m = words_move d q in (at c o ∷ m.0, more m.1, g.more_words f m.2)

pub stars_move : {s t : List Lexeme} {x : List PointerWord} → AreStars s x t → (q : List Lexeme) → MovedSome (λ v q. AreStars v x q) s t q
stars_move (g.one_star {o = o}) q = (at (k.Punct p.Star) o ∷ q, some same, g.one_star)
stars_move (g.more_stars {o = o} d) q = let m = stars_move d q in (at (k.Punct p.Star) o ∷ m.0, some (any m.1), g.more_stars m.2)

-- ---- Expressions, specifiers and declarators

abbrev ExprAt : ℕ → Expr → ℕ → List Lexeme → List Lexeme → Type 0
ExprAt l x h v q = IsExpr l v x h q

-- `void` alone is two tokens, and a list of parameters has two at least
same_void : {s t v q : List Lexeme} {c : Lexeme} → AlikeSome s (c ∷ t) v (c ∷ q) → is_void_alone s ≡ false → is_void_alone v ≡ false
same_void (some {o = at c a} f) e = first c a f e
  where
    second : (c : Terminal) (a b : Token) (s v : List Lexeme) → is_void_alone (at (k.Word w.Void) a ∷ at c b ∷ s) ≡ false →
        is_void_alone (at (k.Word w.Void) a ∷ at c b ∷ v) ≡ false
    second (k.Punct p.RightParen) a b s v e = e
    second _ a b s v e = refl

    void : {s t v q : List Lexeme} {c : Lexeme} (a : Token) → Alike s (c ∷ t) v (c ∷ q) → is_void_alone (at (k.Word w.Void) a ∷ s) ≡ false →
        is_void_alone (at (k.Word w.Void) a ∷ v) ≡ false
    void a (same {t = at c b ∷ t} {q = at _ _ ∷ q}) e = second c a b t q e
    void a (more {o = at c b} {s} {t} {v} h) e = second c a b s v e

    first : {s t v q : List Lexeme} {c : Lexeme} (b : Terminal) (a : Token) → Alike s (c ∷ t) v (c ∷ q) →
        is_void_alone (at b a ∷ s) ≡ false → is_void_alone (at b a ∷ v) ≡ false
    first (k.Word w.Void) a f e = void a f e
    first _ a f e = refl

mutual
  pub expr_moves : {l h : ℕ} {s t : List Lexeme} {x : Expr} → IsExpr l s x h t → (q : List Lexeme) → MovedSome (ExprAt l x h) s t q
  expr_moves (g.looser f) q = let m = expr_moves f q in (m.0, m.1, g.looser m.2)
  expr_moves (g.name {o = o}) q = (at k.Name o ∷ q, some same, g.name)
  expr_moves (g.constant {o = o} f) q = (at k.Constant o ∷ q, some same, g.constant f)
  expr_moves (g.string {s = s} {t = t} {bytes = bytes} f) q =
      let m = strings_move f q in
      (m.0, m.1, subst (λ pl. IsExpr g.primary m.0 (expr (e.Str bytes) pl) 1 q) (sym (same_place m.1)) (g.string m.2))
  expr_moves (g.parens {o = o} {q = b} f) q =
      let m = expr_moves f (at (k.Punct p.RightParen) b ∷ q) in
      (at (k.Punct p.LeftParen) o ∷ m.0, some (past (any m.1) (more same)), g.parens m.2)
  expr_moves (g.index {o = o} {q = b} f i) q =
      let n = expr_moves i (at (k.Punct p.RightBracket) b ∷ q) in let m = expr_moves f (at (k.Punct p.LeftBracket) o ∷ n.0) in
      (m.0, then_any m.1 (more (past (any n.1) (more same))), g.index m.2 n.2)
  expr_moves (g.call_empty {o = o} {q = b} f) q =
      let m = expr_moves f (at (k.Punct p.LeftParen) o ∷ at (k.Punct p.RightParen) b ∷ q) in
      (m.0, then_any m.1 (more (more same)), g.call_empty m.2)
  expr_moves (g.call {o = o} {q = b} f i) q =
      let n = exprs_move i (at (k.Punct p.RightParen) b ∷ q) in let m = expr_moves f (at (k.Punct p.LeftParen) o ∷ n.0) in
      (m.0, then_any m.1 (more (past (any n.1) (more same))), g.call m.2 n.2)
  expr_moves (g.member {a = a} {c = c} {o = o} {q = b} f tag i) q =
      let m = expr_moves i (at (k.Punct a) o ∷ at c b ∷ q) in (m.0, then_any m.1 (more (more same)), g.member f tag m.2)
  expr_moves (g.stepped {h = h} {a = a} {b = b} {o = o} {x = x} f i) q =
      let m = expr_moves i (at (k.Punct a) o ∷ q) in (
        m.0,
        then_any m.1 (more same),
        subst (λ pl. IsExpr g.postfix m.0 (expr (e.Postfix b x) pl) (suc h) q) (sym (same_place m.1))
            (g.stepped f m.2),
      )
  expr_moves (g.size_call {o = o} {q = b} {r = r} {a = a} f i) q =
      let n = expr_moves i (at (k.Punct p.RightParen) a ∷ q) in let m = expr_moves f (at (k.Punct p.Comma) r ∷ n.0) in (
        at (k.Word w.DynamicObjectSize) o ∷ at (k.Punct p.LeftParen) b ∷ m.0,
        some (more (past (any m.1) (more (past (any n.1) (more same))))),
        g.size_call m.2 n.2,
      )
  expr_moves (g.prefixed {a = a} {o = o} f i) q = let m = expr_moves i q in (at (k.Punct a) o ∷ m.0, some (any m.1), g.prefixed f m.2)
  expr_moves (g.sizeof_expr {o = o} i) q = let m = expr_moves i q in (at (k.Word w.Sizeof) o ∷ m.0, some (any m.1), g.sizeof_expr m.2)
  expr_moves (g.sizeof_type {o = o} {q = b} {r = r} i) q =
      let m = type_moves i (at (k.Punct p.RightParen) r ∷ q) in
      (at (k.Word w.Sizeof) o ∷ at (k.Punct p.LeftParen) b ∷ m.0, some (more (past (any m.1) (more same))), g.sizeof_type m.2)
  expr_moves (g.conversion {o = o} {q = b} i f) q =
      let n = expr_moves f q in let m = type_moves i (at (k.Punct p.RightParen) b ∷ n.0) in
      (at (k.Punct p.LeftParen) o ∷ m.0, some (past (any m.1) (more (any n.1))), g.conversion m.2 n.2)
  expr_moves (g.operation {a = a} {o = o} i f j) q =
      let n = expr_moves j q in let m = expr_moves f (at (k.Punct a) o ∷ n.0) in (m.0, then_any m.1 (more (any n.1)), g.operation i m.2 n.2)
  expr_moves (g.choice {o = o} {q = b} f i j) q =
      let u = expr_moves j q in let n = expr_moves i (at (k.Punct p.Colon) b ∷ u.0) in
      let m = expr_moves f (at (k.Punct p.Question) o ∷ n.0) in
      (m.0, then_any m.1 (more (past (any n.1) (more (any u.1)))), g.choice m.2 n.2 u.2)
  expr_moves (g.assigned {a = a} {o = o} i f j) q =
      let n = expr_moves j q in let m = expr_moves f (at (k.Punct a) o ∷ n.0) in (m.0, then_any m.1 (more (any n.1)), g.assigned i m.2 n.2)
  expr_moves (g.comma {h = h} {j = j} {o = o} {x = x} {xs = xs} f i) q =
      let n = exprs_move i q in let m = expr_moves f (at (k.Punct p.Comma) o ∷ n.0) in (
        m.0,
        then_any m.1 (more (any n.1)),
        subst (λ pl. IsExpr g.expression m.0 (expr (e.Comma (x ∷ xs)) pl) (suc (max h j)) q)
            (sym (same_place m.1)) (g.comma m.2 n.2),
      )

  pub exprs_move : {h : ℕ} {s t : List Lexeme} {x : List Expr} → AreExprs s x h t → (q : List Lexeme) →
      MovedSome (λ v q. AreExprs v x h q) s t q
  exprs_move (g.one_expr f) q = let m = expr_moves f q in (m.0, m.1, g.one_expr m.2)
  exprs_move (g.more_exprs {o = o} f i) q =
      let n = exprs_move i q in let m = expr_moves f (at (k.Punct p.Comma) o ∷ n.0) in
      (m.0, then_any m.1 (more (any n.1)), g.more_exprs m.2 n.2)

  pub type_moves : {h : ℕ} {s t : List Lexeme} {x : TypeName} → IsTypeName s x h t → (q : List Lexeme) →
      MovedSome (λ v q. IsTypeName v x h q) s t q
  type_moves (g.type_name {h = h} {j = j} {s = s} {xs = xs} {x = x} f i) q =
      let n = abstract_moves i q in let m = specs_move f n.0 in (
        m.0,
        then_any m.1 n.1,
        subst (λ pl. IsTypeName m.0 (record { specs = xs; declarator = x; place = pl }) (suc (max h j)) q) (sym (same_place m.1))
            (g.type_name m.2 (subst (λ pl. IsAbstract pl n.0 x j q) (same_place m.1) n.2)),
      )

  pub bound_moves : {h : ℕ} {s t : List Lexeme} {x : Option Expr} → IsBound s x h t → (q : List Lexeme) →
      MovedSome (λ v q. IsBound v x h q) s t q
  bound_moves (g.no_bound {o = o}) q = (at (k.Punct p.RightBracket) o ∷ q, some same, g.no_bound)
  bound_moves (g.bound {o = o} f) q =
      let m = expr_moves f (at (k.Punct p.RightBracket) o ∷ q) in (m.0, then_any m.1 (more same), g.bound m.2)

  pub abstract_moves : {h : ℕ} {pl : Place} {s t : List Lexeme} {x : Declarator} → IsAbstract pl s x h t → (q : List Lexeme) →
      Moved (λ v q. IsAbstract pl v x h q) s t q
  abstract_moves (g.abstract_plain f) q = let m = abstract_direct_moves f q in (m.0, m.1, g.abstract_plain m.2)
  abstract_moves (g.abstract_pointer {o = o} f i) q =
      let n = abstract_direct_moves i q in let m = words_move f n.0 in
      (at (k.Punct p.Star) o ∷ m.0, more (past m.1 n.1), g.abstract_pointer m.2 n.2)

  pub abstract_direct_moves : {h : ℕ} {pl : Place} {s t : List Lexeme} {x : Declarator} → IsAbstractDirect pl s x h t → (q : List Lexeme) →
      Moved (λ v q. IsAbstractDirect pl v x h q) s t q
  abstract_direct_moves (g.abstract_arrays f) q = let m = arrays_move f q in (m.0, m.1, g.abstract_arrays m.2)
  abstract_direct_moves (g.abstract_group {h = h} {place = place} {o = o} {q = b} {r = r} {ws = ws} {x = x} f i) q =
      let n = bound_moves i q in let m = stars_move f (at (k.Punct p.RightParen) b ∷ at (k.Punct p.LeftBracket) r ∷ n.0) in (
        at (k.Punct p.LeftParen) o ∷ m.0,
        more (past (any m.1) (more (more (any n.1)))),
        subst (λ pl. IsAbstractDirect place (at (k.Punct p.LeftParen) o ∷ m.0) (d.Array (d.Pointer ws (d.Omitted place) pl) x o.place)
            (suc (max 2 h)) q) (sym (same_place m.1))
            (g.abstract_group m.2 n.2),
      )

  pub arrays_move : {h : ℕ} {pl : Place} {s t : List Lexeme} {x : Declarator} → AreArrays pl s x h t → (q : List Lexeme) →
      Moved (λ v q. AreArrays pl v x h q) s t q
  arrays_move g.omitted q = (q, same, g.omitted)
  arrays_move (g.abstract_array {h = h} {j = j} {place = place} {o = o} {x = x} {y = y} f i) q =
      let n = bound_moves i q in let m = arrays_move f (at (k.Punct p.LeftBracket) o ∷ n.0) in (
        m.0,
        past m.1 (more (any n.1)),
        subst (λ pl. AreArrays place m.0 (d.Array x y pl) (suc (max h j)) q)
            (sym (same_place (one_more m.1))) (g.abstract_array m.2 n.2),
      )

  pub spec_moves : {c : Context} {a : Tally} {h : ℕ} {s t : List Lexeme} {x : Spec} → IsSpec c s x a h t → (q : List Lexeme) →
      MovedSome (λ v q. IsSpec c v x a h q) s t q
  spec_moves (g.spec_typedef {o = o}) q = (at (k.Word w.Typedef) o ∷ q, some same, g.spec_typedef)
  spec_moves (g.spec_extern {o = o}) q = (at (k.Word w.Extern) o ∷ q, some same, g.spec_extern)
  spec_moves (g.spec_static {o = o}) q = (at (k.Word w.Static) o ∷ q, some same, g.spec_static)
  spec_moves (g.spec_inline {o = o}) q = (at (k.Word w.Inline) o ∷ q, some same, g.spec_inline)
  spec_moves (g.spec_const {o = o}) q = (at (k.Word w.Const) o ∷ q, some same, g.spec_const)
  spec_moves (g.spec_attributes {c = c} {xs = xs} f) q =
      let m = list_moves f q in
      (m.0, m.1, subst (λ pl. IsSpec c m.0 (spec.Attributes xs pl) nothing 1 q) (sym (same_place m.1)) (g.spec_attributes m.2))
  spec_moves (g.spec_basic {word = word} {o = o} f) q = (at (k.Word word) o ∷ q, some same, g.spec_basic f)
  spec_moves (g.spec_type {o = o}) q = (at k.Type o ∷ q, some same, g.spec_type)
  spec_moves (g.spec_tag {word = word} {b = b} {o = o} {q = r} f tag) q =
      (at (k.Word word) o ∷ at b r ∷ q, some (more same), g.spec_tag f tag)
  spec_moves (g.spec_body {word = word} {b = b} {o = o} {q = r} {r = r'} f i tag j) q =
      let m = members_move j q in (
        at (k.Word word) o ∷ at b r ∷ at (k.Punct p.LeftBrace) r' ∷ m.0,
        some (more (more (any m.1))),
        g.spec_body f i tag m.2,
      )
  spec_moves (g.spec_untagged {word = word} {o = o} {r = r} f i j) q =
      let m = members_move j q in (at (k.Word word) o ∷ at (k.Punct p.LeftBrace) r ∷ m.0, some (more (any m.1)), g.spec_untagged f i m.2)
  spec_moves (g.spec_enum_tag {b = b} {o = o} {q = r} tag) q = (at (k.Word w.Enum) o ∷ at b r ∷ q, some (more same), g.spec_enum_tag tag)
  spec_moves (g.spec_enum_body {b = b} {o = o} {q = r} {r = r'} f tag j) q =
      let m = enumerators_move j q in (
        at (k.Word w.Enum) o ∷ at b r ∷ at (k.Punct p.LeftBrace) r' ∷ m.0,
        some (more (more (any m.1))),
        g.spec_enum_body f tag m.2,
      )
  spec_moves (g.spec_enum_untagged {o = o} {r = r} f j) q =
      let m = enumerators_move j q in (
        at (k.Word w.Enum) o ∷ at (k.Punct p.LeftBrace) r ∷ m.0,
        some (more (any m.1)),
        g.spec_enum_untagged f m.2,
      )

  pub specs_any_move : {c : Context} {a : Tally} {h : ℕ} {s t : List Lexeme} {x : List Spec} → AreSpecsAny c s x a h t → (q : List Lexeme) →
      MovedSome (λ v q. AreSpecsAny c v x a h q) s t q
  specs_any_move (g.one_spec f) q = let m = spec_moves f q in (m.0, m.1, g.one_spec m.2)
  specs_any_move (g.more_specs f i) q =
      let n = specs_any_move i q in let m = spec_moves f n.0 in (m.0, then_any m.1 (any n.1), g.more_specs m.2 n.2)

  pub specs_move : {c : Context} {a : Tally} {h : ℕ} {s t : List Lexeme} {x : List Spec} → AreSpecs c s x a h t → (q : List Lexeme) →
      MovedSome (λ v q. AreSpecs c v x a h q) s t q
  specs_move (g.specs f i) q = let m = specs_any_move f q in (m.0, m.1, g.specs m.2 i)

  pub members_move : {h : ℕ} {s t : List Lexeme} {x : List MemberDecl} → AreMembers s x h t → (q : List Lexeme) →
      MovedSome (λ v q. AreMembers v x h q) s t q
  members_move (g.last_member {o = o} f) q =
      let m = member_moves f (at (k.Punct p.RightBrace) o ∷ q) in (m.0, then_any m.1 (more same), g.last_member m.2)
  members_move (g.more_members f i) q =
      let n = members_move i q in let m = member_moves f n.0 in (m.0, then_any m.1 (any n.1), g.more_members m.2 n.2)

  pub member_moves : {h : ℕ} {s t : List Lexeme} {x : MemberDecl} → IsMember s x h t → (q : List Lexeme) →
      MovedSome (λ v q. IsMember v x h q) s t q
  member_moves (g.member_decl f i) q =
      let n = declarators_move i q in let m = specs_move f n.0 in (m.0, then_any m.1 (any n.1), g.member_decl m.2 n.2)

  pub declarators_move : {h : ℕ} {s t : List Lexeme} {x : List Declarator} → AreDeclarators s x h t → (q : List Lexeme) →
      MovedSome (λ v q. AreDeclarators v x h q) s t q
  declarators_move (g.last_declarator {o = o} f) q =
      let m = declarator_moves f (at (k.Punct p.Semicolon) o ∷ q) in (m.0, then_any m.1 (more same), g.last_declarator m.2)
  declarators_move (g.more_declarators {o = o} f i) q =
      let n = declarators_move i q in let m = declarator_moves f (at (k.Punct p.Comma) o ∷ n.0) in
      (m.0, then_any m.1 (more (any n.1)), g.more_declarators m.2 n.2)

  pub enumerators_move : {h : ℕ} {s t : List Lexeme} {x : List Enumerator} → AreEnumerators s x h t → (q : List Lexeme) →
      MovedSome (λ v q. AreEnumerators v x h q) s t q
  enumerators_move (g.last_enumerator {o = o} f) q =
      let m = enumerator_moves f (at (k.Punct p.RightBrace) o ∷ q) in (m.0, then_any m.1 (more same), g.last_enumerator m.2)
  enumerators_move (g.last_enumerator_comma {o = o} {q = r} f) q =
      let m = enumerator_moves f (at (k.Punct p.Comma) o ∷ at (k.Punct p.RightBrace) r ∷ q) in
      (m.0, then_any m.1 (more (more same)), g.last_enumerator_comma m.2)
  enumerators_move (g.more_enumerators {o = o} f i) q =
      let n = enumerators_move i q in let m = enumerator_moves f (at (k.Punct p.Comma) o ∷ n.0) in
      (m.0, then_any m.1 (more (any n.1)), g.more_enumerators m.2 n.2)

  pub enumerator_moves : {h : ℕ} {s t : List Lexeme} {x : Enumerator} → IsEnumerator s x h t → (q : List Lexeme) →
      MovedSome (λ v q. IsEnumerator v x h q) s t q
  enumerator_moves (g.enumerator {o = o}) q = (at k.Name o ∷ q, some same, g.enumerator)
  enumerator_moves (g.enumerator_valued {o = o} {q = r} f) q =
      let m = expr_moves f q in (at k.Name o ∷ at (k.Punct p.Assign) r ∷ m.0, some (more (any m.1)), g.enumerator_valued m.2)

  pub declarator_moves : {h : ℕ} {s t : List Lexeme} {x : Declarator} {n : Declared} → IsDeclarator s x n h t → (q : List Lexeme) →
      MovedSome (λ v q. IsDeclarator v x n h q) s t q
  declarator_moves (g.declarator_plain f) q = let m = direct_moves f q in (m.0, m.1, g.declarator_plain m.2)
  declarator_moves (g.declarator_pointer {o = o} f i) q =
      let n = direct_moves i q in let m = words_move f n.0 in
      (at (k.Punct p.Star) o ∷ m.0, some (past m.1 (any n.1)), g.declarator_pointer m.2 n.2)

  pub direct_moves : {h : ℕ} {s t : List Lexeme} {x : Declarator} {n : Declared} → IsDirect s x n h t → (q : List Lexeme) →
      MovedSome (λ v q. IsDirect v x n h q) s t q
  direct_moves (g.direct_name {o = o}) q = (at k.Name o ∷ q, some same, g.direct_name)
  direct_moves (g.direct_parens {o = o} {q = r} f) q =
      let m = declarator_moves f (at (k.Punct p.RightParen) r ∷ q) in
      (at (k.Punct p.LeftParen) o ∷ m.0, some (past (any m.1) (more same)), g.direct_parens m.2)
  direct_moves (g.direct_array {h = h} {j = j} {o = o} {x = x} {n = a} {y = y} f i) q =
      let n = bound_moves i q in let m = direct_moves f (at (k.Punct p.LeftBracket) o ∷ n.0) in (
        m.0,
        then_any m.1 (more (any n.1)),
        subst (λ pl. IsDirect m.0 (d.Array x y pl) (behind a g.other) (suc (max h j)) q)
            (sym (same_place m.1)) (g.direct_array m.2 n.2),
      )
  direct_moves (g.direct_function {h = h} {j = j} {o = o} {x = x} {n = a} {y = y} f i) q =
      let n = params_move i q in let m = direct_moves f (at (k.Punct p.LeftParen) o ∷ n.0) in (
        m.0,
        then_any m.1 (more (any n.1)),
        subst (λ pl. IsDirect m.0 (d.Function x y pl) (behind a g.parameters) (suc (max h j)) q)
            (sym (same_place m.1)) (g.direct_function m.2 n.2),
      )

  pub params_move : {h : ℕ} {s t : List Lexeme} {x : Params} → AreParams s x h t → (q : List Lexeme) →
      MovedSome (λ v q. AreParams v x h q) s t q
  params_move (g.no_params {o = o}) q = (at (k.Punct p.RightParen) o ∷ q, some same, g.no_params)
  params_move (g.void_params {o = o} {q = r}) q = (at (k.Word w.Void) o ∷ at (k.Punct p.RightParen) r ∷ q, some (more same), g.void_params)
  params_move (g.some_params e f) q = let m = params_some_move f q in (m.0, m.1, g.some_params (m.2.0 e) m.2.1)

  -- and they begin with `void` alone only if the others do
  pub params_some_move : {h : ℕ} {s t : List Lexeme} {x : List Param} → AreParamsSome s x h t → (q : List Lexeme) →
      MovedSome (λ v q. (is_void_alone s ≡ false → is_void_alone v ≡ false) × AreParamsSome v x h q) s t q
  params_some_move (g.last_param {o = o} f) q =
      let m = param_moves f (at (k.Punct p.RightParen) o ∷ q) in (m.0, then_any m.1 (more same), ((λ e. same_void m.1 e), g.last_param m.2))
  params_some_move (g.more_params {o = o} f i) q =
      let n = params_some_move i q in let m = param_moves f (at (k.Punct p.Comma) o ∷ n.0) in
      (m.0, then_any m.1 (more (any n.1)), ((λ e. same_void m.1 e), g.more_params m.2 n.2.1))

  pub param_moves : {h : ℕ} {s t : List Lexeme} {x : Param} → IsParam s x h t → (q : List Lexeme) → MovedSome (λ v q. IsParam v x h q) s t q
  param_moves (g.param_named f i) q =
      let n = declarator_moves i q in let m = specs_move f n.0 in (m.0, then_any m.1 (any n.1), g.param_named m.2 n.2)
  param_moves (g.param_abstract {j = j} {x = x} f i) q =
      let n = abstract_moves i q in let m = specs_move f n.0 in
      (m.0, then_any m.1 n.1, g.param_abstract m.2 (subst (λ pl. IsAbstract pl n.0 x j q) (same_place m.1) n.2))
