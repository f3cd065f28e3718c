-- What is in the grammar is read: type names and expressions.
use Rattle.std.proofs.Common.{◌≡◌, ℕ, zero, suc, ◌+◌, ◌<◌, ◌≤◌, max, List, [], ◌∷◌, Option, Some, Bool, true, false, refl, ◌∙◌, arith, length}
use Rattle.std.proofs.lemmas.Bool.{lt-ltb, le-leb, le-ltb}
use Rattle.fc_base.specs.declared.refusals.Place.{Place}
use Rattle.c_tokens.specs.declared.puncts.Punct.{Punct}
use Rattle.c_tokens.specs.declared.puncts.Punct.TheVariants as p
use Rattle.c_tokens.specs.declared.tokens.Token.{Token}
use Rattle.c_tree.specs.declared.operators.PrefixOp.{PrefixOp}
use Rattle.c_tree.specs.declared.nodes.Expr.{Expr}
use Rattle.c_tree.specs.declared.nodes.ExprKind.TheVariants as e
use Rattle.c_tree.specs.declared.nodes.TypeName.{TypeName}
use Rattle.parse_meaning.specs.declared.terminals.Keyword.TheVariants as w
use Rattle.parse_reading.specs.declared.operators.Operator.{Operator}
use Rattle.parse_reading.specs.declared.operators.Operator.TheVariants as role
use Rattle.parse_meaning.specs.declared.terminals.Terminal.{Terminal}
use Rattle.parse_meaning.specs.declared.terminals.Terminal.TheVariants as k
use Rattle.parse_meaning.specs.Terminals.{Lexeme, at, text_of, place_of}
use Rattle.parse_meaning.specs.Specifiers.{inner}
use Rattle.parse_meaning.specs.Expressions as g
use Rattle.parse_meaning.specs.Expressions.{IsExpr, AreStrings, AreSpecs, pointer_word, AreExprs, IsTypeName, IsBound, IsAbstract, IsAbstractDirect, AreArrays, ArePointerWords, AreStars, binary_operator, assignment_operator, prefix_operator, postfix_operator, member_operator, constant_of, expr}
use Rattle.parse_reading.specs.Reading.{left, Read, LeftOperand, found, operator_of_punct, operator_of, operator_binds, operator_takes, binds, begins_spec, plain_spec, type_name, exprs_behind, exprs, called_some, called, indexed, chosen, assigned_to, joined, listed, next_by, next_from, climb, converted, sized_type, sized_expr, sized, size_called, prefixed_by, begun, parenthesised, prefix, level_up_to, expression}
use Rattle.parse_reading.proofs.CompleteParts.{StringsFrom, strings_read, specs_begin, specs_read, plain_read}
use Rattle.parse_reading.proofs.Complete.{begins_expr, expr_begins, expr_shorter, expr_higher, Ends, ReadsAll, last, last-suc, no_spec, IsInfix, infix_of, assigns, steps, members, IsPrefix, prefix_of}
use Rattle.parse_reading.proofs.Abstracts.{EndsAbstract, abstract_reads, abstract_ends_specs}

-- whether a specifier stands behind a parenthesis
abbrev spec_within : List Lexeme → Bool
spec_within [] = false
spec_within (at (k.Punct p.LeftParen) o ∷ t) = begins_spec t
spec_within _ = false

prefix_within : (a : Punct) (x : PrefixOp × ℕ) (o : Token) (t : List Lexeme) → prefix_operator a ≡ Some x →
    spec_within (at (k.Punct a) o ∷ t) ≡ false
prefix_within p.LeftParen x o t e = cc
prefix_within _ x o t e = refl

strings_within : {s t : List Lexeme} {bytes : List ℕ} → AreStrings s bytes t → spec_within s ≡ false
strings_within g.one_string = refl
strings_within (g.more_strings d) = refl

-- a unary expression begins with no cast
no_spec_within : {l h : ℕ} {s t : List Lexeme} {x : Expr} → IsExpr l s x h t → l ≤ 2 → spec_within s ≡ false
no_spec_within (g.looser d) low = no_spec_within d (omega arith)
no_spec_within g.name low = refl
no_spec_within (g.constant e) low = refl
no_spec_within (g.string d) low = strings_within d
no_spec_within (g.parens {t = t} d) low = no_spec t (expr_begins d)
no_spec_within (g.index d f) low = no_spec_within d (omega arith)
no_spec_within (g.call_empty d) low = no_spec_within d (omega arith)
no_spec_within (g.call d f) low = no_spec_within d (omega arith)
no_spec_within (g.member e tag d) low = no_spec_within d (omega arith)
no_spec_within (g.stepped e d) low = no_spec_within d (omega arith)
no_spec_within (g.size_call d f) low = refl
no_spec_within (g.prefixed {a = a} {o = o} {t = t} e d) low = prefix_within a _ o t e
no_spec_within (g.sizeof_expr d) low = refl
no_spec_within (g.sizeof_type d) low = refl
no_spec_within (g.conversion d f) low = absurd (omega arith)
no_spec_within (g.operation e d f) low = no_spec_within d low
no_spec_within (g.choice d f i) low = absurd (omega arith)
no_spec_within (g.assigned e d f) low = absurd (omega arith)
no_spec_within (g.comma d f) low = absurd (omega arith)

module _ (n : ℕ) (sub : ℕ → List Lexeme → Option (Read Expr)) (full : ReadsAll n sub) where
  -- what stands behind the parenthesis of a cast or of `sizeof`
  type_name_reads : {h : ℕ} {o : Token} {s t : List Lexeme} {x : TypeName} → IsTypeName s x h (at (k.Punct p.RightParen) o ∷ t) → h ≤ n →
      type_name n sub s ≡ Some (found x h (at (k.Punct p.RightParen) o ∷ t))
  unfolding type_name
  type_name_reads {o = o} {t = v} (g.type_name {h = h} {j = j} {s = s} d f) low =
      let ends : EndsAbstract (at (k.Punct p.RightParen) o ∷ v) = record { quiet_behind = refl; no_bracket = refl } in
      rw (
        specs_read inner n plain_spec (plain_read inner n refl) d (omega arith)
            (abstract_ends_specs f (record { no_spec = refl; no_body = refl })),
        abstract_reads n sub full (suc n) (place_of s) f (omega arith) (omega arith) ends,
        le-leb (suc (max h j)) n low,
      ) refl

  type_begins : {h : ℕ} {s t : List Lexeme} {x : TypeName} → IsTypeName s x h t → begins_spec s ≡ true
  type_begins (g.type_name d f) = specs_begin d

  -- ---- Lists of expressions

  exprs_end : (later : List Lexeme → Option (Read (List Expr))) (x : Read Expr) (t : List Lexeme) → 16 < binds t →
      exprs_behind n sub later x t ≡ Some (found (x.tree ∷ []) x.height t)
  exprs_end later x [] e = refl
  exprs_end later x (at c o ∷ t) e = go c o t e
    where
      punct : (a : Punct) (o : Token) (t : List Lexeme) → 16 < operator_binds (operator_of_punct a) →
          exprs_behind n sub later x (at (k.Punct a) o ∷ t) ≡ Some (found (x.tree ∷ []) x.height (at (k.Punct a) o ∷ t))
      punct p.Comma o t e = absurd (omega arith)
      punct _ o t e = refl

      go : (c : Terminal) (o : Token) (t : List Lexeme) → 16 < operator_binds (operator_of c) →
          exprs_behind n sub later x (at c o ∷ t) ≡ Some (found (x.tree ∷ []) x.height (at c o ∷ t))
      go (k.Punct a) o t e = punct a o t e
      go _ o t e = refl

  exprs_read : (m : ℕ) {h : ℕ} {s t : List Lexeme} {xs : List Expr} → AreExprs s xs h t → h ≤ n → length s ≤ m → 16 < binds t →
      exprs n sub m s ≡ Some (found xs h t)
  unfolding exprs
  exprs_read zero (g.one_expr d) low room ends = absurd (omega (arith, expr_shorter d))
  exprs_read zero (g.more_exprs d f) low room ends = absurd (omega (arith, expr_shorter d))
  exprs_read (suc m) (g.one_expr {h = h} {t = t} {x = x} d) low room ends =
      rw (full _ _ _ _ _ d low (record { stops = omega arith; last = omega arith })) (exprs_end (exprs n sub m) (found x h t) t ends)
  exprs_read (suc m) (g.more_exprs d f) low room ends =
      rw (
        full _ _ _ _ _ d (omega arith) (record { stops = omega arith; last = omega arith }),
        exprs_read m f (omega arith) (omega (arith, expr_shorter d)) ends,
      ) refl

  -- ---- Expressions

  -- the reading up to a level comes to x, with these turns left
  record Reached (to : ℕ) (s : List Lexeme) (least : ℕ) (x : Read Expr) : Type 0 where
    turns : ℕ
    level : ℕ
    low : level ≤ least
    room : suc n ≤ turns + x.height
    same : level_up_to n sub to s ≡ climb n sub turns to (place_of s) (record { level = level; read = x })

  climb_turns : (m to l : ℕ) (start : Place) (x : Expr) (h : ℕ) (a : Punct) (r : Operator) (o : Token) (t : List Lexeme) (z : LeftOperand) →
      operator_of_punct a ≡ r → operator_binds r ≤ to → l ≤ operator_takes r →
      next_by n sub start (found x h (at (k.Punct a) o ∷ t)) r o.place t ≡ Some z → z.read.height ≤ suc n →
      climb n sub (suc m) to start (record { level = l; read = found x h (at (k.Punct a) o ∷ t) }) ≡ climb n sub m to start z
  unfolding climb next_from
  climb_turns m to l start x h a r o t z is on left e low =
      rw (is, le-ltb to (operator_binds r) on, le-leb l (operator_takes r) left, e, le-leb z.read.height (suc n) low) refl

  turn : (to least : ℕ) (s : List Lexeme) (x : Expr) (h : ℕ) (a : Punct) (r : Operator) (o : Token) (t : List Lexeme) (z : LeftOperand) →
      Reached to s least (found x h (at (k.Punct a) o ∷ t)) → operator_of_punct a ≡ r →
      operator_binds r ≤ to → least ≤ operator_takes r →
      next_by n sub (place_of s) (found x h (at (k.Punct a) o ∷ t)) r o.place t ≡ Some z → h < z.read.height → z.read.height ≤ suc n →
      Reached to s z.level z.read
  turn to least s x h a r o t z reached is on left e higher low = go reached.turns reached.same reached.room
    where
      go : (m : ℕ) → level_up_to n sub to s ≡ climb n sub m to (place_of s)
          (record { level = reached.level; read = found x h (at (k.Punct a) o ∷ t) }) → suc n ≤ m + h → Reached to s z.level z.read
      go zero same room = absurd (omega arith)
      go (suc m) same room =
          record {
            turns = m;
            level = z.level;
            low = omega arith;
            room = omega arith;
            same = same
                ∙ climb_turns m to reached.level (place_of s) x h a r o t z is on (omega (arith, reached.low)) e low;
          }

  started : (to : ℕ) (s : List Lexeme) (l : LeftOperand) → l.level ≤ to → prefix n sub s ≡ Some l → Reached to s l.level l.read
  unfolding begun
  started to s l within e =
      record { turns = suc n; level = l.level; low = omega arith; room = omega arith; same = rw (e, le-leb l.level to within) refl }

  looser_still : (to : ℕ) (s : List Lexeme) (l : ℕ) (x : Read Expr) → Reached to s l x → Reached to s (suc l) x
  looser_still to s l x r = record { turns = r.turns; level = r.level; low = omega (arith, r.low); room = r.room; same = r.same }

  climb_ends : (m to : ℕ) (start : Place) (l : ℕ) (x : Read Expr) → to < binds x.rest →
      climb n sub m to start (record { level = l; read = x }) ≡ Some x
  unfolding climb
  climb_ends zero to start l x ends = rw (lt-ltb to (binds x.rest) ends) refl
  climb_ends (suc m) to start l x ends = rw (lt-ltb to (binds x.rest) ends) refl

  ended : (to least : ℕ) (s : List Lexeme) (x : Read Expr) → Reached to s least x → to < binds x.rest → level_up_to n sub to s ≡ Some x
  ended to least s x r ends = r.same ∙ climb_ends r.turns to (place_of s) r.level x ends

  sized_is : (place : Place) (s : List Lexeme) → spec_within s ≡ false → sized n sub place s ≡ sized_expr n sub place s
  sized_is place [] e = refl
  sized_is place (at (k.Punct p.LeftParen) o ∷ t) e = rw e refl
  sized_is place (at _ o ∷ t) e = refl

  string_reached : (to : ℕ) (s t : List Lexeme) (bytes : List ℕ) → StringsFrom s bytes t → 0 ≤ to →
      Reached to s 0 (found (expr (e.Str bytes) (place_of s)) 1 t)
  unfolding prefix
  string_reached to s t bytes r within =
      let same : place_of s ≡ r.first.place = rw r.whole refl in
      started to s (left 0 (expr (e.Str bytes) (place_of s)) 1 t) within (rw (r.whole, r.same) refl)

  called_is : (x : Read Expr) (t : List Lexeme) → begins_expr t ≡ true → called n sub x t ≡ called_some n sub x t
  called_is x [] e = refl
  called_is x (at (k.Punct p.RightParen) o ∷ t) e = cc
  called_is x (at _ o ∷ t) e = refl

  exprs_begin : {h : ℕ} {s t : List Lexeme} {xs : List Expr} → AreExprs s xs h t → begins_expr s ≡ true
  exprs_begin (g.one_expr d) = expr_begins d
  exprs_begin (g.more_exprs d f) = expr_begins d

  reach : (to : ℕ) {l h : ℕ} {s t : List Lexeme} {x : Expr} → IsExpr l s x h t → l ≤ to → h ≤ suc n → last l < binds t →
      Reached to s l (found x h t)
  unfolding prefix begun parenthesised converted sized_type sized_expr size_called prefixed_by called_some indexed chosen assigned_to
      joined listed
  reach to (g.looser {l} {h} {s} {t} {x} d) within low ends =
      looser_still to s l (found x h t) (reach to d (omega arith) low (omega (arith, last-suc l)))
  reach to (g.name {o = o} {t = t}) within low ends = started to _ (left 0 (expr (e.Name (text_of o)) o.place) 1 t) within refl
  reach to (g.constant {o = o} {x = x} {t = t} f) within low ends =
      started to (at k.Constant o ∷ t) (left 0 (expr x o.place) 1 t) within (rw f refl)
  reach to (g.string {s = s} {t = t} {bytes = bytes} f) within low ends = string_reached to s t bytes (strings_read f ends) within
  reach to (g.parens {h = h} {o = o} {q = q} {t = t} {u = u} {x = x} d) within low ends =
      let inside : level_up_to n sub 16 t ≡ Some (found x h (at (k.Punct p.RightParen) q ∷ u)) = ended 16 16 t
      (found x h (at (k.Punct p.RightParen) q ∷ u)) (reach 16 d (omega arith) low (omega arith)) (omega arith) in
      let plain : begins_spec t ≡ false = no_spec t (expr_begins d) in
      started to (at (k.Punct p.LeftParen) o ∷ t) (left 0 x h u) within (rw (plain, inside) refl)
  reach to (g.index {h = h} {j = j} {o = o} {q = q} {s = s} {t = t} {u = u} {x = x} {y = y} d f) within low ends =
      turn to 1 s x h p.LeftBracket role.Index o t (left 1 (expr (e.Index x y) o.place) (suc (max h j)) u)
      (reach to d within (omega arith) (omega arith)) refl within (omega arith)
      (rw (full _ _ _ _ _ f (omega arith) (record { stops = omega arith; last = omega arith })) refl) (omega arith) low
  reach to (g.call_empty {h = h} {o = o} {q = q} {s = s} {t = t} {x = x} d) within low ends =
      turn to 1 s x h p.LeftParen role.Call o (at (k.Punct p.RightParen) q ∷ t) (left 1 (expr (e.Call x []) x.place) (suc h) t)
      (reach to d within (omega arith) (omega arith)) refl within (omega arith)
      refl (omega arith) low
  reach to (g.call {h = h} {j = j} {o = o} {q = q} {s = s} {t = t} {u = u} {x = x} {xs = xs} d f) within low ends =
      turn to 1 s x h p.LeftParen role.Call o t (left 1 (expr (e.Call x xs) x.place) (suc (max h j)) u)
      (reach to d within (omega arith) (omega arith)) refl within (omega arith)
      (called_is (found x h (at (k.Punct p.LeftParen) o ∷ t)) t (exprs_begin f)
      ∙ rw (exprs_read (length t) f (omega arith) (omega arith) (omega arith)) refl) (omega arith) low
  reach to (g.member {h = h} {a = a} {b = b} {c = c} {o = o} {q = q} {s = s} {t = t} {x = x} made tag d) within low ends =
      let is : operator_of_punct a ≡ role.Member b = members a b made in
      turn to 1 s x h a (role.Member b) o (at c q ∷ t) (left 1 (expr (e.Member x b (text_of q)) q.place) (suc h) t)
      (reach to d within (omega arith) (rw is (omega arith))) is within (omega arith) (rw tag refl) (omega arith) low
  reach to (g.stepped {h = h} {a = a} {b = b} {o = o} {s = s} {t = t} {x = x} made d) within low ends =
      let is : operator_of_punct a ≡ role.Step b = steps a b made in
      turn to 1 s x h a (role.Step b) o t (left 1 (expr (e.Postfix b x) (place_of s)) (suc h) t)
      (reach to d within (omega arith) (rw is (omega arith))) is within (omega arith) refl (omega arith) low
  reach to (g.size_call {h = h} {j = j} {o = o} {q = q} {t = t} {v = v} {x = x} {y = y} d f) within low ends =
      started to (at (k.Word w.DynamicObjectSize) o ∷ at (k.Punct p.LeftParen) q ∷ t)
      (left 1 (expr (e.SizeCall x y) o.place) (suc (max h j)) v) within
      (rw (
        full _ _ _ _ _ d (omega arith) (record { stops = omega arith; last = omega arith }),
        full _ _ _ _ _ f (omega arith) (record { stops = omega arith; last = omega arith }),
      ) refl)
  reach to (g.prefixed {l = l} {h = h} {a = a} {b = b} {o = o} {t = t} {u = u} {x = x} made d) within low ends =
      let i : IsPrefix a b l = prefix_of a b l made in
      started to (at (k.Punct a) o ∷ t) (left 2 (expr (e.Prefix b x) o.place) (suc h) u) within
      (i.no_paren n sub o t
      ∙ rw (full _ _ _ _ _ d (omega arith) (record { stops = omega (arith, i.low); last = omega (arith, i.last_is) })) refl)
  reach to (g.sizeof_expr {h = h} {o = o} {t = t} {u = u} {x = x} d) within low ends =
      started to (at (k.Word w.Sizeof) o ∷ t) (left 2 (expr (e.SizeofExpr x) o.place) (suc h) u) within
      (sized_is o.place t (no_spec_within d (omega arith))
      ∙ rw (full _ _ _ _ _ d (omega arith) (record { stops = omega arith; last = omega arith })) refl)
  reach to (g.sizeof_type {h = h} {o = o} {q = q} {t = t} {u = u} {n = m} d) within low ends =
      started to (at (k.Word w.Sizeof) o ∷ at (k.Punct p.LeftParen) q ∷ t) (left 2 (expr (e.SizeofType m) o.place) (suc h) u) within
      (rw (type_begins d, type_name_reads d (omega arith)) refl)
  reach to (g.conversion {h = h} {j = j} {o = o} {t = t} {v = v} {n = m} {x = x} d f) within low ends =
      started to (at (k.Punct p.LeftParen) o ∷ t) (left 3 (expr (e.Cast m x) o.place) (suc (max h j)) v) within
      (rw (
        type_begins d,
        type_name_reads d (omega arith),
        full _ _ _ _ _ f (omega arith) (record { stops = omega arith; last = omega arith }),
      ) refl)
  reach to (g.operation {l = l} {h = h} {j = j} {a = a} {b = b} {o = o} {s = s} {t = t} {u = u} {x = x} {y = y} made d f) within low ends =
      let i : IsInfix a b l = infix_of a b l made in
      turn to (suc l) s x h a (role.Join b l) o t (left (suc l) (expr (e.Binary b x y) o.place) (suc (max h j)) u)
      (reach to d within (omega arith) (rw i.is (omega (arith, i.last_is)))) i.is within (omega arith)
      (rw (full _ _ _ _ _ f (omega arith) (record { stops = omega (arith, i.last_is); last = omega (arith, i.last_is, last-suc l) })) refl)
      (omega arith) low
  reach to (g.choice {h = h} {j = j} {m = m} {o = o} {s = s} {t = t} {u = u} {v = v} {x = x} {y = y} {z = z} d f i) within low ends =
      turn to 13 s x h p.Question role.Choice o t (left 14 (expr (e.Cond x y z) o.place) (suc (max h (max j m))) v)
      (reach to d (omega arith) (omega arith) (omega arith)) refl within (omega arith)
      (rw (
        full _ _ _ _ _ f (omega arith) (record { stops = omega arith; last = omega arith }),
        full _ _ _ _ _ i (omega arith) (record { stops = omega arith; last = omega arith }),
      ) refl) (omega arith) low
  reach to (g.assigned {h = h} {j = j} {a = a} {b = b} {o = o} {s = s} {t = t} {u = u} {x = x} {y = y} made d f) within low ends =
      let is : operator_of_punct a ≡ role.Assign b = assigns a b made in
      turn to 2 s x h a (role.Assign b) o t (left 15 (expr (e.Assign b x y) o.place) (suc (max h j)) u)
      (reach to d (omega arith) (omega arith) (rw is (omega arith))) is within (omega arith)
      (rw (full _ _ _ _ _ f (omega arith) (record { stops = omega arith; last = omega arith })) refl) (omega arith) low
  reach to (g.comma {h = h} {j = j} {o = o} {s = s} {t = t} {u = u} {x = x} {xs = xs} d f) within low ends =
      turn to 15 s x h p.Comma role.List o t (left 16 (expr (e.Comma (x ∷ xs)) (place_of s)) (suc (max h j)) u)
      (reach to d (omega arith) (omega arith) (omega arith)) refl within (omega arith)
      (rw (exprs_read (length t) f (omega arith) (omega arith) ends) refl) (omega arith) low

  pub level_reads : (to h : ℕ) (s t : List Lexeme) (x : Expr) → IsExpr to s x h t → h ≤ suc n → Ends to t →
      level_up_to n sub to s ≡ Some (found x h t)
  level_reads to h s t x d low ends = ended to to s (found x h t) (reach to d (omega arith) low ends.last) ends.stops

-- What is in the grammar, and no higher than n, is read, where what follows doesn't go on with it.
pub expression_reads : (n : ℕ) → ReadsAll n (expression n)
unfolding expression
expression_reads zero to h s t x d low ends = absurd (omega (arith, expr_higher d))
expression_reads (suc n) to h s t x d low ends = level_reads n (expression n) (expression_reads n) to h s t x d low ends
