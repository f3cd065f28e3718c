-- What is in the grammar is read: abstract declarators and type names.
use Rattle.std.proofs.Common.{◌≡◌, ℕ, zero, suc, ◌≤◌, max, List, [], ◌∷◌, Option, Some, None, Bool, true, false, refl, ap, ◌∙◌, arith, length}
use Rattle.std.specs.Prelude.{is_some}
use Rattle.std.proofs.lemmas.Bool.{le-leb}
use Rattle.fc_base.specs.declared.refusals.Place.{Place}
use Rattle.c_tokens.specs.declared.puncts.Punct.TheVariants as p
use Rattle.c_tokens.specs.declared.tokens.Token.{Token}
use Rattle.c_tree.specs.declared.nodes.Expr.{Expr}
use Rattle.c_tree.specs.declared.nodes.PointerWord.{PointerWord}
use Rattle.c_tree.specs.declared.nodes.Declarator.{Declarator}
use Rattle.c_tree.specs.declared.nodes.Declarator.TheVariants as d
use Rattle.parse_meaning.specs.declared.terminals.Keyword.TheVariants as w
use Rattle.parse_meaning.specs.declared.terminals.Terminal.{Terminal}
use Rattle.parse_meaning.specs.declared.terminals.Terminal.TheVariants as k
use Rattle.parse_meaning.specs.Terminals.{Lexeme, at, place_of}
use Rattle.parse_meaning.specs.Expressions as g
use Rattle.parse_meaning.specs.Expressions.{IsExpr, AreStrings, AreSpecs, pointer_word, AreExprs, IsTypeName, IsBound, IsAbstract, IsAbstractDirect, AreArrays, ArePointerWords, AreStars, binary_operator, assignment_operator, prefix_operator, postfix_operator, member_operator, constant_of, expr}
use Rattle.parse_reading.specs.Reading.{Read, found, bound_some, bound, arrays_behind, arrays, group_behind, group_of, abstract_direct, abstract_pointer, abstract_pointer_of, abstract}
use Rattle.parse_meaning.proofs.Alone.{alike_shorter, bound_moves}
use Rattle.parse_reading.proofs.CompleteParts.{begins_pointer_word, words_read, stars_read, EndsSpecs}
use Rattle.parse_reading.proofs.Complete.{begins_expr, expr_begins, ReadsAll}

-- ---- What stands behind an abstract declarator

-- no parenthesis that opens, and no word of a pointer
abbrev pub is_quiet : Terminal → Bool
is_quiet (k.Punct p.LeftParen) = false
is_quiet (k.Punct p.Star) = false
is_quiet (k.Word w.Const) = false
is_quiet (k.Word w.Restrict) = false
is_quiet _ = true

abbrev pub quiet : List Lexeme → Bool
quiet [] = true
quiet (at c o ∷ t) = is_quiet c

abbrev pub begins_bracket : List Lexeme → Bool
begins_bracket (at (k.Punct p.LeftBracket) o ∷ t) = true
begins_bracket _ = false

quiet_terminal : (c : Terminal) → is_quiet c ≡ true → is_some (pointer_word c) ≡ false
quiet_terminal (k.Punct p.Star) e = cc
quiet_terminal (k.Word w.Const) e = cc
quiet_terminal (k.Word w.Restrict) e = cc
quiet_terminal _ e = refl

quiet_word : (s : List Lexeme) → quiet s ≡ true → begins_pointer_word s ≡ false
quiet_word [] e = refl
quiet_word (at c o ∷ t) e = quiet_terminal c e

-- an abstract declarator ends before these tokens
pub record EndsAbstract (t : List Lexeme) : Type 0 where
  pub quiet_behind : quiet t ≡ true
  pub no_bracket : begins_bracket t ≡ false

arrays_begin : {h : ℕ} {place : Place} {s t : List Lexeme} {x : Declarator} → AreArrays place s x h t → quiet t ≡ true → quiet s ≡ true
arrays_begin g.omitted e = e
arrays_begin (g.abstract_array d f) e = arrays_begin d refl

module _ (n : ℕ) (sub : ℕ → List Lexeme → Option (Read Expr)) (full : ReadsAll n sub) where
  -- ---- Abstract declarators and type names

  bound_is : (s : List Lexeme) → begins_expr s ≡ true → bound sub s ≡ bound_some sub s
  bound_is [] e = refl
  bound_is (at (k.Punct p.RightBracket) o ∷ t) e = cc
  bound_is (at _ o ∷ t) e = refl

  pub bound_reads : {h : ℕ} {s t : List Lexeme} {x : Option Expr} → IsBound s x h t → h ≤ n → bound sub s ≡ Some (found x h t)
  unfolding bound_some
  bound_reads g.no_bound low = refl
  bound_reads (g.bound d) low =
      bound_is _ (expr_begins d) ∙ rw (full _ _ _ _ _ d low (record { stops = omega arith; last = omega arith })) refl

  module _ (limit : ℕ) (place : Place) where
    -- the reading of arrays comes to x, with these turns left
    record ArraysTo (s : List Lexeme) (x : Declarator) (h : ℕ) (t : List Lexeme) : Type 0 where
      turns : ℕ
      room : length t ≤ turns
      same : arrays sub limit place (length s) (place_of s) (found (d.Omitted place) 1 s)
          ≡ arrays sub limit place turns (place_of s) (found x h t)

    arrays_turn : (m : ℕ) (start : Place) (h : ℕ) {j : ℕ} (o : Token) {t u : List Lexeme} (x : Declarator) {y : Option Expr} →
        IsBound t y j u → j ≤ n → suc (max h j) ≤ limit →
        arrays sub limit place (suc m) start (found x h (at (k.Punct p.LeftBracket) o ∷ t))
        ≡ arrays sub limit place m start (found (d.Array x y start) (suc (max h j)) u)
    unfolding arrays
    arrays_turn m start h {j} o x f low within = rw (bound_reads f low, le-leb (suc (max h j)) limit within) refl

    arrays_on : {h j : ℕ} {o : Token} {s t u : List Lexeme} {x : Declarator} {y : Option Expr} →
        ArraysTo s x h (at (k.Punct p.LeftBracket) o ∷ t) → IsBound t y j u → j ≤ n → suc (max h j) ≤ limit →
        ArraysTo s (d.Array x y (place_of s)) (suc (max h j)) u
    arrays_on {h} {j} {o} {s} {t} {u} {x} {y} r f low within = go r.turns r.room r.same
      where
        go : (m : ℕ) → suc (length t) ≤ m → arrays sub limit place (length s) (place_of s) (found (d.Omitted place) 1 s)
            ≡ arrays sub limit place m (place_of s) (found x h (at (k.Punct p.LeftBracket) o ∷ t)) →
            ArraysTo s (d.Array x y (place_of s)) (suc (max h j)) u
        go zero room same = absurd (omega arith)
        go (suc m) room same =
            record {
              turns = m;
              room = omega (arith, alike_shorter (bound_moves f []).1);
              same = same
                  ∙ arrays_turn m (place_of s) h o x f low within;
            }

    arrays_to : {h : ℕ} {s t : List Lexeme} {x : Declarator} → AreArrays place s x h t → h ≤ suc n → h ≤ limit → ArraysTo s x h t
    arrays_to (g.omitted {t = t}) low within = record { turns = length t; room = omega arith; same = refl }
    arrays_to (g.abstract_array d f) low within = arrays_on (arrays_to d (omega arith) (omega arith)) f (omega arith) within

    arrays_end : (m : ℕ) (start : Place) (x : Declarator) (h : ℕ) (t : List Lexeme) → begins_bracket t ≡ false →
        arrays sub limit place m start (found x h t) ≡ Some (found x h t)
    unfolding arrays
    arrays_end zero start x h t e = go t e
      where
        go : (t : List Lexeme) → begins_bracket t ≡ false →
            arrays_behind sub limit place (λ x. None) start (found x h t) t ≡ Some (found x h t)
        go [] e = refl
        go (at (k.Punct p.LeftBracket) o ∷ t) e = cc
        go _ e = refl
    arrays_end (suc m) start x h t e = go t e
      where
        go : (t : List Lexeme) → begins_bracket t ≡ false →
            arrays_behind sub limit place (arrays sub limit place m start) start (found x h t) t ≡ Some (found x h t)
        go [] e = refl
        go (at (k.Punct p.LeftBracket) o ∷ t) e = cc
        go _ e = refl

    arrays_read : {h : ℕ} {s t : List Lexeme} {x : Declarator} → AreArrays place s x h t → h ≤ suc n → h ≤ limit →
        begins_bracket t ≡ false →
        arrays sub limit place (length s) (place_of s) (found (d.Omitted place) 1 s) ≡ Some (found x h t)
    arrays_read {h} {s} {t} {x} d low within e = let r = arrays_to d low within in r.same ∙ arrays_end r.turns (place_of s) x h t e

    quiet_direct : (s : List Lexeme) → quiet s ≡ true →
        abstract_direct sub limit place s ≡ arrays sub limit place (length s) (place_of s) (found (d.Omitted place) 1 s)
    quiet_direct [] e = refl
    quiet_direct (at (k.Punct p.LeftParen) o ∷ t) e = cc
    quiet_direct (at _ o ∷ t) e = refl

    some_stars : {s t : List Lexeme} {ws : List PointerWord} {o : Token} (start star : Place) →
        AreStars s ws (at (k.Punct p.RightParen) o ∷ t) →
        group_of sub limit place start star (ws, at (k.Punct p.RightParen) o ∷ t)
        ≡ group_behind sub limit place start star ws (at (k.Punct p.RightParen) o ∷ t)
    some_stars start star g.one_star = refl
    some_stars start star (g.more_stars d) = refl

    direct_reads : {h : ℕ} {s t : List Lexeme} {x : Declarator} → IsAbstractDirect place s x h t → h ≤ suc n → h ≤ limit → EndsAbstract t →
        abstract_direct sub limit place s ≡ Some (found x h t)
    unfolding group_behind
    direct_reads (g.abstract_arrays {s = s} d) low within ends =
        quiet_direct s (arrays_begin d ends.quiet_behind) ∙ arrays_read d low within ends.no_bracket
    direct_reads (g.abstract_group {o = o} {s = s} d f) low within ends =
        ap (group_of sub limit place o.place (place_of s)) (stars_read d) ∙ some_stars o.place (place_of s) d
        ∙ rw (bound_reads f (omega arith)) refl

    quiet_abstract : (s : List Lexeme) → quiet s ≡ true → abstract sub limit place s ≡ abstract_direct sub limit place s
    quiet_abstract [] e = refl
    quiet_abstract (at (k.Punct p.Star) o ∷ t) e = cc
    quiet_abstract (at _ o ∷ t) e = refl

    direct_plain : {h : ℕ} {s t : List Lexeme} {x : Declarator} → IsAbstractDirect place s x h t → quiet t ≡ true →
        abstract sub limit place s ≡ abstract_direct sub limit place s
    direct_plain (g.abstract_arrays {s = s} d) e = quiet_abstract s (arrays_begin d e)
    direct_plain (g.abstract_group d f) e = refl

    direct_no_word : {h : ℕ} {s t : List Lexeme} {x : Declarator} → IsAbstractDirect place s x h t → quiet t ≡ true →
        begins_pointer_word s ≡ false
    direct_no_word (g.abstract_arrays {s = s} d) e = quiet_word s (arrays_begin d e)
    direct_no_word (g.abstract_group d f) e = refl

    pub abstract_reads : {h : ℕ} {s t : List Lexeme} {x : Declarator} → IsAbstract place s x h t → h ≤ suc n → h ≤ limit → EndsAbstract t →
        abstract sub limit place s ≡ Some (found x h t)
    unfolding abstract_pointer
    abstract_reads (g.abstract_plain d) low within ends = direct_plain d ends.quiet_behind ∙ direct_reads d low within ends
    abstract_reads (g.abstract_pointer {o = o} d f) low within ends =
        ap (abstract_pointer_of sub limit place o.place) (words_read d (direct_no_word f ends.quiet_behind))
        ∙ rw (direct_reads f (omega arith) (omega arith) ends) refl

pub arrays_end_specs : {h : ℕ} {place : Place} {s t : List Lexeme} {x : Declarator} → AreArrays place s x h t → EndsSpecs t → EndsSpecs s
arrays_end_specs g.omitted e = e
arrays_end_specs (g.abstract_array d f) e = arrays_end_specs d (record { no_spec = refl; no_body = refl })

pub abstract_ends_specs : {h : ℕ} {place : Place} {s t : List Lexeme} {x : Declarator} → IsAbstract place s x h t →
    EndsSpecs t → EndsSpecs s
abstract_ends_specs (g.abstract_plain (g.abstract_arrays d)) e = arrays_end_specs d e
abstract_ends_specs (g.abstract_plain (g.abstract_group d f)) e = record { no_spec = refl; no_body = refl }
abstract_ends_specs (g.abstract_pointer d f) e = record { no_spec = refl; no_body = refl }
