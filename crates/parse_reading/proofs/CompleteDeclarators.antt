-- What is in the grammar is read: declarators and specifiers with bodies.
use Rattle.std.proofs.Common.{◌≡◌, ℕ, zero, suc, ◌<◌, ◌≤◌, max, List, [], ◌∷◌, length, Option, Some, None, Bool, true, false, refl, ap, ◌∙◌, arith}
use Rattle.std.specs.Prelude.{not}
use Rattle.std.proofs.lemmas.Bool.{le-leb}
use Rattle.fc_base.specs.declared.refusals.Place.{Place}
use Rattle.c_tokens.specs.declared.puncts.Punct.TheVariants as p
use Rattle.c_tokens.specs.declared.tokens.Token.{Token}
use Rattle.c_tree.specs.declared.nodes.Expr.{Expr}
use Rattle.c_tree.specs.declared.nodes.PointerWord.{PointerWord}
use Rattle.c_tree.specs.declared.nodes.Declarator.{Declarator}
use Rattle.c_tree.specs.declared.nodes.Declarator.TheVariants as d
use Rattle.c_tree.specs.declared.nodes.Params.{Params}
use Rattle.c_tree.specs.declared.nodes.Param.{Param}
use Rattle.parse_meaning.specs.declared.terminals.Keyword.TheVariants as w
use Rattle.parse_meaning.specs.declared.terminals.Terminal.{Terminal}
use Rattle.parse_meaning.specs.declared.terminals.Terminal.TheVariants as k
use Rattle.parse_meaning.specs.Terminals.{Lexeme, at, place_of}
use Rattle.parse_reading.specs.Reading.{begins_spec, Read, found, plain_spec, stars, expression}
use Rattle.parse_meaning.specs.Specifiers.{inner}
use Rattle.parse_meaning.specs.Expressions as g
use Rattle.parse_meaning.specs.Expressions.{IsAttributeList, basic_word, IsTypeName, AreArrays, IsAbstractDirect, AreStars, AreSpecs, pointer_word, Declared, behind, other, parameters, identifier, is_void_alone, aggregate_word, ArePointerWords, IsExpr, IsAbstract, IsSpec, AreMembers, IsMember, AreDeclarators, AreEnumerators, IsEnumerator, IsDeclarator, IsDirect, AreParams, AreParamsSome, IsParam}
use Rattle.parse_reading.specs.ReadingDeclarators.{Named, as_named, names, param_named, param_abstract, param, params_some, params_list, params_void, params_in, suffixes_behind, suffixes, grouped, direct, pointer_to, pointer_of, whole_by, whole, declarator}
use Rattle.parse_reading.specs.ReadingDeclarators.{begins_right_paren, names_direct}
use Rattle.parse_meaning.proofs.Alone.{alike_shorter, alike_length, bound_moves, params_move, param_moves, declarator_moves, words_move}
use Rattle.parse_reading.proofs.CompleteParts.{begins_pointer_word, words_read, stars_read, EndsSpecs, specs_begin, specs_read, plain_read}
use Rattle.parse_reading.proofs.Complete.{ReadsAll}
use Rattle.parse_reading.proofs.Abstracts.{EndsAbstract, bound_reads, abstract_reads, abstract_ends_specs}
use Rattle.parse_reading.proofs.CompleteExprs.{expression_reads}

-- whether a declarator goes on with a token
abbrev pub goes_on : List Lexeme → Bool
goes_on (at (k.Punct p.LeftParen) o ∷ t) = true
goes_on (at (k.Punct p.LeftBracket) o ∷ t) = true
goes_on _ = false

-- declarators up to a height are read
abbrev pub ReadsNamed : ℕ → (List Lexeme → Option (Read Named)) → Type 0
ReadsNamed n deep = (h : ℕ) (s t : List Lexeme) (x : Declarator) (m : Declared) → IsDeclarator s x m h t → h ≤ n → goes_on t ≡ false →
    deep s ≡ Some (found (as_named x m) h t)

-- ---- What declarators begin with

pub direct_ends_specs : {h : ℕ} {s t : List Lexeme} {x : Declarator} {m : Declared} → IsDirect s x m h t → EndsSpecs s
direct_ends_specs g.direct_name = record { no_spec = refl; no_body = refl }
direct_ends_specs (g.direct_parens d) = record { no_spec = refl; no_body = refl }
direct_ends_specs (g.direct_array d f) = direct_ends_specs d
direct_ends_specs (g.direct_function d f) = direct_ends_specs d

pub declarator_ends_specs : {h : ℕ} {s t : List Lexeme} {x : Declarator} {m : Declared} → IsDeclarator s x m h t → EndsSpecs s
declarator_ends_specs (g.declarator_plain d) = direct_ends_specs d
declarator_ends_specs (g.declarator_pointer d f) = record { no_spec = refl; no_body = refl }

direct_no_word : {h : ℕ} {s t : List Lexeme} {x : Declarator} {m : Declared} → IsDirect s x m h t → begins_pointer_word s ≡ false
direct_no_word g.direct_name = refl
direct_no_word (g.direct_parens d) = refl
direct_no_word (g.direct_array d f) = direct_no_word d
direct_no_word (g.direct_function d f) = direct_no_word d

stars_word : (c : Terminal) (o : Token) (s : List Lexeme) (x : PointerWord) → pointer_word c ≡ Some x →
    begins_right_paren (stars s).1 ≡ false → begins_right_paren (stars (at c o ∷ s)).1 ≡ false
unfolding stars
stars_word (k.Punct p.Star) o s x e f = f
stars_word (k.Word w.Const) o s x e f = refl
stars_word (k.Word w.Restrict) o s x e f = refl
stars_word _ o s x e f = cc

stars_words : {s t : List Lexeme} {ws : List PointerWord} → ArePointerWords s ws t → begins_right_paren (stars t).1 ≡ false →
    begins_right_paren (stars s).1 ≡ false
stars_words g.no_words f = f
stars_words (g.more_words {c = c} {o = o} {x = x} {s = s} e d) f = stars_word c o s x e (stars_words d f)

-- parentheses round a declarator hold no stars alone
mutual
  unfolding stars

  direct_no_group : {h : ℕ} {s t : List Lexeme} {x : Declarator} {m : Declared} → IsDirect s x m h t →
      begins_right_paren (stars s).1 ≡ false
  direct_no_group g.direct_name = refl
  direct_no_group (g.direct_parens d) = refl
  direct_no_group (g.direct_array d f) = direct_no_group d
  direct_no_group (g.direct_function d f) = direct_no_group d

  declarator_no_group : {h : ℕ} {s t : List Lexeme} {x : Declarator} {m : Declared} → IsDeclarator s x m h t →
      begins_right_paren (stars s).1 ≡ false
  declarator_no_group (g.declarator_plain d) = direct_no_group d
  declarator_no_group (g.declarator_pointer d f) = stars_words d (direct_no_group f)

direct_names : {h : ℕ} {s t : List Lexeme} {x : Declarator} {m : Declared} → IsDirect s x m h t → names_direct s ≡ true
direct_names g.direct_name = refl
direct_names (g.direct_parens d) = ap not (declarator_no_group d)
direct_names (g.direct_array d f) = direct_names d
direct_names (g.direct_function d f) = direct_names d

direct_names_whole : {h : ℕ} {s t : List Lexeme} {x : Declarator} {m : Declared} → IsDirect s x m h t → names s ≡ names_direct s
direct_names_whole g.direct_name = refl
direct_names_whole (g.direct_parens d) = refl
direct_names_whole (g.direct_array d f) = direct_names_whole d
direct_names_whole (g.direct_function d f) = direct_names_whole d

named_is : {h : ℕ} {s t : List Lexeme} {x : Declarator} {m : Declared} → IsDeclarator s x m h t → names s ≡ true
named_is (g.declarator_plain d) = direct_names_whole d ∙ direct_names d
named_is (g.declarator_pointer d f) = rw (words_read d (direct_no_word f)) (direct_names f)

-- a parameter ends before these tokens
pub record EndsParam (t : List Lexeme) : Type 0 where
  pub abstract_ends : EndsAbstract t
  pub specs_end : EndsSpecs t
  pub unnamed : names_direct t ≡ false
  pub plain : names t ≡ names_direct t
  pub no_word : begins_pointer_word t ≡ false
  pub stops : goes_on t ≡ false

-- brackets, or the end of a parameter
record Unnamed (s : List Lexeme) : Type 0 where
  direct_is : names_direct s ≡ false
  whole_is : names s ≡ names_direct s
  no_word : begins_pointer_word s ≡ false

arrays_unnamed : {h : ℕ} {place : Place} {s t : List Lexeme} {x : Declarator} → AreArrays place s x h t → Unnamed t → Unnamed s
arrays_unnamed g.omitted e = e
arrays_unnamed (g.abstract_array d f) e = arrays_unnamed d (record { direct_is = refl; whole_is = refl; no_word = refl })

abstract_direct_unnamed : {h : ℕ} {place : Place} {s t : List Lexeme} {x : Declarator} → IsAbstractDirect place s x h t →
    Unnamed t → Unnamed s
abstract_direct_unnamed (g.abstract_arrays d) e = arrays_unnamed d e
abstract_direct_unnamed (g.abstract_group d f) e =
    record { direct_is = ap (λ l. not (begins_right_paren l.1)) (stars_read d); whole_is = refl; no_word = refl }

abstract_unnamed : {h : ℕ} {place : Place} {s t : List Lexeme} {x : Declarator} → IsAbstract place s x h t → Unnamed t → names s ≡ false
abstract_unnamed (g.abstract_plain d) e = let u = abstract_direct_unnamed d e in u.whole_is ∙ u.direct_is
abstract_unnamed (g.abstract_pointer d f) e = let u = abstract_direct_unnamed f e in rw (words_read d u.no_word) u.direct_is

module _ (n : ℕ) (sub : ℕ → List Lexeme → Option (Read Expr)) (full : ReadsAll n sub) (deep : List Lexeme → Option (Read Named))
    (deep_full : ReadsNamed n deep) where
  -- ---- Parameters

  param_reads : {h : ℕ} {s t : List Lexeme} {x : Param} → IsParam s x h t → h ≤ n → EndsParam t →
      param (suc n) sub deep s ≡ Some (found x h t)
  unfolding param param_named param_abstract
  param_reads (g.param_named d f) low ends =
      rw (
        specs_read inner n plain_spec (plain_read inner n refl) d (omega arith) (declarator_ends_specs f),
        named_is f,
        deep_full _ _ _ _ _ f (omega arith) ends.stops,
      ) refl
  param_reads (g.param_abstract {s = s} d f) low ends =
      rw (
        specs_read inner n plain_spec (plain_read inner n refl) d (omega arith) (abstract_ends_specs f ends.specs_end),
        abstract_unnamed f (record { direct_is = ends.unnamed; whole_is = ends.plain; no_word = ends.no_word }),
        abstract_reads n sub full (suc n) (place_of s) f (omega arith) (omega arith) ends.abstract_ends,
      ) refl

  comma_ends : (o : Token) (t : List Lexeme) → EndsParam (at (k.Punct p.Comma) o ∷ t)
  comma_ends o t =
      record {
        abstract_ends = record { quiet_behind = refl; no_bracket = refl };
        specs_end = record { no_spec = refl; no_body = refl };
        unnamed = refl;
        plain = refl;
        no_word = refl;
        stops = refl;
      }

  paren_ends : (o : Token) (t : List Lexeme) → EndsParam (at (k.Punct p.RightParen) o ∷ t)
  paren_ends o t =
      record {
        abstract_ends = record { quiet_behind = refl; no_bracket = refl };
        specs_end = record { no_spec = refl; no_body = refl };
        unnamed = refl;
        plain = refl;
        no_word = refl;
        stops = refl;
      }

  params_some_read : (m : ℕ) {h : ℕ} {s t : List Lexeme} {xs : List Param} → AreParamsSome s xs h t → h ≤ n → length s ≤ m →
      params_some (suc n) sub deep m s ≡ Some (found xs h t)
  unfolding params_some
  params_some_read zero (g.last_param d) low room = absurd (omega (arith, alike_shorter (param_moves d []).1))
  params_some_read zero (g.more_params d f) low room = absurd (omega (arith, alike_shorter (param_moves d []).1))
  params_some_read (suc m) (g.last_param {o = o} {t = t} d) low room = rw (param_reads d low (paren_ends o t)) refl
  params_some_read (suc m) (g.more_params {o = o} {t = t} d f) low room =
      rw (
        param_reads d (omega arith) (comma_ends o t),
        params_some_read m f (omega arith) (omega (arith, alike_shorter (param_moves d []).1)),
      ) refl

  params_begin : {h : ℕ} {s t : List Lexeme} {xs : List Param} → AreParamsSome s xs h t → begins_spec s ≡ true
  params_begin (g.last_param d) = param_begins d
    where
      param_begins : {h : ℕ} {s t : List Lexeme} {x : Param} → IsParam s x h t → begins_spec s ≡ true
      param_begins (g.param_named d f) = specs_begin d
      param_begins (g.param_abstract d f) = specs_begin d
  params_begin (g.more_params d f) = param_begins d
    where
      param_begins : {h : ℕ} {s t : List Lexeme} {x : Param} → IsParam s x h t → begins_spec s ≡ true
      param_begins (g.param_named d f) = specs_begin d
      param_begins (g.param_abstract d f) = specs_begin d

  void_is : (o : Token) (t : List Lexeme) → is_void_alone (at (k.Word w.Void) o ∷ t) ≡ false →
      params_void (suc n) sub deep o t ≡ params_list (suc n) sub deep (at (k.Word w.Void) o ∷ t)
  void_is o [] e = refl
  void_is o (at (k.Punct p.RightParen) q ∷ t) e = cc
  void_is o (at _ q ∷ t) e = refl

  params_in_is : (s : List Lexeme) → begins_spec s ≡ true → is_void_alone s ≡ false →
      params_in (suc n) sub deep s ≡ params_list (suc n) sub deep s
  params_in_is [] e f = refl
  params_in_is (at (k.Punct p.RightParen) o ∷ t) e f = cc
  params_in_is (at (k.Word w.Void) o ∷ t) e f = void_is o t f
  params_in_is (at _ o ∷ t) e f = refl

  params_read : {h : ℕ} {s t : List Lexeme} {x : Params} → AreParams s x h t → h ≤ n → params_in (suc n) sub deep s ≡ Some (found x h t)
  unfolding params_list
  params_read g.no_params low = refl
  params_read g.void_params low = refl
  params_read (g.some_params {s = s} e d) low =
      params_in_is s (params_begin d) e ∙ rw (params_some_read (length s) d low (omega arith)) refl

  -- ---- Declarators

  suffixes_bound : (m : ℕ) (start : Place) (h : ℕ) (o : Token) {j : ℕ} {t u : List Lexeme} (x : Declarator)
      (a : Declared) {y : Option Expr} → g.IsBound t y j u → j ≤ n → suc (max h j) ≤ suc n →
      suffixes (suc n) sub deep (suc m) start (found (as_named x a) h (at (k.Punct p.LeftBracket) o ∷ t))
      ≡ suffixes (suc n) sub deep m start (found (as_named (d.Array x y start) (behind a other)) (suc (max h j)) u)
  unfolding suffixes
  suffixes_bound m start h o {j} x a f low within = rw (bound_reads n sub full f low, le-leb (suc (max h j)) (suc n) within) refl

  suffixes_params : (m : ℕ) (start : Place) (h : ℕ) (o : Token) {j : ℕ} {t u : List Lexeme} (x : Declarator) (a : Declared) {y : Params} →
      AreParams t y j u → j ≤ n → suc (max h j) ≤ suc n →
      suffixes (suc n) sub deep (suc m) start (found (as_named x a) h (at (k.Punct p.LeftParen) o ∷ t))
      ≡ suffixes (suc n) sub deep m start (found (as_named (d.Function x y start) (behind a parameters)) (suc (max h j)) u)
  unfolding suffixes
  suffixes_params m start h o {j} x a f low within = rw (params_read f low, le-leb (suc (max h j)) (suc n) within) refl

  suffixes_end : (m : ℕ) (start : Place) (x : Read Named) → goes_on x.rest ≡ false → suffixes (suc n) sub deep m start x ≡ Some x
  unfolding suffixes
  suffixes_end zero start x e = go x.rest e
    where
      go : (t : List Lexeme) → goes_on t ≡ false → suffixes_behind (suc n) sub deep (λ x. None) start x t ≡ Some x
      go [] e = refl
      go (at (k.Punct p.LeftBracket) o ∷ t) e = cc
      go (at (k.Punct p.LeftParen) o ∷ t) e = cc
      go (at _ o ∷ t) e = refl
  suffixes_end (suc m) start x e = go x.rest e
    where
      go : (t : List Lexeme) → goes_on t ≡ false → suffixes_behind (suc n) sub deep (suffixes (suc n) sub deep m start) start x t ≡ Some x
      go [] e = refl
      go (at (k.Punct p.LeftBracket) o ∷ t) e = cc
      go (at (k.Punct p.LeftParen) o ∷ t) e = cc
      go (at _ o ∷ t) e = refl

  -- the reading of a direct declarator comes to x, with these turns left
  record DirectTo (inside : List Lexeme → Option (Read Named)) (s : List Lexeme) (x : Declarator) (a : Declared) (h : ℕ)
      (t : List Lexeme) : Type 0 where
    turns : ℕ
    room : length t ≤ turns
    same : direct (suc n) sub deep inside s ≡ suffixes (suc n) sub deep turns (place_of s) (found (as_named x a) h t)

  array_on : (inside : List Lexeme → Option (Read Named)) {h j : ℕ} {o : Token} {s t u : List Lexeme} {x : Declarator} {a : Declared}
      {y : Option Expr} →
      DirectTo inside s x a h (at (k.Punct p.LeftBracket) o ∷ t) → g.IsBound t y j u → j ≤ n → suc (max h j) ≤ suc n →
      DirectTo inside s (d.Array x y (place_of s)) (behind a other) (suc (max h j)) u
  array_on inside {h} {j} {o} {s} {t} {u} {x} {a} {y} r f low within = go r.turns r.room r.same
    where
      go : (m : ℕ) → suc (length t) ≤ m → direct (suc n) sub deep inside s
          ≡ suffixes (suc n) sub deep m (place_of s) (found (as_named x a) h (at (k.Punct p.LeftBracket) o ∷ t)) →
          DirectTo inside s (d.Array x y (place_of s)) (behind a other) (suc (max h j)) u
      go zero room same = absurd (omega arith)
      go (suc m) room same =
          record {
            turns = m;
            room = omega (arith, alike_shorter (bound_moves f []).1);
            same = same
                ∙ suffixes_bound m (place_of s) h o x a f low within;
          }

  function_on : (inside : List Lexeme → Option (Read Named)) {h j : ℕ} {o : Token} {s t u : List Lexeme} {x : Declarator} {a : Declared}
      {y : Params} →
      DirectTo inside s x a h (at (k.Punct p.LeftParen) o ∷ t) → AreParams t y j u → j ≤ n → suc (max h j) ≤ suc n →
      DirectTo inside s (d.Function x y (place_of s)) (behind a parameters) (suc (max h j)) u
  function_on inside {h} {j} {o} {s} {t} {u} {x} {a} {y} r f low within = go r.turns r.room r.same
    where
      go : (m : ℕ) → suc (length t) ≤ m → direct (suc n) sub deep inside s
          ≡ suffixes (suc n) sub deep m (place_of s) (found (as_named x a) h (at (k.Punct p.LeftParen) o ∷ t)) →
          DirectTo inside s (d.Function x y (place_of s)) (behind a parameters) (suc (max h j)) u
      go zero room same = absurd (omega arith)
      go (suc m) room same =
          record {
            turns = m;
            room = omega (arith, alike_shorter (params_move f []).1);
            same = same
                ∙ suffixes_params m (place_of s) h o x a f low within;
          }

  direct_ended : (inside : List Lexeme → Option (Read Named)) {h : ℕ} {s t : List Lexeme} {x : Declarator} {a : Declared} →
      DirectTo inside s x a h t → goes_on t ≡ false →
      direct (suc n) sub deep inside s ≡ Some (found (as_named x a) h t)
  direct_ended inside {h} {s} {t} {x} {a} r e = r.same ∙ suffixes_end r.turns (place_of s) (found (as_named x a) h t) e

  whole_direct : (inside : List Lexeme → Option (Read Named)) {h : ℕ} {s t : List Lexeme} {x : Declarator} {a : Declared} →
      IsDirect s x a h t → whole_by (suc n) sub deep inside s ≡ direct (suc n) sub deep inside s
  whole_direct inside g.direct_name = refl
  whole_direct inside (g.direct_parens d) = refl
  whole_direct inside (g.direct_array d f) = whole_direct inside d
  whole_direct inside (g.direct_function d f) = whole_direct inside d

  mutual
    unfolding direct grouped whole pointer_to

    direct_to : (m : ℕ) {h : ℕ} {s t : List Lexeme} {x : Declarator} {a : Declared} → IsDirect s x a h t → h ≤ suc n → length s ≤ m →
        DirectTo (whole (suc n) sub deep m) s x a h t
    direct_to m (g.direct_name {t = t}) low room = record { turns = suc (length t); room = omega arith; same = refl }
    direct_to m (g.direct_parens {o = o} {t = t} {u = u} d) low room =
        record {
          turns = suc (length t);
          room = omega (arith, alike_shorter (declarator_moves d []).1);
          same = rw (whole_reads m d low (omega arith) refl) refl;
        }
    direct_to m (g.direct_array d f) low room = array_on (whole (suc n) sub deep m) (direct_to m d (omega arith) room) f (omega arith) low
    direct_to m (g.direct_function d f) low room =
        function_on (whole (suc n) sub deep m) (direct_to m d (omega arith) room) f (omega arith) low

    whole_reads : (m : ℕ) {h : ℕ} {s t : List Lexeme} {x : Declarator} {a : Declared} → IsDeclarator s x a h t → h ≤ suc n → length s < m →
        goes_on t ≡ false →
        whole (suc n) sub deep m s ≡ Some (found (as_named x a) h t)
    whole_reads zero d low room e = absurd (omega arith)
    whole_reads (suc m) (g.declarator_plain d) low room e =
        whole_direct (whole (suc n) sub deep m) d ∙ direct_ended (whole (suc n) sub deep m) (direct_to m d low (omega arith)) e
    whole_reads (suc m) (g.declarator_pointer {o = o} {t = v} d f) low room e =
        ap (pointer_of (suc n) sub deep (whole (suc n) sub deep m) o.place) (words_read d (direct_no_word f))
        ∙ rw (direct_ended (whole (suc n) sub deep m)
        (direct_to m f (omega arith) (omega (arith, alike_length (words_move d []).1))) e) refl

mutual
  direct_higher : {h : ℕ} {s t : List Lexeme} {x : Declarator} {a : Declared} → IsDirect s x a h t → 1 ≤ h
  direct_higher g.direct_name = omega arith
  direct_higher (g.direct_parens d) = declarator_higher d
  direct_higher (g.direct_array d f) = omega arith
  direct_higher (g.direct_function d f) = omega arith

  declarator_higher : {h : ℕ} {s t : List Lexeme} {x : Declarator} {a : Declared} → IsDeclarator s x a h t → 1 ≤ h
  declarator_higher (g.declarator_plain d) = direct_higher d
  declarator_higher (g.declarator_pointer d f) = omega arith

pub declarator_reads : (n : ℕ) → ReadsNamed n (declarator n)
unfolding declarator
declarator_reads zero h s t x a d low e = absurd (omega (arith, declarator_higher d))
declarator_reads (suc n) h s t x a d low e =
    whole_reads n (expression n) (expression_reads n) (declarator n) (declarator_reads n) (suc (length s)) d low (omega arith) e
