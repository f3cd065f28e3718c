-- What is in the grammar is read: specifiers with bodies.
use Rattle.std.proofs.Common.{◌≡◌, ℕ, zero, suc, ◌≤◌, List, [], ◌∷◌, length, Option, Some, None, Bool, true, false, refl, ap, ◌∙◌, arith}
use Rattle.fc_base.specs.declared.refusals.Place.{Place}
use Rattle.c_tokens.specs.declared.puncts.Punct.TheVariants as p
use Rattle.c_tokens.specs.declared.tokens.Token.{Token}
use Rattle.c_tree.specs.declared.nodes.Attribute.{Attribute}
use Rattle.c_tree.specs.declared.nodes.Expr.{Expr}
use Rattle.c_tree.specs.declared.nodes.Spec.{Spec}
use Rattle.c_tree.specs.declared.nodes.Spec.TheVariants as spec
use Rattle.c_tree.specs.declared.nodes.Aggregate.{Aggregate}
use Rattle.c_tree.specs.declared.nodes.Aggregate.TheVariants as aggregate
use Rattle.c_tree.specs.declared.nodes.MemberDecl.{MemberDecl}
use Rattle.c_tree.specs.declared.nodes.Enumerator.{Enumerator, roll-Enumerator}
use Rattle.c_tree.specs.declared.nodes.Declarator.{Declarator}
use Rattle.parse_meaning.specs.declared.terminals.Keyword.TheVariants as w
use Rattle.parse_meaning.specs.declared.terminals.Terminal.{Terminal}
use Rattle.parse_meaning.specs.declared.terminals.Terminal.TheVariants as k
use Rattle.parse_meaning.specs.Terminals.{Lexeme, at, is_tag}
use Rattle.parse_reading.specs.Reading.{begins_spec, Read, found, prepended, Counted, plain_spec, expression}
use Rattle.parse_meaning.specs.declared.terminals.Keyword.{Keyword}
use Rattle.parse_meaning.specs.Specifiers.{Context, outer, inner, Tally, whole_type}
use Rattle.parse_meaning.specs.Expressions as g
use Rattle.parse_meaning.specs.Expressions.{IsAttributeList, basic_word, IsTypeName, AreArrays, IsAbstractDirect, AreStars, AreSpecs, pointer_word, Declared, behind, other, parameters, identifier, is_void_alone, aggregate_word, ArePointerWords, IsExpr, IsAbstract, IsSpec, AreMembers, IsMember, AreDeclarators, AreEnumerators, IsEnumerator, IsDeclarator, IsDirect, AreParams, AreParamsSome, IsParam}
use Rattle.parse_reading.specs.ReadingDeclarators.{Named, declarator, enumerator_valued, enumerator_behind, enumerator, enumerators_comma, enumerators, declarators, member_decl, members_behind, members, untagged, tagged, tagged_behind, aggregate_spec, enum_untagged, enum_tagged, enum_behind, enum_spec, spec_by, outer_spec}
use Rattle.c_tree.specs.declared.nodes.BasicWord.{BasicWord}
use Rattle.parse_meaning.proofs.Alone.{alike_shorter, declarator_moves, member_moves, enumerator_moves}
use Rattle.parse_reading.proofs.CompleteParts.{one_of, EndsSpecs, begins_brace, specs_begin, specs_read, plain_reads, ReadsSpecs}
use Rattle.parse_reading.proofs.Complete.{Ends, ReadsAll}
use Rattle.parse_reading.proofs.CompleteExprs.{expression_reads}
use Rattle.parse_reading.proofs.CompleteDeclarators.{ReadsNamed, declarator_ends_specs, declarator_reads}

abbrev begins_assign : List Lexeme → Bool
begins_assign (at (k.Punct p.Assign) o ∷ t) = true
begins_assign _ = false

module _ (n : ℕ) (sub : ℕ → List Lexeme → Option (Read Expr)) (full : ReadsAll n sub) where
  -- an enumerator ends before these tokens
  record EndsEnumerator (t : List Lexeme) : Type 0 where
    no_value : begins_assign t ≡ false
    value_ends : Ends g.conditional t

  enumerator_plain : (o : Token) (t : List Lexeme) → begins_assign t ≡ false →
      enumerator_behind sub o t ≡ Some (found (roll-Enumerator (record { name = identifier o; value = None })) 0 t)
  enumerator_plain o [] e = refl
  enumerator_plain o (at (k.Punct p.Assign) q ∷ t) e = cc
  enumerator_plain o (at _ q ∷ t) e = refl

  enumerator_reads : {h : ℕ} {s t : List Lexeme} {x : Enumerator} → IsEnumerator s x h t → h ≤ n → EndsEnumerator t →
      enumerator sub s ≡ Some (found x h t)
  unfolding enumerator_valued
  enumerator_reads (g.enumerator {o = o} {t = t}) low ends = enumerator_plain o t ends.no_value
  enumerator_reads (g.enumerator_valued d) low ends = rw (full _ _ _ _ _ d low ends.value_ends) refl

  comma_ends : (o : Token) (t : List Lexeme) → EndsEnumerator (at (k.Punct p.Comma) o ∷ t)
  comma_ends o t = record { no_value = refl; value_ends = record { stops = omega arith; last = omega arith } }

  brace_ends : (o : Token) (t : List Lexeme) → EndsEnumerator (at (k.Punct p.RightBrace) o ∷ t)
  brace_ends o t = record { no_value = refl; value_ends = record { stops = omega arith; last = omega arith } }

  -- another enumerator behind a comma
  comma_is : (later : List Lexeme → Option (Read (List Enumerator))) (x : Read Enumerator) {h : ℕ} {s t : List Lexeme} {y : Enumerator} →
      IsEnumerator s y h t →
      enumerators_comma sub later x s ≡ prepended (x.tree ∷ []) x.height (later s)
  comma_is later x g.enumerator = refl
  comma_is later x (g.enumerator_valued d) = refl

  commas_are : (later : List Lexeme → Option (Read (List Enumerator)))
      (x : Read Enumerator) {h : ℕ} {s t : List Lexeme} {ys : List Enumerator} → AreEnumerators s ys h t →
      enumerators_comma sub later x s ≡ prepended (x.tree ∷ []) x.height (later s)
  commas_are later x (g.last_enumerator d) = comma_is later x d
  commas_are later x (g.last_enumerator_comma d) = comma_is later x d
  commas_are later x (g.more_enumerators d f) = comma_is later x d

  enumerators_read : (m : ℕ) {h : ℕ} {s t : List Lexeme} {xs : List Enumerator} → AreEnumerators s xs h t → h ≤ n → length s ≤ m →
      enumerators sub m s ≡ Some (found xs h t)
  unfolding enumerators
  enumerators_read zero (g.last_enumerator d) low room = absurd (omega (arith, alike_shorter (enumerator_moves d []).1))
  enumerators_read zero (g.last_enumerator_comma d) low room = absurd (omega (arith, alike_shorter (enumerator_moves d []).1))
  enumerators_read zero (g.more_enumerators d f) low room = absurd (omega (arith, alike_shorter (enumerator_moves d []).1))
  enumerators_read (suc m) (g.last_enumerator {o = o} {t = t} d) low room = rw (enumerator_reads d low (brace_ends o t)) refl
  enumerators_read (suc m) (g.last_enumerator_comma {o = o} {q = q} {t = t} d) low room =
      rw (enumerator_reads d low (comma_ends o (at (k.Punct p.RightBrace) q ∷ t))) refl
  enumerators_read (suc m) (g.more_enumerators {h = h} {o = o} {t = t} {x = x} d f) low room =
      rw (enumerator_reads d (omega arith) (comma_ends o t))
      (commas_are (enumerators sub m) (found x h (at (k.Punct p.Comma) o ∷ t)) f
      ∙ rw (enumerators_read m f (omega arith) (omega (arith, alike_shorter (enumerator_moves d []).1))) refl)

  module _ (deep : List Lexeme → Option (Read Named)) (deep_full : ReadsNamed n deep) where
    declarators_read : (m : ℕ) {h : ℕ} {s t : List Lexeme} {xs : List Declarator} → AreDeclarators s xs h t → h ≤ n → length s ≤ m →
        declarators deep m s ≡ Some (found xs h t)
    unfolding declarators
    declarators_read zero (g.last_declarator d) low room = absurd (omega (arith, alike_shorter (declarator_moves d []).1))
    declarators_read zero (g.more_declarators d f) low room = absurd (omega (arith, alike_shorter (declarator_moves d []).1))
    declarators_read (suc m) (g.last_declarator d) low room = rw (deep_full _ _ _ _ _ d low refl) refl
    declarators_read (suc m) (g.more_declarators d f) low room =
        rw (
          deep_full _ _ _ _ _ d (omega arith) refl,
          declarators_read m f (omega arith) (omega (arith, alike_shorter (declarator_moves d []).1)),
        ) refl

    declarators_end_specs : {h : ℕ} {s t : List Lexeme} {xs : List Declarator} → AreDeclarators s xs h t → EndsSpecs s
    declarators_end_specs (g.last_declarator d) = declarator_ends_specs d
    declarators_end_specs (g.more_declarators d f) = declarator_ends_specs d

    module _ (one : List Lexeme → Option (Read Counted)) (one_full : ReadsSpecs outer n one) where
      member_reads : {h : ℕ} {s t : List Lexeme} {x : MemberDecl} → IsMember s x h t → h ≤ n → member_decl deep one s ≡ Some (found x h t)
      unfolding member_decl
      member_reads (g.member_decl {t = t} d f) low =
          rw (
            specs_read outer n one one_full d (omega arith) (declarators_end_specs f),
            declarators_read (length t) f (omega arith) (omega arith),
          ) refl

      members_more : (later : List Lexeme → Option (Read (List MemberDecl))) (x : Read MemberDecl) (t : List Lexeme) →
          begins_spec t ≡ true →
          members_behind deep one later x t ≡ prepended (x.tree ∷ []) x.height (later t)
      members_more later x [] e = refl
      members_more later x (at (k.Punct p.RightBrace) o ∷ t) e = cc
      members_more later x (at _ o ∷ t) e = refl

      member_begins : {h : ℕ} {s t : List Lexeme} {x : MemberDecl} → IsMember s x h t → begins_spec s ≡ true
      member_begins (g.member_decl d f) = specs_begin d

      members_begin : {h : ℕ} {s t : List Lexeme} {xs : List MemberDecl} → AreMembers s xs h t → begins_spec s ≡ true
      members_begin (g.last_member d) = member_begins d
      members_begin (g.more_members d f) = member_begins d

      members_read : (m : ℕ) {h : ℕ} {s t : List Lexeme} {xs : List MemberDecl} → AreMembers s xs h t → h ≤ n → length s ≤ m →
          members deep one m s ≡ Some (found xs h t)
      unfolding members
      members_read zero (g.last_member d) low room = absurd (omega (arith, alike_shorter (member_moves d []).1))
      members_read zero (g.more_members d f) low room = absurd (omega (arith, alike_shorter (member_moves d []).1))
      members_read (suc m) (g.last_member d) low room = rw (member_reads d low) refl
      members_read (suc m) (g.more_members {h = h} {t = t} {x = x} d f) low room =
          rw (member_reads d (omega arith))
          (members_more (members deep one m) (found x h t) t (members_begin f)
          ∙ rw (members_read m f (omega arith) (omega (arith, alike_shorter (member_moves d []).1))) refl)

      -- ---- Specifiers

      basic_is_plain : (word : Keyword) (x : BasicWord × Tally) (o : Token) (t : List Lexeme) → basic_word word ≡ Some x →
          spec_by sub deep one (at (k.Word word) o ∷ t) ≡ plain_spec (at (k.Word word) o ∷ t)
      basic_is_plain w.Struct x o t e = cc
      basic_is_plain w.Union x o t e = cc
      basic_is_plain w.Enum x o t e = cc
      basic_is_plain _ x o t e = refl

      list_is_plain : {s t : List Lexeme} {xs : List Attribute} → IsAttributeList s xs t → spec_by sub deep one s ≡ plain_spec s
      list_is_plain g.empty_attributes = refl
      list_is_plain (g.some_attributes d) = refl

      aggregate_is : (word : Keyword) (a : Aggregate) (o : Token) (t : List Lexeme) → aggregate_word word ≡ Some a →
          spec_by sub deep one (at (k.Word word) o ∷ t) ≡ aggregate_spec sub deep one a o.place t
      aggregate_is w.Struct a o t e = let same : aggregate.Struct ≡ a = cc in ap (λ a. aggregate_spec sub deep one a o.place t) same
      aggregate_is w.Union a o t e = let same : aggregate.Union ≡ a = cc in ap (λ a. aggregate_spec sub deep one a o.place t) same
      aggregate_is _ a o t e = cc

      tag_is : (a : Aggregate) (b : Terminal) (place : Place) (q : Token) (t : List Lexeme) → is_tag b ≡ true →
          aggregate_spec sub deep one a place (at b q ∷ t) ≡ tagged_behind sub deep one a place q t
      tag_is a k.Name place q t e = refl
      tag_is a k.Type place q t e = refl
      tag_is a _ place q t e = cc

      no_body_is : (a : Aggregate) (place : Place) (q : Token) (t : List Lexeme) → begins_brace t ≡ false →
          tagged_behind sub deep one a place q t ≡ one_of (spec.Tagged a (identifier q) None place) whole_type 1 t
      no_body_is a place q [] e = refl
      no_body_is a place q (at (k.Punct p.LeftBrace) o ∷ t) e = cc
      no_body_is a place q (at _ o ∷ t) e = refl

      enum_tag_is : (b : Terminal) (place : Place) (q : Token) (t : List Lexeme) → is_tag b ≡ true →
          enum_spec sub deep one place (at b q ∷ t) ≡ enum_behind sub deep one place q t
      enum_tag_is k.Name place q t e = refl
      enum_tag_is k.Type place q t e = refl
      enum_tag_is _ place q t e = cc

      no_list_is : (place : Place) (q : Token) (t : List Lexeme) → begins_brace t ≡ false →
          enum_behind sub deep one place q t ≡ one_of (spec.EnumTag (identifier q) place) whole_type 1 t
      no_list_is place q [] e = refl
      no_list_is place q (at (k.Punct p.LeftBrace) o ∷ t) e = cc
      no_list_is place q (at _ o ∷ t) e = refl

      spec_by_reads : {a : Tally} {h : ℕ} {s t : List Lexeme} {x : Spec} → IsSpec outer s x a h t → h ≤ suc n → begins_brace t ≡ false →
          spec_by sub deep one s ≡ one_of x a h t
      unfolding untagged tagged enum_untagged enum_tagged
      spec_by_reads g.spec_typedef low e = refl
      spec_by_reads g.spec_extern low e = refl
      spec_by_reads g.spec_static low e = refl
      spec_by_reads g.spec_inline low e = refl
      spec_by_reads g.spec_const low e = refl
      spec_by_reads (g.spec_attributes d) low e = list_is_plain d ∙ plain_reads {c = inner} (g.spec_attributes d) refl
      spec_by_reads (g.spec_basic {word = word} {x = x} {a = a} {o = o} {t = t} f) low e =
          basic_is_plain word (x, a) o t f ∙ plain_reads {c = inner} (g.spec_basic {o = o} f) refl
      spec_by_reads g.spec_type low e = refl
      spec_by_reads (g.spec_tag {word = word} {a = a} {b = b} {o = o} {q = q} {t = t} f tag) low e =
          aggregate_is word a o (at b q ∷ t) f ∙ tag_is a b o.place q t tag ∙ no_body_is a o.place q t e
      spec_by_reads (g.spec_body {word = word} {a = a} {b = b} {o = o} {q = q} {r = r} {t = t} f i tag j) low e =
          aggregate_is word a o (at b q ∷ at (k.Punct p.LeftBrace) r ∷ t) i ∙ tag_is a b o.place q (at (k.Punct p.LeftBrace) r ∷ t) tag
          ∙ rw (members_read (length t) j (omega arith) (omega arith)) refl
      spec_by_reads (g.spec_untagged {word = word} {a = a} {o = o} {r = r} {t = t} f i j) low e =
          aggregate_is word a o (at (k.Punct p.LeftBrace) r ∷ t) i ∙ rw (members_read (length t) j (omega arith) (omega arith)) refl
      spec_by_reads (g.spec_enum_tag {b = b} {o = o} {q = q} {t = t} tag) low e = enum_tag_is b o.place q t tag ∙ no_list_is o.place q t e
      spec_by_reads (g.spec_enum_body {b = b} {o = o} {q = q} {r = r} {t = t} f tag j) low e =
          enum_tag_is b o.place q (at (k.Punct p.LeftBrace) r ∷ t) tag ∙ rw (enumerators_read (length t) j (omega arith) (omega arith)) refl
      spec_by_reads (g.spec_enum_untagged {t = t} f j) low e = rw (enumerators_read (length t) j (omega arith) (omega arith)) refl

spec_higher : {c : Context} {a : Tally} {h : ℕ} {s t : List Lexeme} {x : Spec} → IsSpec c s x a h t → 1 ≤ h
spec_higher (g.spec_body f i tag j) = omega arith
spec_higher _ = omega arith

pub outer_spec_reads : (n : ℕ) → ReadsSpecs outer n (outer_spec n)
unfolding outer_spec
outer_spec_reads zero a h s t x d low e = absurd (omega (arith, spec_higher d))
outer_spec_reads (suc n) a h s t x d low e =
    spec_by_reads n (expression n) (expression_reads n) (declarator n) (declarator_reads n) (outer_spec n) (outer_spec_reads n) d low e
