-- What is read is in the grammar: declarators and specifiers with bodies.
use Rattle.std.proofs.Common.{◌≡◌, ℕ, zero, suc, max, List, [], ◌∷◌, length, Option, Some, None, true, false, refl, subst}
use Rattle.std.specs.Prelude.{IfSome, if◌then◌else◌, nat_le}
use Rattle.c_tokens.specs.declared.puncts.Punct.TheVariants as p
use Rattle.c_tokens.specs.declared.tokens.Token.{Token}
use Rattle.c_tree.specs.declared.nodes.Expr.{Expr}
use Rattle.c_tree.specs.declared.nodes.Aggregate.{Aggregate}
use Rattle.c_tree.specs.declared.nodes.MemberDecl.{MemberDecl}
use Rattle.c_tree.specs.declared.nodes.Enumerator.{Enumerator}
use Rattle.c_tree.specs.declared.nodes.PointerWord.{PointerWord}
use Rattle.c_tree.specs.declared.nodes.Declarator.{Declarator}
use Rattle.c_tree.specs.declared.nodes.Param.{Param}
use Rattle.parse_meaning.specs.declared.terminals.Keyword.TheVariants as w
use Rattle.parse_meaning.specs.declared.terminals.Terminal.{Terminal}
use Rattle.parse_meaning.specs.declared.terminals.Terminal.TheVariants as k
use Rattle.parse_meaning.specs.Terminals.{Lexeme, at, is_tag, place_of}
use Rattle.parse_reading.specs.Reading.{Read, prepended, after_right_paren, Counted, Specs, plain_spec, specs_in, pointer_words, bound, abstract, expression}
use Rattle.parse_meaning.specs.declared.terminals.Keyword.{Keyword}
use Rattle.parse_meaning.specs.Specifiers.{outer, inner}
use Rattle.parse_meaning.specs.Expressions as g
use Rattle.parse_meaning.specs.Expressions.{Declared, behind, other, parameters, identifier, is_void_alone, aggregate_word, ArePointerWords, IsExpr, IsAbstract, IsSpec, AreMembers, IsMember, AreDeclarators, AreEnumerators, IsEnumerator, IsDeclarator, IsDirect, AreParams, AreParamsSome, IsParam}
use Rattle.parse_reading.specs.ReadingDeclarators.{Named, names, param_named, param_abstract, param, params_behind, params_some, params_list, params_void, params_in, suffixes_behind, suffixes, grouped, first, direct, pointer_to, pointer_of, whole_by, whole, declarator, enumerator_valued, enumerator_behind, enumerator, enumerators_comma, enumerators_behind, enumerators, declarators_behind, declarators, member_decl, members_behind, members, untagged, tagged, tagged_behind, aggregate_spec, enum_untagged, enum_tagged, enum_behind, enum_spec, spec_by, outer_spec}
use Rattle.parse_reading.proofs.Basics.{bind_all, if_all, weaken, Found, after_right_paren_sound}
use Rattle.parse_reading.proofs.SoundParts.{pointer_words_sound, AreCounted, IsCountedIn, specs_in_sound, plain_sound_in}
use Rattle.parse_reading.proofs.Sound.{Spells, bound_sound, abstract_sound, expression_sound}

pub record FoundNamed (s : List Lexeme) (r : Read Named) : Type 0 where
  pub derives : IsDeclarator s r.tree.tree r.tree.declared r.height r.rest

pub record FoundDirect (s : List Lexeme) (r : Read Named) : Type 0 where
  pub derives : IsDirect s r.tree.tree r.tree.declared r.height r.rest

module _ (n limit : ℕ) (sub : ℕ → List Lexeme → Option (Read Expr)) (sound : (to : ℕ) (s : List Lexeme) → IfSome (sub to s) (Spells n to s))
    (deep : List Lexeme → Option (Read Named)) (deep_sound : (s : List Lexeme) → IfSome (deep s) (FoundNamed s)) where
  named_sound : (s : List Lexeme) (xs : Read Specs) → AreCounted inner s xs → IfSome (param_named limit sub deep xs) (Found IsParam s)
  unfolding param_named
  named_sound s xs d = bind_all _ _ (deep xs.rest) _ (deep_sound xs.rest) (λ x f. record { derives = g.param_named d.derives f.derives })

  abstract_param_sound : (s : List Lexeme) (xs : Read Specs) → AreCounted inner s xs →
      IfSome (param_abstract limit sub deep (place_of s) xs) (Found IsParam s)
  unfolding param_abstract
  abstract_param_sound s xs d =
      bind_all _ _ (abstract sub limit (place_of s) xs.rest) _ (abstract_sound n sub sound limit (place_of s) xs.rest)
      (λ x f. record { derives = g.param_abstract d.derives f.derives })

  param_sound : (s : List Lexeme) → IfSome (param limit sub deep s) (Found IsParam s)
  unfolding param
  param_sound s =
      bind_all _ _ (specs_in plain_spec inner s) _ (specs_in_sound inner plain_spec (plain_sound_in inner) s) (λ xs d.
      if_all _ (names xs.rest) _ _ (λ _. named_sound s xs d) (λ _. abstract_param_sound s xs d))

  params_behind_sound : (later : List Lexeme → Option (Read (List Param))) →
      ((s : List Lexeme) → IfSome (later s) (Found AreParamsSome s)) → (s : List Lexeme) (x : Read Param) (t : List Lexeme) →
      IsParam s x.tree x.height t → IfSome (params_behind limit sub deep later x t) (Found AreParamsSome s)
  params_behind_sound later h s x [] d = tt
  params_behind_sound later h s x (at (k.Punct p.Comma) o ∷ t) d =
      bind_all _ _ (later t) _ (h t) (λ xs f. record { derives = g.more_params d f.derives })
  params_behind_sound later h s x (at (k.Punct p.RightParen) o ∷ t) d = record { derives = g.last_param d }
  params_behind_sound later h s x _ d = tt

  params_some_sound : (m : ℕ) (s : List Lexeme) → IfSome (params_some limit sub deep m s) (Found AreParamsSome s)
  unfolding params_some
  params_some_sound zero s = tt
  params_some_sound (suc m) s =
      bind_all _ _ (param limit sub deep s) _ (param_sound s)
      (λ x d. params_behind_sound (params_some limit sub deep m) (params_some_sound m) s x x.rest d.derives)

  params_list_sound : (s : List Lexeme) → is_void_alone s ≡ false → IfSome (params_list limit sub deep s) (Found AreParams s)
  unfolding params_list
  params_list_sound s e =
      bind_all _ _ (params_some limit sub deep (length s) s) _ (params_some_sound (length s) s)
      (λ xs d. record { derives = g.some_params e d.derives })

  params_void_sound : (o : Token) (t : List Lexeme) → IfSome (params_void limit sub deep o t) (Found AreParams (at (k.Word w.Void) o ∷ t))
  params_void_sound o [] = params_list_sound (at (k.Word w.Void) o ∷ []) refl
  params_void_sound o (at (k.Punct p.RightParen) q ∷ t) = record { derives = g.void_params }
  params_void_sound o (q ∷ t) = params_list_sound (at (k.Word w.Void) o ∷ q ∷ t) refl

  pub params_in_sound : (s : List Lexeme) → IfSome (params_in limit sub deep s) (Found AreParams s)
  params_in_sound [] = params_list_sound [] refl
  params_in_sound (at (k.Punct p.RightParen) o ∷ t) = record { derives = g.no_params }
  params_in_sound (at (k.Word w.Void) o ∷ t) = params_void_sound o t
  params_in_sound (o ∷ t) = params_list_sound (o ∷ t) refl

  -- ---- Declarators

  suffixes_behind_sound : (later : Read Named → Option (Read Named)) (s : List Lexeme) →
      ((x : Read Named) → FoundDirect s x → IfSome (later x) (FoundDirect s)) →
      (x : Read Named) (t : List Lexeme) → x.rest ≡ t → FoundDirect s x →
      IfSome (suffixes_behind limit sub deep later (place_of s) x t) (FoundDirect s)
  suffixes_behind_sound later s h x [] e d = d
  suffixes_behind_sound later s h x (at (k.Punct p.LeftBracket) o ∷ t) e d =
      bind_all _ _ (bound sub t) _ (bound_sound n sub sound t) (λ y f.
      if_all _ (nat_le (suc (max x.height y.height)) limit) _ _
      (λ _. h _ (record { derives = g.direct_array (subst (IsDirect s x.tree.tree x.tree.declared x.height) e d.derives) f.derives }))
      (λ _. tt))
  suffixes_behind_sound later s h x (at (k.Punct p.LeftParen) o ∷ t) e d =
      bind_all _ _ (params_in limit sub deep t) _ (params_in_sound t) (λ y f.
      if_all _ (nat_le (suc (max x.height y.height)) limit) _ _
      (λ _. h _ (record { derives = g.direct_function (subst (IsDirect s x.tree.tree x.tree.declared x.height) e d.derives) f.derives }))
      (λ _. tt))
  suffixes_behind_sound later s h x _ e d = d

  suffixes_sound : (m : ℕ) (s : List Lexeme) (x : Read Named) → FoundDirect s x →
      IfSome (suffixes limit sub deep m (place_of s) x) (FoundDirect s)
  unfolding suffixes
  suffixes_sound zero s x d = suffixes_behind_sound (λ x. None) s (λ x d. tt) x x.rest refl d
  suffixes_sound (suc m) s x d = suffixes_behind_sound (suffixes limit sub deep m (place_of s)) s (suffixes_sound m s) x x.rest refl d

  module _ (inside : List Lexeme → Option (Read Named)) (inside_sound : (s : List Lexeme) → IfSome (inside s) (FoundNamed s)) where
    grouped_sound : (o : Token) (t : List Lexeme) → IfSome (grouped limit sub deep inside t) (FoundDirect (at (k.Punct p.LeftParen) o ∷ t))
    unfolding grouped
    grouped_sound o t =
        bind_all _ _ (inside t) _ (inside_sound t) (λ x d.
        bind_all _ _ (after_right_paren x.rest) _ (after_right_paren_sound x.rest) (λ u close.
        record { derives = g.direct_parens (subst (IsDeclarator t x.tree.tree x.tree.declared x.height) close.1 d.derives) }))

    pub first_sound : (s : List Lexeme) → IfSome (first limit sub deep inside s) (FoundDirect s)
    first_sound [] = tt
    first_sound (at k.Name o ∷ t) = record { derives = g.direct_name }
    first_sound (at (k.Punct p.LeftParen) o ∷ t) = grouped_sound o t
    first_sound _ = tt

    direct_sound : (s : List Lexeme) → IfSome (direct limit sub deep inside s) (FoundDirect s)
    unfolding direct
    direct_sound s = bind_all _ _ (first limit sub deep inside s) _ (first_sound s) (λ x d. suffixes_sound (length s) s x d)

    pointer_sound : (o : Token) (t : List Lexeme) (ws : List PointerWord) (s : List Lexeme) → ArePointerWords t ws s →
        IfSome (pointer_of limit sub deep inside o.place (ws, s)) (FoundNamed (at (k.Punct p.Star) o ∷ t))
    unfolding pointer_to
    pointer_sound o t ws s d =
        bind_all _ _ (direct limit sub deep inside s) _ (direct_sound s) (λ x f. record { derives = g.declarator_pointer d f.derives })

    plain_sound : (s : List Lexeme) → IfSome (direct limit sub deep inside s) (FoundNamed s)
    plain_sound s = weaken _ _ (direct limit sub deep inside s) (direct_sound s) (λ x d. record { derives = g.declarator_plain d.derives })

    whole_by_sound : (s : List Lexeme) → IfSome (whole_by limit sub deep inside s) (FoundNamed s)
    whole_by_sound [] = plain_sound []
    whole_by_sound (at (k.Punct p.Star) o ∷ t) = pointer_sound o t (pointer_words t).0 (pointer_words t).1 (pointer_words_sound t)
    whole_by_sound (o ∷ t) = plain_sound (o ∷ t)

  pub whole_sound : (m : ℕ) (s : List Lexeme) → IfSome (whole limit sub deep m s) (FoundNamed s)
  unfolding whole
  whole_sound zero s = tt
  whole_sound (suc m) s = whole_by_sound (whole limit sub deep m) (whole_sound m) s

pub declarator_sound : (n : ℕ) (s : List Lexeme) → IfSome (declarator n s) (FoundNamed s)
unfolding declarator
declarator_sound zero s = tt
declarator_sound (suc n) s =
    whole_sound n (suc n) (expression n) (expression_sound n) (declarator n) (declarator_sound n) (suc (length s)) s

-- ---- Specifiers with bodies

module _ (n : ℕ) (sub : ℕ → List Lexeme → Option (Read Expr)) (sound : (to : ℕ) (s : List Lexeme) → IfSome (sub to s) (Spells n to s)) where
  valued_sound : (o q : Token) (s : List Lexeme) →
      IfSome (enumerator_valued sub o s) (Found IsEnumerator (at k.Name o ∷ at (k.Punct p.Assign) q ∷ s))
  unfolding enumerator_valued
  valued_sound o q s =
      bind_all _ _ (sub g.conditional s) _ (sound g.conditional s) (λ x d. record { derives = g.enumerator_valued d.derives })

  enumerator_behind_sound : (o : Token) (t : List Lexeme) → IfSome (enumerator_behind sub o t) (Found IsEnumerator (at k.Name o ∷ t))
  enumerator_behind_sound o [] = record { derives = g.enumerator }
  enumerator_behind_sound o (at (k.Punct p.Assign) q ∷ s) = valued_sound o q s
  enumerator_behind_sound o _ = record { derives = g.enumerator }

  enumerator_sound : (s : List Lexeme) → IfSome (enumerator sub s) (Found IsEnumerator s)
  enumerator_sound [] = tt
  enumerator_sound (at k.Name o ∷ t) = enumerator_behind_sound o t
  enumerator_sound _ = tt

  module _ (later : List Lexeme → Option (Read (List Enumerator))) (h : (s : List Lexeme) → IfSome (later s) (Found AreEnumerators s)) where
    more_enumerators : (s : List Lexeme) (x : Read Enumerator) (o : Token) (t : List Lexeme) →
        IsEnumerator s x.tree x.height (at (k.Punct p.Comma) o ∷ t) →
        IfSome (prepended (x.tree ∷ []) x.height (later t)) (Found AreEnumerators s)
    more_enumerators s x o t d = bind_all _ _ (later t) _ (h t) (λ xs f. record { derives = g.more_enumerators d f.derives })

    comma_sound : (s : List Lexeme) (x : Read Enumerator) (o : Token) (t : List Lexeme) →
        IsEnumerator s x.tree x.height (at (k.Punct p.Comma) o ∷ t) →
        IfSome (enumerators_comma sub later x t) (Found AreEnumerators s)
    comma_sound s x o [] d = more_enumerators s x o [] d
    comma_sound s x o (at (k.Punct p.RightBrace) q ∷ t) d = record { derives = g.last_enumerator_comma d }
    comma_sound s x o (q ∷ t) d = more_enumerators s x o (q ∷ t) d

    enumerators_behind_sound : (s : List Lexeme) (x : Read Enumerator) (t : List Lexeme) → IsEnumerator s x.tree x.height t →
        IfSome (enumerators_behind sub later x t) (Found AreEnumerators s)
    enumerators_behind_sound s x [] d = tt
    enumerators_behind_sound s x (at (k.Punct p.RightBrace) o ∷ t) d = record { derives = g.last_enumerator d }
    enumerators_behind_sound s x (at (k.Punct p.Comma) o ∷ t) d = comma_sound s x o t d
    enumerators_behind_sound s x _ d = tt

  enumerators_sound : (m : ℕ) (s : List Lexeme) → IfSome (enumerators sub m s) (Found AreEnumerators s)
  unfolding enumerators
  enumerators_sound zero s = tt
  enumerators_sound (suc m) s =
      bind_all _ _ (enumerator sub s) _ (enumerator_sound s)
      (λ x d. enumerators_behind_sound (enumerators sub m) (enumerators_sound m) s x x.rest d.derives)

  module _ (deep : List Lexeme → Option (Read Named)) (deep_sound : (s : List Lexeme) → IfSome (deep s) (FoundNamed s)) where
    declarators_behind_sound : (later : List Lexeme → Option (Read (List Declarator))) →
        ((s : List Lexeme) → IfSome (later s) (Found AreDeclarators s)) → (s : List Lexeme) (x : Read Named)
        (t : List Lexeme) → IsDeclarator s x.tree.tree x.tree.declared x.height t →
        IfSome (declarators_behind deep later x t) (Found AreDeclarators s)
    declarators_behind_sound later h s x [] d = tt
    declarators_behind_sound later h s x (at (k.Punct p.Comma) o ∷ t) d =
        bind_all _ _ (later t) _ (h t) (λ xs f. record { derives = g.more_declarators d f.derives })
    declarators_behind_sound later h s x (at (k.Punct p.Semicolon) o ∷ t) d = record { derives = g.last_declarator d }
    declarators_behind_sound later h s x _ d = tt

    declarators_sound : (m : ℕ) (s : List Lexeme) → IfSome (declarators deep m s) (Found AreDeclarators s)
    unfolding declarators
    declarators_sound zero s = tt
    declarators_sound (suc m) s =
        bind_all _ _ (deep s) _ (deep_sound s) (λ x d.
        declarators_behind_sound (declarators deep m) (declarators_sound m) s x x.rest d.derives)

    module _ (one : List Lexeme → Option (Read Counted)) (one_sound : (s : List Lexeme) → IfSome (one s) (IsCountedIn outer s)) where
      member_sound : (s : List Lexeme) → IfSome (member_decl deep one s) (Found IsMember s)
      unfolding member_decl
      member_sound s =
          bind_all _ _ (specs_in one outer s) _ (specs_in_sound outer one one_sound s) (λ xs d.
          bind_all _ _ (declarators deep (length xs.rest) xs.rest) _ (declarators_sound (length xs.rest) xs.rest) (λ ys f.
          record { derives = g.member_decl d.derives f.derives }))

      module _ (later : List Lexeme → Option (Read (List MemberDecl))) (h : (s : List Lexeme) → IfSome (later s) (Found AreMembers s)) where
        more_members : (s : List Lexeme) (x : Read MemberDecl) (t : List Lexeme) → IsMember s x.tree x.height t →
            IfSome (prepended (x.tree ∷ []) x.height (later t)) (Found AreMembers s)
        more_members s x t d = bind_all _ _ (later t) _ (h t) (λ xs f. record { derives = g.more_members d f.derives })

        members_behind_sound : (s : List Lexeme) (x : Read MemberDecl) (t : List Lexeme) → IsMember s x.tree x.height t →
            IfSome (members_behind deep one later x t) (Found AreMembers s)
        members_behind_sound s x [] d = more_members s x [] d
        members_behind_sound s x (at (k.Punct p.RightBrace) o ∷ t) d = record { derives = g.last_member d }
        members_behind_sound s x (o ∷ t) d = more_members s x (o ∷ t) d

      members_sound : (m : ℕ) (s : List Lexeme) → IfSome (members deep one m s) (Found AreMembers s)
      unfolding members
      members_sound zero s = tt
      members_sound (suc m) s =
          bind_all _ _ (member_decl deep one s) _ (member_sound s)
          (λ x d. members_behind_sound (members deep one m) (members_sound m) s x x.rest d.derives)

      untagged_sound : (word : Keyword) (a : Aggregate) (o q : Token) (t : List Lexeme) → aggregate_word word ≡ Some a →
          IfSome (untagged sub deep one a o.place t) (IsCountedIn outer (at (k.Word word) o ∷ at (k.Punct p.LeftBrace) q ∷ t))
      unfolding untagged
      untagged_sound word a o q t e =
          bind_all _ _ (members deep one (length t) t) _ (members_sound (length t) t)
          (λ xs d. record { derives = g.spec_untagged refl e d.derives })

      tagged_sound : (word : Keyword) (a : Aggregate) (b : Terminal) (o q r : Token) (t : List Lexeme) → aggregate_word word ≡ Some a →
          is_tag b ≡ true →
          IfSome (tagged sub deep one a o.place q t) (IsCountedIn outer (at (k.Word word) o ∷ at b q ∷ at (k.Punct p.LeftBrace) r ∷ t))
      unfolding tagged
      tagged_sound word a b o q r t e tag =
          bind_all _ _ (members deep one (length t) t) _ (members_sound (length t) t)
          (λ xs d. record { derives = g.spec_body refl e tag d.derives })

      tagged_behind_sound : (word : Keyword) (a : Aggregate) (b : Terminal) (o q : Token) (t : List Lexeme) → aggregate_word word ≡ Some a →
          is_tag b ≡ true →
          IfSome (tagged_behind sub deep one a o.place q t) (IsCountedIn outer (at (k.Word word) o ∷ at b q ∷ t))
      tagged_behind_sound word a b o q [] e tag = record { derives = g.spec_tag e tag }
      tagged_behind_sound word a b o q (at (k.Punct p.LeftBrace) r ∷ t) e tag = tagged_sound word a b o q r t e tag
      tagged_behind_sound word a b o q _ e tag = record { derives = g.spec_tag e tag }

      aggregate_other : (word : Keyword) (a : Aggregate) (b : Terminal) (o q : Token) (t : List Lexeme) → aggregate_word word ≡ Some a →
          IfSome (if is_tag b then tagged_behind sub deep one a o.place q t else None) (IsCountedIn outer (at (k.Word word) o ∷ at b q ∷ t))
      aggregate_other word a b o q t e = if_all _ (is_tag b) _ _ (λ tag. tagged_behind_sound word a b o q t e tag) (λ _. tt)

      aggregate_sound : (word : Keyword) (a : Aggregate) (o : Token) (t : List Lexeme) → aggregate_word word ≡ Some a →
          IfSome (aggregate_spec sub deep one a o.place t) (IsCountedIn outer (at (k.Word word) o ∷ t))
      aggregate_sound word a o [] e = tt
      aggregate_sound word a o (at (k.Punct p.LeftBrace) q ∷ t) e = untagged_sound word a o q t e
      aggregate_sound word a o (at b q ∷ t) e = aggregate_other word a b o q t e

      enum_untagged_sound : (o q : Token) (t : List Lexeme) →
          IfSome (enum_untagged sub deep one o.place t) (IsCountedIn outer (at (k.Word w.Enum) o ∷ at (k.Punct p.LeftBrace) q ∷ t))
      unfolding enum_untagged
      enum_untagged_sound o q t =
          bind_all _ _ (enumerators sub (length t) t) _ (enumerators_sound (length t) t)
          (λ xs d. record { derives = g.spec_enum_untagged refl d.derives })

      enum_tagged_sound : (b : Terminal) (o q r : Token) (t : List Lexeme) → is_tag b ≡ true →
          IfSome (enum_tagged sub deep one o.place q t) (IsCountedIn outer (at (k.Word w.Enum) o ∷ at b q ∷ at (k.Punct p.LeftBrace) r ∷ t))
      unfolding enum_tagged
      enum_tagged_sound b o q r t tag =
          bind_all _ _ (enumerators sub (length t) t) _ (enumerators_sound (length t) t)
          (λ xs d. record { derives = g.spec_enum_body refl tag d.derives })

      enum_behind_sound : (b : Terminal) (o q : Token) (t : List Lexeme) → is_tag b ≡ true →
          IfSome (enum_behind sub deep one o.place q t) (IsCountedIn outer (at (k.Word w.Enum) o ∷ at b q ∷ t))
      enum_behind_sound b o q [] tag = record { derives = g.spec_enum_tag tag }
      enum_behind_sound b o q (at (k.Punct p.LeftBrace) r ∷ t) tag = enum_tagged_sound b o q r t tag
      enum_behind_sound b o q _ tag = record { derives = g.spec_enum_tag tag }

      enum_other : (b : Terminal) (o q : Token) (t : List Lexeme) →
          IfSome (if is_tag b then enum_behind sub deep one o.place q t else None) (IsCountedIn outer (at (k.Word w.Enum) o ∷ at b q ∷ t))
      enum_other b o q t = if_all _ (is_tag b) _ _ (λ tag. enum_behind_sound b o q t tag) (λ _. tt)

      enum_sound : (o : Token) (t : List Lexeme) → IfSome (enum_spec sub deep one o.place t) (IsCountedIn outer (at (k.Word w.Enum) o ∷ t))
      enum_sound o [] = tt
      enum_sound o (at (k.Punct p.LeftBrace) q ∷ t) = enum_untagged_sound o q t
      enum_sound o (at b q ∷ t) = enum_other b o q t

      spec_by_sound : (s : List Lexeme) → IfSome (spec_by sub deep one s) (IsCountedIn outer s)
      spec_by_sound [] = tt
      spec_by_sound (at (k.Word w.Struct) o ∷ t) = aggregate_sound w.Struct _ o t refl
      spec_by_sound (at (k.Word w.Union) o ∷ t) = aggregate_sound w.Union _ o t refl
      spec_by_sound (at (k.Word w.Enum) o ∷ t) = enum_sound o t
      spec_by_sound (o ∷ t) = plain_sound_in outer (o ∷ t)

pub outer_spec_sound : (n : ℕ) (s : List Lexeme) → IfSome (outer_spec n s) (IsCountedIn outer s)
unfolding outer_spec
outer_spec_sound zero s = tt
outer_spec_sound (suc n) s =
    spec_by_sound n (expression n) (expression_sound n) (declarator n) (declarator_sound n) (outer_spec n) (outer_spec_sound n) s
