-- External declarations: what is read is in the grammar, and what is in the grammar is read.
use Rattle.std.proofs.Common.{◌≡◌, ℕ, suc, ◌≤◌, max, List, [], ◌∷◌, length, Some, Bool, true, false, refl, subst, ◌∙◌, arith}
use Rattle.std.specs.Prelude.{IfSome, nat_le}
use Rattle.std.proofs.lemmas.Bool.{leb-true, le-leb}
use Rattle.fc_base.specs.declared.refusals.Place.{Place}
use Rattle.c_tokens.specs.declared.puncts.Punct.TheVariants as p
use Rattle.c_tokens.specs.declared.tokens.Token.{Token}
use Rattle.c_tokens.specs.declared.tokens.TokenKind.{TokenKind}
use Rattle.c_tokens.specs.declared.tokens.TokenKind.TheVariants as kind
use Rattle.c_tree.specs.declared.externals.External.{External}
use Rattle.parse_meaning.specs.declared.terminals.Terminal.TheVariants as k
use Rattle.parse_meaning.specs.Terminals.{Lexeme, at, place_of}
use Rattle.parse_meaning.specs.Specifiers.{outer}
use Rattle.parse_meaning.specs.File.{IsExternal, type_names}
use Rattle.parse_reading.specs.Reading.{Read, found, Specs, specs_in, expression}
use Rattle.parse_reading.specs.ReadingDeclarators.{Named, declarator, outer_spec}
use Rattle.parse_reading.specs.ReadingStatements.{initialiser, init_declarators, local, items, statement}
use Rattle.c_tree.specs.declared.nodes.Declarator.{Declarator}
use Rattle.c_tree.specs.declared.statements.InitDeclarator.{InitDeclarator}
use Rattle.parse_meaning.specs.Expressions.{Declared, IsDeclarator, AreSpecs}
use Rattle.parse_meaning.specs.Statements.{AreInitDeclarators, AreAttributeLists, IsInitDeclarator}
use Rattle.parse_meaning.specs.Statements as g
use Rattle.parse_meaning.specs.Expressions as e
use Rattle.parse_meaning.specs.File as f
use Rattle.parse_reading.specs.Reading.{begins_spec}
use Rattle.parse_reading.specs.ReadingFile.{NamedExternal, as_external, header_read, declared, body, body_or, declaration, external_behind, specified, external}
use Rattle.parse_reading.proofs.Basics.{bind_all, if_all}
use Rattle.parse_reading.proofs.SoundParts.{AreCounted, specs_in_sound}
use Rattle.parse_reading.proofs.Sound.{expression_sound}
use Rattle.parse_reading.proofs.SoundDeclarators.{declarator_sound, outer_spec_sound}
use Rattle.parse_reading.proofs.SoundStatements.{init_declarators_sound, initialiser_sound, items_sound, local_sound_at, statement_sound}
use Rattle.parse_reading.proofs.CompleteParts.{EndsSpecs, begins_brace, specs_begin, specs_read}
use Rattle.parse_reading.proofs.CompleteExprs.{expression_reads}
use Rattle.parse_reading.proofs.CompleteDeclarators.{declarator_ends_specs, declarator_reads}
use Rattle.parse_reading.proofs.CompleteDeclarators as cd
use Rattle.parse_reading.proofs.CompleteSpecs.{outer_spec_reads}
use Rattle.parse_reading.proofs.CompleteStatements.{initialiser_reads, init_declarators_read, lists_stop, items_read, local_reads_at, statement_reads}

pub record FoundExternal (limit : ℕ) (a : List Lexeme) (r : Read NamedExternal) : Type 0 where
  pub derives : IsExternal a r.tree.tree r.tree.names r.height r.rest
  pub low : r.height ≤ limit

-- ---- What is read is in the grammar

header_sound : (n : ℕ) (o : Token) (t : List Lexeme) (kind : TokenKind) → o.kind ≡ kind →
    IfSome (header_read kind o.place t) (FoundExternal (suc n) (at k.Header o ∷ t))
header_sound n o t (kind.Header id) e = record { derives = f.header e; low = omega arith }
header_sound n o t _ e = tt

module _ (n : ℕ) where
  declared_sound : (a : List Lexeme) (xs : Read Specs) → AreCounted outer a xs →
      IfSome (declared n (place_of a) xs xs.rest) (FoundExternal (suc n) a)
  unfolding declared
  declared_sound a xs d =
      bind_all _ _ (init_declarators (declarator n) (initialiser n) (length xs.rest) xs.rest) _
      (init_declarators_sound (declarator n) (declarator_sound n) (initialiser n) (initialiser_sound n) (length xs.rest) xs.rest) (λ ys i.
      if_all _ (nat_le (suc (max xs.height ys.height)) (suc n)) _ _
      (λ low. record { derives = f.declaration d.derives i.derives; low = leb-true _ _ low }) (λ _. tt))

  body_sound : (a : List Lexeme) (xs : Read Specs) (y : Read Named) (o : Token) (u : List Lexeme) → AreCounted outer a xs →
      IsDeclarator xs.rest y.tree.tree y.tree.declared y.height (at (k.Punct p.LeftBrace) o ∷ u) →
      IfSome (body n (place_of a) xs y o.place u) (FoundExternal (suc n) a)
  unfolding body
  body_sound a xs y o u d i =
      bind_all _ _ (items (expression n) (local (declarator n) (initialiser n)) (statement n) (length u) u) _
      (items_sound n (expression n) (expression_sound n) (local (declarator n) (initialiser n)) (local_sound_at n) (statement n)
      (statement_sound n) (length u) u) (λ zs j.
      if_all _ (nat_le (suc (max xs.height (max y.height (suc zs.height)))) (suc n)) _ _
      (λ low. record { derives = f.function d.derives i j.derives; low = leb-true _ _ low }) (λ _. tt))

  body_or_sound : (a : List Lexeme) (xs : Read Specs) (y : Read Named) (u : List Lexeme) → AreCounted outer a xs →
      IsDeclarator xs.rest y.tree.tree y.tree.declared y.height u →
      IfSome (body_or n (place_of a) xs xs.rest y u) (FoundExternal (suc n) a)
  body_or_sound a xs y [] d i = declared_sound a xs d
  body_or_sound a xs y (at (k.Punct p.LeftBrace) o ∷ u) d i = body_sound a xs y o u d i
  body_or_sound a xs y (o ∷ u) d i = declared_sound a xs d

  declaration_sound : (a : List Lexeme) (xs : Read Specs) → AreCounted outer a xs →
      IfSome (declaration n (place_of a) xs xs.rest) (FoundExternal (suc n) a)
  unfolding declaration
  declaration_sound a xs d =
      bind_all _ _ (declarator n xs.rest) _ (declarator_sound n xs.rest) (λ y i. body_or_sound a xs y y.rest d i.derives)

  behind_sound : (a : List Lexeme) (xs : Read Specs) (t : List Lexeme) → xs.rest ≡ t → AreCounted outer a xs →
      IfSome (external_behind n (place_of a) xs t) (FoundExternal (suc n) a)
  behind_sound a xs [] same d =
      subst (λ l. IfSome (declaration n (place_of a) xs l) (FoundExternal (suc n) a)) same (declaration_sound a xs d)
  behind_sound a xs (at (k.Punct p.Semicolon) o ∷ t) same d =
      if_all _ (nat_le (suc xs.height) (suc n)) _ _
      (λ low. record {
        derives = f.undeclared (subst (AreSpecs outer a xs.tree.specs xs.tree.tally xs.height) same d.derives);
        low = leb-true _ _ low;
      }) (λ _. tt)
  behind_sound a xs (o ∷ t) same d =
      subst (λ l. IfSome (declaration n (place_of a) xs l) (FoundExternal (suc n) a)) same (declaration_sound a xs d)

  specified_sound : (a : List Lexeme) → IfSome (specified n a) (FoundExternal (suc n) a)
  unfolding specified
  specified_sound a =
      bind_all _ _ (specs_in (outer_spec n) outer a) _ (specs_in_sound outer (outer_spec n) (outer_spec_sound n) a)
      (λ xs d. behind_sound a xs xs.rest refl d)

pub external_sound : (n : ℕ) (a : List Lexeme) → IfSome (external n a) (FoundExternal (suc n) a)
external_sound n [] = specified_sound n []
external_sound n (at k.Header o ∷ t) = header_sound n o t o.kind refl
external_sound n (o ∷ t) = specified_sound n (o ∷ t)

-- ---- What is in the grammar is read

-- the first of several declarators, and what stands behind it
record First (n : ℕ) (a : List Lexeme) : Type 0 where
  tree : Declarator
  declares : Declared
  height : ℕ
  rest : List Lexeme
  derives : IsDeclarator a tree declares height rest
  low : height ≤ n
  stops : cd.goes_on rest ≡ false
  no_body : begins_brace rest ≡ false

lists_no_body : {a t : List Lexeme} {xs : _} → AreAttributeLists a xs t → begins_brace t ≡ false → begins_brace a ≡ false
lists_no_body g.no_lists e = e
lists_no_body (g.more_lists e.empty_attributes i) e = refl
lists_no_body (g.more_lists (e.some_attributes d) i) e = refl

-- what may stand behind a declarator without an initialiser
record Quiet (t : List Lexeme) : Type 0 where
  stops : cd.goes_on t ≡ false
  no_body : begins_brace t ≡ false

first_of_one : (n : ℕ) {h : ℕ} {a t : List Lexeme} {x : InitDeclarator} {c : Declared} → IsInitDeclarator a x c h t → h ≤ n →
    Quiet t → First n a
first_of_one n (g.uninitialised d i) low q =
    record {
      tree = _;
      declares = _;
      height = _;
      rest = _;
      derives = d;
      low = low;
      stops = lists_stop i q.stops;
      no_body = lists_no_body i q.no_body;
    }
first_of_one n (g.initialised d i j) low q =
    record {
      tree = _;
      declares = _;
      height = _;
      rest = _;
      derives = d;
      low = omega arith;
      stops = lists_stop i refl;
      no_body = lists_no_body i refl;
    }

first_of_all : (n : ℕ) {h : ℕ} {a t : List Lexeme} {xs : List InitDeclarator} {cs : List Declared} → AreInitDeclarators a xs cs h t →
    h ≤ n → First n a
first_of_all n (g.last_init_declarator d) low = first_of_one n d low (record { stops = refl; no_body = refl })
first_of_all n (g.more_init_declarators d i) low = first_of_one n d (omega arith) (record { stops = refl; no_body = refl })

abbrev begins_semicolon : List Lexeme → Bool
begins_semicolon (at (k.Punct p.Semicolon) o ∷ t) = true
begins_semicolon _ = false

module _ (n : ℕ) where
  no_body_is : (place : Place) (xs : Read Specs) (t : List Lexeme) (y : Read Named) (u : List Lexeme) → begins_brace u ≡ false →
      body_or n place xs t y u ≡ declared n place xs t
  no_body_is place xs t y [] e = refl
  no_body_is place xs t y (at (k.Punct p.LeftBrace) o ∷ u) e = cc
  no_body_is place xs t y (at _ o ∷ u) e = refl

  some_is : (place : Place) (xs : Read Specs) (t : List Lexeme) → begins_semicolon t ≡ false →
      external_behind n place xs t ≡ declaration n place xs t
  some_is place xs [] e = refl
  some_is place xs (at (k.Punct p.Semicolon) o ∷ t) e = cc
  some_is place xs (at _ o ∷ t) e = refl

  direct_some : {h : ℕ} {a t : List Lexeme} {x : Declarator} {c : Declared} → e.IsDirect a x c h t → begins_semicolon a ≡ false
  direct_some e.direct_name = refl
  direct_some (e.direct_parens d) = refl
  direct_some (e.direct_array d i) = direct_some d
  direct_some (e.direct_function d i) = direct_some d

  declarator_some : {h : ℕ} {a t : List Lexeme} {x : Declarator} {c : Declared} → IsDeclarator a x c h t → begins_semicolon a ≡ false
  declarator_some (e.declarator_plain d) = direct_some d
  declarator_some (e.declarator_pointer d i) = refl

  specified_is : (a : List Lexeme) → begins_spec a ≡ true → external n a ≡ specified n a
  specified_is [] e = refl
  specified_is (at k.Header o ∷ t) e = cc
  specified_is (at _ o ∷ t) e = refl

  external_reads_at : {h : ℕ} {a t : List Lexeme} {x : External} {names : List (List ℕ)} → IsExternal a x names h t → h ≤ suc n →
      external n a ≡ Some (found (as_external x names) h t)
  unfolding specified declaration declared body
  external_reads_at (f.header e) low = rw e refl
  external_reads_at (f.undeclared {h = h} {a = a} d) low =
      specified_is a (specs_begin d) ∙ rw (
        specs_read outer n (outer_spec n) (outer_spec_reads n) d (omega arith)
            (record { no_spec = refl; no_body = refl }),
        le-leb (suc h) (suc n) low,
      ) refl
  external_reads_at (f.declaration {h = h} {j = j} {a = a} {t = t} {xs = xs} {tally = tally} d i) low =
      let one : First n t = first_of_all n i (omega arith) in
      let ends : EndsSpecs t = declarator_ends_specs one.derives in
      let found_specs : Read Specs = found (record { specs = xs; tally = tally }) h t in
      let named : Read Named = found (record { tree = one.tree; declared = one.declares }) one.height one.rest in
      specified_is a (specs_begin d)
      ∙ rw (specs_read outer n (outer_spec n) (outer_spec_reads n) d (omega arith) ends)
      (some_is (place_of a) found_specs t (declarator_some one.derives)
      ∙ rw (declarator_reads n _ _ _ _ _ one.derives one.low one.stops)
      (no_body_is (place_of a) found_specs t named one.rest one.no_body
      ∙ rw (
        init_declarators_read n (declarator n) (declarator_reads n) (initialiser n) (initialiser_reads n) (length t) i (omega arith)
            (omega arith),
        le-leb (suc (max h j)) (suc n) low,
      ) refl))
  external_reads_at (f.function {h = h} {j = j} {m = m} {a = a} {t = t} {u = u} {xs = xs} {tally = tally} d i b) low =
      let ends : EndsSpecs t = declarator_ends_specs i in
      specified_is a (specs_begin d)
      ∙ rw (specs_read outer n (outer_spec n) (outer_spec_reads n) d (omega arith) ends)
      (some_is (place_of a) (found (record { specs = xs; tally = tally }) h t) t (declarator_some i)
      ∙ rw (
        declarator_reads n _ _ _ _ _ i (omega arith) refl,
        items_read n (expression n) (expression_reads n) (local (declarator n) (initialiser n)) (local_reads_at n) (statement n)
            (statement_reads n) (length u) b (omega arith) (omega arith),
        le-leb (suc (max h (max j (suc m)))) (suc n) low,
      ) refl)

pub external_reads : (n h : ℕ) (a t : List Lexeme) (x : External) (names : List (List ℕ)) → IsExternal a x names h t → h ≤ suc n →
    external n a ≡ Some (found (as_external x names) h t)
external_reads n h a t x names d low = external_reads_at n d low
