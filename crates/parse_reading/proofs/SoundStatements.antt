-- What is read is in the grammar: initialisers, declarations and statements.
use Rattle.std.proofs.Common.{◌≡◌, ℕ, zero, suc, max, List, [], ◌∷◌, length, Option, Some, None, Bool, true, false, refl, sym, ap, subst, ◌∙◌}
use Rattle.std.specs.Prelude.{IfSome, if◌then◌else◌}
use Rattle.c_tokens.specs.declared.puncts.Punct.TheVariants as p
use Rattle.c_tokens.specs.declared.tokens.Token.{Token}
use Rattle.c_tree.specs.declared.nodes.Expr.{Expr}
use Rattle.c_tree.specs.declared.nodes.Attribute.{Attribute}
use Rattle.c_tree.specs.declared.statements.Init.{Init}
use Rattle.c_tree.specs.declared.statements.Stmt.{Stmt}
use Rattle.c_tree.specs.declared.statements.Stmt.TheVariants as st
use Rattle.parse_meaning.specs.declared.terminals.Keyword.TheVariants as w
use Rattle.parse_meaning.specs.declared.terminals.Terminal.TheVariants as k
use Rattle.parse_meaning.specs.Terminals.{Lexeme, at}
use Rattle.parse_reading.specs.Reading.{Read, found, prepended, after_left_paren, after_right_paren, after_colon, begins_spec, plain_spec, specs_in, attribute_list, expression}
use Rattle.parse_reading.specs.ReadingDeclarators.{Named, declarator}
use Rattle.c_tokens.specs.declared.puncts.Punct.{Punct}
use Rattle.parse_meaning.specs.Specifiers.{block}
use Rattle.parse_meaning.specs.Expressions as e
use Rattle.parse_meaning.specs.Expressions.{Declared, IsExpr, IsDeclarator, AreSpecs, IsAttributeList}
use Rattle.parse_meaning.specs.Statements as g
use Rattle.parse_meaning.specs.Statements.{IsInit, AreInits, AreAttributeLists, IsInitDeclarator, AreInitDeclarators, IsLocal, IsOptional, IsLabel, IsForHead, IsStmt, AreItems, AreCases, AreLabelled, begins_else, are_objects}
use Rattle.parse_reading.specs.ReadingStatements.{after_semicolon, after_left_brace, after_while, inits_comma, inits_behind, inits, init_list, init_expr, init_by, initialiser, lists_by, attribute_lists, NamedInit, NamedInits, Local, initialised, init_behind, init_declarator, init_declarators_behind, init_declarators, local, ended, optional_by, optional, case_label, default_label, label, begins_label, with_stmt, labelled_by, labelled, cases, declared_item, items_by, items, compound, evaluation, condition, otherwise, if_read, switch_read, while_read, do_read, head_local, head_expr, for_head, for_read, jump, returned, statement_by, statement}
use Rattle.parse_reading.proofs.Basics.{bind_all, if_all, weaken, Found, Behind, after_left_paren_sound, after_right_paren_sound, after_colon_sound}
use Rattle.parse_reading.proofs.SoundParts.{attribute_list_sound, specs_in_sound, plain_sound_in}
use Rattle.parse_reading.proofs.Sound.{Spells, expression_sound}
use Rattle.parse_reading.proofs.SoundDeclarators.{FoundNamed, declarator_sound}

pub after_semicolon_sound : (a : List Lexeme) → IfSome (after_semicolon a) (Behind p.Semicolon a)
after_semicolon_sound [] = tt
after_semicolon_sound (at (k.Punct p.Semicolon) o ∷ t) = (o, refl)
after_semicolon_sound _ = tt

after_left_brace_sound : (a : List Lexeme) → IfSome (after_left_brace a) (Behind p.LeftBrace a)
after_left_brace_sound [] = tt
after_left_brace_sound (at (k.Punct p.LeftBrace) o ∷ t) = (o, refl)
after_left_brace_sound _ = tt

after_while_sound : (a : List Lexeme) → IfSome (after_while a) (λ t. (o : Token) × (a ≡ at (k.Word w.While) o ∷ t))
after_while_sound [] = tt
after_while_sound (at (k.Word w.While) o ∷ t) = (o, refl)
after_while_sound _ = tt

-- ---- Initialisers

module _ (deep : List Lexeme → Option (Read Init)) (deep_sound : (a : List Lexeme) → IfSome (deep a) (Found IsInit a)) where
  module _ (later : List Lexeme → Option (Read (List Init))) (h : (a : List Lexeme) → IfSome (later a) (Found AreInits a)) where
    more_inits : (a : List Lexeme) (x : Read Init) (o : Token) (t : List Lexeme) → IsInit a x.tree x.height (at (k.Punct p.Comma) o ∷ t) →
        IfSome (prepended (x.tree ∷ []) x.height (later t)) (Found AreInits a)
    more_inits a x o t d = bind_all _ _ (later t) _ (h t) (λ xs f. record { derives = g.more_inits d f.derives })

    comma_sound : (a : List Lexeme) (x : Read Init) (o : Token) (t : List Lexeme) → IsInit a x.tree x.height (at (k.Punct p.Comma) o ∷ t) →
        IfSome (inits_comma deep later x t) (Found AreInits a)
    comma_sound a x o [] d = more_inits a x o [] d
    comma_sound a x o (at (k.Punct p.RightBrace) q ∷ t) d = record { derives = g.last_init_comma d }
    comma_sound a x o (q ∷ t) d = more_inits a x o (q ∷ t) d

    inits_behind_sound : (a : List Lexeme) (x : Read Init) (t : List Lexeme) → IsInit a x.tree x.height t →
        IfSome (inits_behind deep later x t) (Found AreInits a)
    inits_behind_sound a x [] d = tt
    inits_behind_sound a x (at (k.Punct p.RightBrace) o ∷ t) d = record { derives = g.last_init d }
    inits_behind_sound a x (at (k.Punct p.Comma) o ∷ t) d = comma_sound a x o t d
    inits_behind_sound a x _ d = tt

  inits_sound : (m : ℕ) (a : List Lexeme) → IfSome (inits deep m a) (Found AreInits a)
  unfolding inits
  inits_sound zero a = tt
  inits_sound (suc m) a =
      bind_all _ _ (deep a) _ (deep_sound a) (λ x d. inits_behind_sound (inits deep m) (inits_sound m) a x x.rest d.derives)

  module _ (n : ℕ) (sub : ℕ → List Lexeme → Option (Read Expr))
      (sound : (to : ℕ) (a : List Lexeme) → IfSome (sub to a) (Spells n to a)) where
    list_sound : (o : Token) (t : List Lexeme) → IfSome (init_list deep sub o.place t) (Found IsInit (at (k.Punct p.LeftBrace) o ∷ t))
    unfolding init_list
    list_sound o t =
        bind_all _ _ (inits deep (length t) t) _ (inits_sound (length t) t) (λ xs d. record { derives = g.init_list d.derives })

    init_expr_sound : (a : List Lexeme) → IfSome (init_expr deep sub a) (Found IsInit a)
    unfolding init_expr
    init_expr_sound a = bind_all _ _ (sub e.assignment a) _ (sound e.assignment a) (λ x d. record { derives = g.init_expr d.derives })

    init_by_sound : (a : List Lexeme) → IfSome (init_by deep sub a) (Found IsInit a)
    init_by_sound [] = init_expr_sound []
    init_by_sound (at (k.Punct p.LeftBrace) o ∷ t) = list_sound o t
    init_by_sound (o ∷ t) = init_expr_sound (o ∷ t)

pub initialiser_sound : (n : ℕ) (a : List Lexeme) → IfSome (initialiser n a) (Found IsInit a)
unfolding initialiser
initialiser_sound zero a = tt
initialiser_sound (suc n) a = init_by_sound (initialiser n) (initialiser_sound n) (suc n) (expression (suc n)) (expression_sound (suc n)) a

-- ---- Declarations

abbrev ListsIn : List Lexeme → List (List Attribute) × List Lexeme → Type 0
ListsIn a x = AreAttributeLists a x.0 x.1

lists_by_sound : (later : List Lexeme → Option (List (List Attribute) × List Lexeme)) → ((a : List Lexeme) → IfSome (later a) (ListsIn a)) →
    (a : List Lexeme) → IfSome (lists_by later a) (ListsIn a)
lists_by_sound later h [] = g.no_lists
lists_by_sound later h (at (k.Word w.Attribute) o ∷ t) =
    bind_all _ _ (attribute_list t) _ (attribute_list_sound o t) (λ x d.
    bind_all _ _ (later x.1) _ (h x.1) (λ xs f. g.more_lists d f))
lists_by_sound later h _ = g.no_lists

lists_sound : (m : ℕ) (a : List Lexeme) → IfSome (attribute_lists m a) (ListsIn a)
unfolding attribute_lists
lists_sound zero a = lists_by_sound (λ t. None) (λ t. tt) a
lists_sound (suc m) a = lists_by_sound (attribute_lists m) (lists_sound m) a

record FoundInit (a : List Lexeme) (x : Read NamedInit) : Type 0 where
  derives : IsInitDeclarator a x.tree.tree x.tree.declared x.height x.rest

pub record FoundInits (a : List Lexeme) (x : Read NamedInits) : Type 0 where
  pub derives : AreInitDeclarators a x.tree.trees x.tree.declared x.height x.rest

pub record FoundLocal (a : List Lexeme) (x : Read Local) : Type 0 where
  pub derives : IsLocal a x.tree.specs x.tree.declarators x.height x.rest

module _ (named : List Lexeme → Option (Read Named)) (named_sound : (a : List Lexeme) → IfSome (named a) (FoundNamed a))
    (init : List Lexeme → Option (Read Init)) (init_sound : (a : List Lexeme) → IfSome (init a) (Found IsInit a)) where
  initialised_sound : (a : List Lexeme) (x : Read Named) (xs : List (List Attribute)) (o : Token) (u : List Lexeme) →
      IsDeclarator a x.tree.tree x.tree.declared x.height x.rest →
      AreAttributeLists x.rest xs (at (k.Punct p.Assign) o ∷ u) → IfSome (initialised named init x xs u) (FoundInit a)
  unfolding initialised
  initialised_sound a x xs o u d f = bind_all _ _ (init u) _ (init_sound u) (λ y i. record { derives = g.initialised d f i.derives })

  init_behind_sound : (a : List Lexeme) (x : Read Named) (xs : List (List Attribute)) (u : List Lexeme) →
      IsDeclarator a x.tree.tree x.tree.declared x.height x.rest →
      AreAttributeLists x.rest xs u → IfSome (init_behind named init x xs u) (FoundInit a)
  init_behind_sound a x xs [] d f = record { derives = g.uninitialised d f }
  init_behind_sound a x xs (at (k.Punct p.Assign) o ∷ u) d f = initialised_sound a x xs o u d f
  init_behind_sound a x xs _ d f = record { derives = g.uninitialised d f }

  init_declarator_sound : (a : List Lexeme) → IfSome (init_declarator named init a) (FoundInit a)
  unfolding init_declarator
  init_declarator_sound a =
      bind_all _ _ (named a) _ (named_sound a) (λ x d.
      bind_all _ _ (attribute_lists (length x.rest) x.rest) _ (lists_sound (length x.rest) x.rest) (λ xs f.
      init_behind_sound a x xs.0 xs.1 d.derives f))

  init_declarators_behind_sound : (later : List Lexeme → Option (Read NamedInits)) → ((a : List Lexeme) → IfSome (later a) (FoundInits a)) →
      (a : List Lexeme) (x : Read NamedInit) (t : List Lexeme) →
      IsInitDeclarator a x.tree.tree x.tree.declared x.height t → IfSome (init_declarators_behind named init later x t) (FoundInits a)
  init_declarators_behind_sound later h a x [] d = tt
  init_declarators_behind_sound later h a x (at (k.Punct p.Semicolon) o ∷ t) d = record { derives = g.last_init_declarator d }
  init_declarators_behind_sound later h a x (at (k.Punct p.Comma) o ∷ t) d =
      bind_all _ _ (later t) _ (h t) (λ xs f. record { derives = g.more_init_declarators d f.derives })
  init_declarators_behind_sound later h a x _ d = tt

  pub init_declarators_sound : (m : ℕ) (a : List Lexeme) → IfSome (init_declarators named init m a) (FoundInits a)
  unfolding init_declarators
  init_declarators_sound zero a = tt
  init_declarators_sound (suc m) a =
      bind_all _ _ (init_declarator named init a) _ (init_declarator_sound a)
      (λ x d. init_declarators_behind_sound (init_declarators named init m) (init_declarators_sound m) a x x.rest d.derives)

  local_sound : (a : List Lexeme) → IfSome (local named init a) (FoundLocal a)
  unfolding local
  local_sound a =
      bind_all _ _ (specs_in plain_spec block a) _ (specs_in_sound block plain_spec (plain_sound_in block) a) (λ xs d.
      bind_all _ _ (init_declarators named init (length xs.rest) xs.rest) _ (init_declarators_sound (length xs.rest) xs.rest) (λ ys f.
      if_all _ (are_objects ys.tree.declared) _ _ (λ objects. record { derives = g.local d.derives f.derives objects }) (λ _. tt)))

-- ---- Statements

-- an expression in parentheses
record InParens (a : List Lexeme) (x : Read Expr) : Type 0 where
  first : Token
  inside : List Lexeme
  whole : a ≡ at (k.Punct p.LeftParen) first ∷ inside
  last : Token
  derives : IsExpr e.expression inside x.tree x.height (at (k.Punct p.RightParen) last ∷ x.rest)

-- items go on with this one
record Prepends (a : List Lexeme) (x : Read Stmt) : Type 0 where
  goes : {j : ℕ} {u : List Lexeme} {zs : List Stmt} → AreItems x.rest zs j u → AreItems a (x.tree ∷ zs) (max x.height j) u

module _ (n : ℕ) (sub : ℕ → List Lexeme → Option (Read Expr)) (sound : (to : ℕ) (a : List Lexeme) → IfSome (sub to a) (Spells n to a)) where
  module _ (b : Punct) (after : List Lexeme → Option (List Lexeme)) (after_sound : (a : List Lexeme) → IfSome (after a) (Behind b a)) where
    ended_sound : (a : List Lexeme) → IfSome (ended after sub a) (Found (IsOptional b) a)
    unfolding ended
    ended_sound a =
        bind_all _ _ (sub e.expression a) _ (sound e.expression a) (λ x d.
        bind_all _ _ (after x.rest) _ (after_sound x.rest) (λ t here.
        record { derives = g.some_expr (subst (IsExpr e.expression a x.tree x.height) here.1 d.derives) }))

    optional_sound : (a : List Lexeme) → IfSome (optional after sub a) (Found (IsOptional b) a)
    optional_sound a = go (after a) (after_sound a)
      where
        go : (x : Option (List Lexeme)) → IfSome x (Behind b a) → IfSome (optional_by after sub x a) (Found (IsOptional b) a)
        go None h = ended_sound a
        go (Some t) h = record { derives = subst (λ l. IsOptional b l None 0 t) (sym h.1) g.no_expr }

  module _ (locals : List Lexeme → Option (Read Local)) (locals_sound : (a : List Lexeme) → IfSome (locals a) (FoundLocal a))
      (deep : List Lexeme → Option (Read Stmt)) (deep_sound : (a : List Lexeme) → IfSome (deep a) (Found IsStmt a)) where
    case_sound : (o : Token) (a : List Lexeme) → IfSome (case_label sub locals deep o.place a) (Found IsLabel (at (k.Word w.Case) o ∷ a))
    unfolding case_label
    case_sound o a =
        bind_all _ _ (sub e.conditional a) _ (sound e.conditional a) (λ x d.
        bind_all _ _ (after_colon x.rest) _ (after_colon_sound x.rest) (λ t colon.
        record { derives = g.case (subst (IsExpr e.conditional a x.tree x.height) colon.1 d.derives) }))

    default_sound : (o : Token) (a : List Lexeme) →
        IfSome (default_label sub locals deep o.place a) (Found IsLabel (at (k.Word w.Default) o ∷ a))
    unfolding default_label
    default_sound o a =
        bind_all _ _ (after_colon a) _ (after_colon_sound a) (λ t colon.
        record { derives = subst (λ l. IsLabel (at (k.Word w.Default) o ∷ l) (st.Default o.place) 1 t) (sym colon.1) g.default })

    label_sound : (a : List Lexeme) → IfSome (label sub locals deep a) (Found IsLabel a)
    label_sound [] = tt
    label_sound (at (k.Word w.Case) o ∷ t) = case_sound o t
    label_sound (at (k.Word w.Default) o ∷ t) = default_sound o t
    label_sound _ = tt

    -- a first statement or label, and what later reads
    module _ (later : List Lexeme → Option (Read (List Stmt))) where
      stmt_labelled : ((a : List Lexeme) → IfSome (later a) (Found AreLabelled a)) → (a : List Lexeme) → (if_label : Bool) →
          IfSome (with_stmt sub locals deep later (if if_label then label sub locals deep a else deep a)) (Found AreLabelled a)
      unfolding with_stmt
      stmt_labelled h a true =
          bind_all _ _ (label sub locals deep a) _ (label_sound a)
          (λ x d. bind_all _ _ (later x.rest) _ (h x.rest) (λ xs f. record { derives = g.next_label d.derives f.derives }))
      stmt_labelled h a false =
          bind_all _ _ (deep a) _ (deep_sound a) (λ x d.
          bind_all _ _ (later x.rest) _ (h x.rest) (λ xs f. record { derives = g.next_stmt d.derives f.derives }))

      labelled_by_sound : ((a : List Lexeme) → IfSome (later a) (Found AreLabelled a)) → (a : List Lexeme) →
          IfSome (labelled_by sub locals deep later a) (Found AreLabelled a)
      labelled_by_sound h [] = stmt_labelled h [] false
      labelled_by_sound h (at (k.Punct p.RightBrace) o ∷ t) = record { derives = g.labels_end }
      labelled_by_sound h (o ∷ t) = stmt_labelled h (o ∷ t) (begins_label sub locals deep (o ∷ t))

      stmt_cases : ((a : List Lexeme) → IfSome (later a) (Found AreLabelled a)) → (a : List Lexeme) →
          IfSome (with_stmt sub locals deep later (label sub locals deep a)) (Found AreCases a)
      unfolding with_stmt
      stmt_cases h a =
          bind_all _ _ (label sub locals deep a) _ (label_sound a)
          (λ x d. bind_all _ _ (later x.rest) _ (h x.rest) (λ xs f. record { derives = g.first_label d.derives f.derives }))

      with_items : ((a : List Lexeme) → IfSome (later a) (Found AreItems a)) → (a : List Lexeme) (x : Option (Read Stmt)) →
          IfSome x (Prepends a) → IfSome (with_stmt sub locals deep later x) (Found AreItems a)
      unfolding with_stmt
      with_items h a x f =
          bind_all _ _ x _ f (λ y d. bind_all _ _ (later y.rest) _ (h y.rest) (λ ys i. record { derives = d.goes i.derives }))

      declared_sound : (a : List Lexeme) → IfSome (declared_item sub locals deep a) (Prepends a)
      unfolding declared_item
      declared_sound a = bind_all _ _ (locals a) _ (locals_sound a) (λ x d. record { goes = λ rest. g.item_declared d.derives rest })

      stated_sound : (a : List Lexeme) → IfSome (deep a) (Prepends a)
      stated_sound a = weaken _ _ (deep a) (deep_sound a) (λ x d. record { goes = λ rest. g.item_stated d.derives rest })

      item_sound : (a : List Lexeme) (is_declared : Bool) →
          IfSome (if is_declared then declared_item sub locals deep a else deep a) (Prepends a)
      item_sound a true = declared_sound a
      item_sound a false = stated_sound a

      items_by_sound : ((a : List Lexeme) → IfSome (later a) (Found AreItems a)) → (a : List Lexeme) →
          IfSome (items_by sub locals deep later a) (Found AreItems a)
      items_by_sound h [] = with_items h [] (deep []) (stated_sound [])
      items_by_sound h (at (k.Punct p.RightBrace) o ∷ t) = record { derives = g.no_items }
      items_by_sound h (o ∷ t) = with_items h (o ∷ t) _ (item_sound (o ∷ t) (begins_spec (o ∷ t)))

    labelled_sound : (m : ℕ) (a : List Lexeme) → IfSome (labelled sub locals deep m a) (Found AreLabelled a)
    unfolding labelled
    labelled_sound zero a = labelled_by_sound (λ t. None) (λ t. tt) a
    labelled_sound (suc m) a = labelled_by_sound (labelled sub locals deep m) (labelled_sound m) a

    cases_sound : (a : List Lexeme) → IfSome (cases sub locals deep a) (Found AreCases a)
    cases_sound [] = stmt_cases (labelled sub locals deep 0) (labelled_sound 0) []
    cases_sound (at (k.Punct p.RightBrace) o ∷ t) = record { derives = g.no_cases }
    cases_sound (o ∷ t) = stmt_cases (labelled sub locals deep (length (o ∷ t))) (labelled_sound (length (o ∷ t))) (o ∷ t)

    pub items_sound : (m : ℕ) (a : List Lexeme) → IfSome (items sub locals deep m a) (Found AreItems a)
    unfolding items
    items_sound zero a = items_by_sound (λ t. None) (λ t. tt) a
    items_sound (suc m) a = items_by_sound (items sub locals deep m) (items_sound m) a

    compound_sound : (o : Token) (t : List Lexeme) →
        IfSome (compound sub locals deep o.place t) (Found IsStmt (at (k.Punct p.LeftBrace) o ∷ t))
    unfolding compound
    compound_sound o t =
        bind_all _ _ (items sub locals deep (length t) t) _ (items_sound (length t) t) (λ xs d. record { derives = g.compound d.derives })

    evaluation_sound : (a : List Lexeme) → IfSome (evaluation sub locals deep a) (Found IsStmt a)
    unfolding evaluation
    evaluation_sound a =
        bind_all _ _ (optional after_semicolon sub a) _ (optional_sound p.Semicolon after_semicolon after_semicolon_sound a)
        (λ x d. record { derives = g.evaluation d.derives })

    condition_sound : (a : List Lexeme) → IfSome (condition sub locals deep a) (InParens a)
    unfolding condition
    condition_sound a =
        bind_all _ _ (after_left_paren a) _ (after_left_paren_sound a) (λ t begin.
        bind_all _ _ (sub e.expression t) _ (sound e.expression t) (λ x d.
        bind_all _ _ (after_right_paren x.rest) _ (after_right_paren_sound x.rest) (λ u close.
        record {
          first = begin.0;
          inside = t;
          whole = begin.1;
          last = close.0;
          derives = subst (IsExpr e.expression t x.tree x.height) close.1 d.derives;
        })))

    if_only_at : (o : Token) (a : List Lexeme) (x : Read Expr) (y : Read Stmt) (u : List Lexeme) → InParens a x →
        IsStmt x.rest y.tree y.height u → begins_else u ≡ false →
        Found IsStmt (at (k.Word w.If) o ∷ a) (found (st.If x.tree y.tree None o.place) (suc (max x.height y.height)) u)
    if_only_at o a x y u c f none =
        record {
          derives = subst (λ l. IsStmt (at (k.Word w.If) o ∷ l) (st.If x.tree y.tree None o.place) (suc (max x.height y.height)) u)
              (sym c.whole) (g.if_only c.derives f none);
        }

    otherwise_sound : (o : Token) (a : List Lexeme) (x : Read Expr) (y : Read Stmt) (u : List Lexeme) → InParens a x →
        IsStmt x.rest y.tree y.height u →
        IfSome (otherwise sub locals deep o.place x.tree x.height y.tree y.height u) (Found IsStmt (at (k.Word w.If) o ∷ a))
    otherwise_sound o a x y [] c f = if_only_at o a x y [] c f refl
    otherwise_sound o a x y (at (k.Word w.Else) q ∷ u) c f =
        bind_all _ _ (deep u) _ (deep_sound u) (λ z i.
        record {
          derives =
              subst (λ l. IsStmt (at (k.Word w.If) o ∷ l) (st.If x.tree y.tree (Some z.tree) o.place)
              (suc (max x.height (max y.height z.height))) z.rest) (sym c.whole)
              (g.if_else c.derives f i.derives);
        })
    otherwise_sound o a x y (q ∷ u) c f = if_only_at o a x y (q ∷ u) c f refl

    if_sound : (o : Token) (a : List Lexeme) → IfSome (if_read sub locals deep o.place a) (Found IsStmt (at (k.Word w.If) o ∷ a))
    unfolding if_read
    if_sound o a =
        bind_all _ _ (condition sub locals deep a) _ (condition_sound a) (λ x c.
        bind_all _ _ (deep x.rest) _ (deep_sound x.rest) (λ y f. otherwise_sound o a x y y.rest c f.derives))

    switch_sound : (o : Token) (a : List Lexeme) →
        IfSome (switch_read sub locals deep o.place a) (Found IsStmt (at (k.Word w.Switch) o ∷ a))
    unfolding switch_read
    switch_sound o a =
        bind_all _ _ (condition sub locals deep a) _ (condition_sound a) (λ x c.
        bind_all _ _ (after_left_brace x.rest) _ (after_left_brace_sound x.rest) (λ t brace.
        bind_all _ _ (cases sub locals deep t) _ (cases_sound t) (λ ys f.
        record {
          derives =
              subst (λ l. IsStmt (at (k.Word w.Switch) o ∷ l) (st.Switch x.tree ys.tree o.place) (suc (max x.height ys.height)) ys.rest)
              (sym c.whole)
              (g.switch (subst (λ l. IsExpr e.expression c.inside x.tree x.height (at (k.Punct p.RightParen) c.last ∷ l)) brace.1 c.derives)
              f.derives);
        })))

    while_sound : (o : Token) (a : List Lexeme) → IfSome (while_read sub locals deep o.place a) (Found IsStmt (at (k.Word w.While) o ∷ a))
    unfolding while_read
    while_sound o a =
        bind_all _ _ (condition sub locals deep a) _ (condition_sound a) (λ x c.
        bind_all _ _ (deep x.rest) _ (deep_sound x.rest) (λ y f.
        record {
          derives = subst (λ l. IsStmt (at (k.Word w.While) o ∷ l) (st.While x.tree y.tree o.place)
              (suc (max x.height y.height)) y.rest) (sym c.whole) (g.while c.derives f.derives);
        }))

    do_sound : (o : Token) (a : List Lexeme) → IfSome (do_read sub locals deep o.place a) (Found IsStmt (at (k.Word w.Do) o ∷ a))
    unfolding do_read
    do_sound o a =
        bind_all _ _ (deep a) _ (deep_sound a) (λ y f.
        bind_all _ _ (after_while y.rest) _ (after_while_sound y.rest) (λ t again.
        bind_all _ _ (condition sub locals deep t) _ (condition_sound t) (λ x c.
        bind_all _ _ (after_semicolon x.rest) _ (after_semicolon_sound x.rest) (λ u end.
        record {
          derives = g.do_while (subst (IsStmt a y.tree y.height) (again.1 ∙ ap (λ l. at (k.Word w.While) again.0 ∷ l) c.whole) f.derives)
              (subst (λ l. IsExpr e.expression c.inside x.tree x.height (at (k.Punct p.RightParen) c.last ∷ l)) end.1 c.derives);
        }))))

    head_sound : (a : List Lexeme) (is_declared : Bool) →
        IfSome (if is_declared then head_local sub locals deep a else head_expr sub locals deep a) (Found IsForHead a)
    unfolding head_local head_expr
    head_sound a true = bind_all _ _ (locals a) _ (locals_sound a) (λ x d. record { derives = g.head_local d.derives })
    head_sound a false =
        bind_all _ _ (optional after_semicolon sub a) _ (optional_sound p.Semicolon after_semicolon after_semicolon_sound a)
        (λ x d. record { derives = g.head_expr d.derives })

    for_sound : (o : Token) (a : List Lexeme) → IfSome (for_read sub locals deep o.place a) (Found IsStmt (at (k.Word w.For) o ∷ a))
    unfolding for_read
    for_sound o a =
        bind_all _ _ (after_left_paren a) _ (after_left_paren_sound a) (λ b begin.
        bind_all _ _ (for_head sub locals deep b) _ (head_sound b (begins_spec b)) (λ x d.
        bind_all _ _ (optional after_semicolon sub x.rest) _
        (optional_sound p.Semicolon after_semicolon after_semicolon_sound x.rest) (λ y f.
        bind_all _ _ (optional after_right_paren sub y.rest) _
        (optional_sound p.RightParen after_right_paren after_right_paren_sound y.rest) (λ z i.
        bind_all _ _ (deep z.rest) _ (deep_sound z.rest) (λ body j.
        record {
          derives =
              subst (λ l. IsStmt (at (k.Word w.For) o ∷ l) (st.For x.tree y.tree z.tree body.tree o.place)
              (suc (max x.height (max y.height (max z.height body.height)))) body.rest)
              (sym begin.1) (g.for d.derives f.derives i.derives j.derives);
        })))))

    break_sound : (o : Token) (a : List Lexeme) →
        IfSome (jump sub locals deep (st.Break o.place) a) (Found IsStmt (at (k.Word w.Break) o ∷ a))
    unfolding jump
    break_sound o a = bind_all _ _ (after_semicolon a) _ (after_semicolon_sound a) (λ t end.
        record { derives = subst (λ l. IsStmt (at (k.Word w.Break) o ∷ l) (st.Break o.place) 1 t) (sym end.1) g.break })

    continue_sound : (o : Token) (a : List Lexeme) →
        IfSome (jump sub locals deep (st.Continue o.place) a) (Found IsStmt (at (k.Word w.Continue) o ∷ a))
    unfolding jump
    continue_sound o a = bind_all _ _ (after_semicolon a) _ (after_semicolon_sound a) (λ t end.
        record { derives = subst (λ l. IsStmt (at (k.Word w.Continue) o ∷ l) (st.Continue o.place) 1 t) (sym end.1) g.continue })

    return_sound : (o : Token) (a : List Lexeme) → IfSome (returned sub locals deep o.place a) (Found IsStmt (at (k.Word w.Return) o ∷ a))
    unfolding returned
    return_sound o a =
        bind_all _ _ (optional after_semicolon sub a) _ (optional_sound p.Semicolon after_semicolon after_semicolon_sound a)
        (λ x d. record { derives = g.return d.derives })

    statement_by_sound : (a : List Lexeme) → IfSome (statement_by sub locals deep a) (Found IsStmt a)
    statement_by_sound [] = evaluation_sound []
    statement_by_sound (at (k.Punct p.LeftBrace) o ∷ t) = compound_sound o t
    statement_by_sound (at (k.Word w.If) o ∷ t) = if_sound o t
    statement_by_sound (at (k.Word w.Switch) o ∷ t) = switch_sound o t
    statement_by_sound (at (k.Word w.While) o ∷ t) = while_sound o t
    statement_by_sound (at (k.Word w.Do) o ∷ t) = do_sound o t
    statement_by_sound (at (k.Word w.For) o ∷ t) = for_sound o t
    statement_by_sound (at (k.Word w.Break) o ∷ t) = break_sound o t
    statement_by_sound (at (k.Word w.Continue) o ∷ t) = continue_sound o t
    statement_by_sound (at (k.Word w.Return) o ∷ t) = return_sound o t
    statement_by_sound (o ∷ t) = evaluation_sound (o ∷ t)

pub local_sound_at : (n : ℕ) (a : List Lexeme) → IfSome (local (declarator n) (initialiser n) a) (FoundLocal a)
local_sound_at n a = local_sound (declarator n) (declarator_sound n) (initialiser n) (initialiser_sound n) a

pub statement_sound : (n : ℕ) (a : List Lexeme) → IfSome (statement n a) (Found IsStmt a)
unfolding statement
statement_sound zero a = tt
statement_sound (suc n) a =
    statement_by_sound n (expression n) (expression_sound n) (local (declarator n) (initialiser n)) (local_sound_at n) (statement n)
    (statement_sound n) a
