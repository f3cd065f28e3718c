-- What is in the grammar is read: initialisers, declarations and statements.
use Rattle.std.proofs.Common.{◌≡◌, ℕ, zero, suc, ◌≤◌, max, List, [], ◌∷◌, length, Option, Some, None, Bool, true, false, refl, ◌∙◌, arith}
use Rattle.std.specs.Prelude.{if◌then◌else◌}
use Rattle.fc_base.specs.declared.refusals.Place.{Place}
use Rattle.c_tokens.specs.declared.puncts.Punct.TheVariants as p
use Rattle.c_tokens.specs.declared.tokens.Token.{Token}
use Rattle.c_tree.specs.declared.nodes.Expr.{Expr}
use Rattle.c_tree.specs.declared.nodes.Attribute.{Attribute}
use Rattle.c_tree.specs.declared.nodes.Spec.{Spec}
use Rattle.c_tree.specs.declared.statements.Init.{Init}
use Rattle.c_tree.specs.declared.statements.InitDeclarator.{InitDeclarator}
use Rattle.c_tree.specs.declared.statements.ForHead.{ForHead}
use Rattle.c_tree.specs.declared.statements.Stmt.{Stmt}
use Rattle.c_tree.specs.declared.statements.Stmt.TheVariants as st
use Rattle.parse_meaning.specs.declared.terminals.Keyword.TheVariants as w
use Rattle.parse_meaning.specs.declared.terminals.Terminal.TheVariants as k
use Rattle.parse_meaning.specs.Terminals.{Lexeme, at}
use Rattle.parse_reading.specs.Reading.{Read, ◌>>=◌, found, prepended, after_right_paren, begins_spec, plain_spec, expression}
use Rattle.parse_reading.specs.ReadingDeclarators.{Named, declarator}
use Rattle.c_tokens.specs.declared.puncts.Punct.{Punct}
use Rattle.parse_meaning.specs.Specifiers.{block}
use Rattle.parse_meaning.specs.Expressions as e
use Rattle.parse_meaning.specs.Expressions.{Declared, IsExpr, IsDeclarator, AreSpecs, IsAttributeList}
use Rattle.parse_meaning.specs.Statements as g
use Rattle.parse_meaning.specs.Statements.{IsInit, AreInits, AreAttributeLists, IsInitDeclarator, AreInitDeclarators, IsLocal, IsOptional, IsLabel, IsForHead, IsStmt, AreItems, AreCases, AreLabelled, begins_else, are_objects}
use Rattle.parse_reading.specs.ReadingStatements.{after_semicolon, inits_comma, inits, init_list, init_expr, init_by, initialiser, lists_by, attribute_lists, Local, as_init, initialised, init_behind, init_declarator, init_declarators, local, ended, optional, case_label, default_label, label, begins_label, with_stmt, labelled_by, labelled, cases, declared_item, items_by, items, compound, evaluation, condition, otherwise, if_read, switch_read, while_read, do_read, head_local, head_expr, for_head, for_read, jump, returned, statement_by, statement}
use Rattle.parse_meaning.specs.declared.terminals.Keyword.{Keyword}
use Rattle.parse_meaning.proofs.Alone.{alike_shorter, list_moves}
use Rattle.parse_meaning.proofs.AloneStatements.{init_moves, init_declarator_moves, local_moves, label_moves, stmt_moves}
use Rattle.parse_reading.proofs.CompleteParts.{list_reads, EndsSpecs, specs_begin, specs_read, plain_read}
use Rattle.parse_reading.proofs.Complete.{Ends, ReadsAll, begins_expr, starts, expr_begins, expr_higher, no_spec}
use Rattle.parse_reading.proofs.CompleteExprs.{expression_reads}
use Rattle.parse_reading.proofs.CompleteDeclarators.{ReadsNamed, goes_on, declarator_ends_specs, declarator_reads}

-- ---- Initialisers

-- initialisers up to a height are read
abbrev pub ReadsInits : ℕ → (List Lexeme → Option (Read Init)) → Type 0
ReadsInits n deep = (h : ℕ) (a t : List Lexeme) (x : Init) → IsInit a x h t → h ≤ n → Ends e.assignment t → deep a ≡ Some (found x h t)

init_higher : {h : ℕ} {a t : List Lexeme} {x : Init} → IsInit a x h t → 1 ≤ h
init_higher (g.init_expr d) = expr_higher d
init_higher (g.init_list d) = omega arith

module _ (n : ℕ) (deep : List Lexeme → Option (Read Init)) (deep_full : ReadsInits n deep) where
  brace_is : (later : List Lexeme → Option (Read (List Init))) (x : Read Init) (t : List Lexeme) → begins_expr t ≡ true →
      inits_comma deep later x t ≡ prepended (x.tree ∷ []) x.height (later t)
  brace_is later x [] f = refl
  brace_is later x (at (k.Punct p.RightBrace) o ∷ t) f = cc
  brace_is later x (at _ o ∷ t) f = refl

  comma_is : (later : List Lexeme → Option (Read (List Init))) (x : Read Init) {h : ℕ} {a t : List Lexeme} {y : Init} → IsInit a y h t →
      inits_comma deep later x a ≡ prepended (x.tree ∷ []) x.height (later a)
  comma_is later x {a = a} (g.init_expr d) = brace_is later x a (expr_begins d)
  comma_is later x (g.init_list d) = refl

  commas_are : (later : List Lexeme → Option (Read (List Init))) (x : Read Init) {h : ℕ} {a t : List Lexeme} {ys : List Init} →
      AreInits a ys h t → inits_comma deep later x a ≡ prepended (x.tree ∷ []) x.height (later a)
  commas_are later x (g.last_init d) = comma_is later x d
  commas_are later x (g.last_init_comma d) = comma_is later x d
  commas_are later x (g.more_inits d i) = comma_is later x d

  inits_read : (m : ℕ) {h : ℕ} {a t : List Lexeme} {xs : List Init} → AreInits a xs h t → h ≤ n → length a ≤ m →
      inits deep m a ≡ Some (found xs h t)
  unfolding inits
  inits_read zero (g.last_init d) low room = absurd (omega (arith, alike_shorter (init_moves d []).1))
  inits_read zero (g.last_init_comma d) low room = absurd (omega (arith, alike_shorter (init_moves d []).1))
  inits_read zero (g.more_inits d i) low room = absurd (omega (arith, alike_shorter (init_moves d []).1))
  inits_read (suc m) (g.last_init d) low room = rw (deep_full _ _ _ _ d low (record { stops = omega arith; last = omega arith })) refl
  inits_read (suc m) (g.last_init_comma d) low room = rw (deep_full _ _ _ _ d low (record { stops = omega arith; last = omega arith })) refl
  inits_read (suc m) (g.more_inits {h = h} {o = o} {t = t} {x = x} d i) low room =
      rw (deep_full _ _ _ _ d (omega arith) (record { stops = omega arith; last = omega arith }))
      (commas_are (inits deep m) (found x h (at (k.Punct p.Comma) o ∷ t)) i
      ∙ rw (inits_read m i (omega arith) (omega (arith, alike_shorter (init_moves d []).1))) refl)

  module _ (sub : ℕ → List Lexeme → Option (Read Expr)) (full : ReadsAll (suc n) sub) where
    init_is : (a : List Lexeme) → begins_expr a ≡ true → init_by deep sub a ≡ init_expr deep sub a
    init_is [] f = refl
    init_is (at (k.Punct p.LeftBrace) o ∷ t) f = cc
    init_is (at _ o ∷ t) f = refl

    init_by_reads : {h : ℕ} {a t : List Lexeme} {x : Init} → IsInit a x h t → h ≤ suc n → Ends e.assignment t →
        init_by deep sub a ≡ Some (found x h t)
    unfolding init_expr init_list
    init_by_reads (g.init_expr {a = a} d) low ends = init_is a (expr_begins d) ∙ rw (full _ _ _ _ _ d low ends) refl
    init_by_reads (g.init_list {t = t} d) low ends = rw (inits_read (length t) d (omega arith) (omega arith)) refl

pub initialiser_reads : (n : ℕ) → ReadsInits n (initialiser n)
unfolding initialiser
initialiser_reads zero h a t x d low ends = absurd (omega (arith, init_higher d))
initialiser_reads (suc n) h a t x d low ends =
    init_by_reads n (initialiser n) (initialiser_reads n) (expression (suc n)) (expression_reads (suc n)) d low ends

-- ---- Declarations

abbrev begins_list : List Lexeme → Bool
begins_list (at (k.Word w.Attribute) o ∷ t) = true
begins_list _ = false

abbrev begins_assign : List Lexeme → Bool
begins_assign (at (k.Punct p.Assign) o ∷ t) = true
begins_assign _ = false

no_list : (later : List Lexeme → Option (List (List Attribute) × List Lexeme)) (t : List Lexeme) → begins_list t ≡ false →
    lists_by later t ≡ Some ([], t)
no_list later [] f = refl
no_list later (at (k.Word w.Attribute) o ∷ t) f = cc
no_list later (at _ o ∷ t) f = refl

list_at : (later : List Lexeme → Option (List (List Attribute) × List Lexeme)) (o : Token)
    (a : List Lexeme) {t : List Lexeme} {x : List Attribute} → IsAttributeList (at (k.Word w.Attribute) o ∷ a) x t →
    lists_by later (at (k.Word w.Attribute) o ∷ a) ≡ (later t >>= λ xs. Some (x ∷ xs.0, xs.1))
list_at later o a d = rw (list_reads d) refl

one_list : (later : List Lexeme → Option (List (List Attribute) × List Lexeme)) {a t : List Lexeme} {x : List Attribute} →
    IsAttributeList a x t →
    lists_by later a ≡ (later t >>= λ xs. Some (x ∷ xs.0, xs.1))
one_list later (e.empty_attributes {o = o}) = list_at later o _ e.empty_attributes
one_list later (e.some_attributes {o = o} d) = list_at later o _ (e.some_attributes d)

lists_read : (m : ℕ) {a t : List Lexeme} {xs : List (List Attribute)} → AreAttributeLists a xs t → length a ≤ m → begins_list t ≡ false →
    attribute_lists m a ≡ Some (xs, t)
unfolding attribute_lists
lists_read zero (g.no_lists {t = t}) room f = no_list (λ t. None) t f
lists_read (suc m) (g.no_lists {t = t}) room f = no_list (attribute_lists m) t f
lists_read zero (g.more_lists d i) room f = absurd (omega (arith, alike_shorter (list_moves d []).1))
lists_read (suc m) (g.more_lists d i) room f =
    one_list (attribute_lists m) d ∙ rw (lists_read m i (omega (arith, alike_shorter (list_moves d []).1)) f) refl

list_stops : {a t : List Lexeme} {x : List Attribute} → IsAttributeList a x t → goes_on a ≡ false
list_stops e.empty_attributes = refl
list_stops (e.some_attributes d) = refl

pub lists_stop : {a t : List Lexeme} {xs : List (List Attribute)} → AreAttributeLists a xs t → goes_on t ≡ false → goes_on a ≡ false
lists_stop g.no_lists f = f
lists_stop (g.more_lists d i) f = list_stops d

-- a declarator with its initialiser ends before these tokens
record EndsInit (t : List Lexeme) : Type 0 where
  stops : goes_on t ≡ false
  no_more_lists : begins_list t ≡ false
  no_value : begins_assign t ≡ false
  value_ends : Ends e.assignment t

module _ (n : ℕ) (named : List Lexeme → Option (Read Named)) (named_full : ReadsNamed n named) (init : List Lexeme → Option (Read Init))
    (init_full : ReadsInits n init) where
  init_none : (x : Read Named) (xs : List (List Attribute)) (u : List Lexeme) → begins_assign u ≡ false →
      init_behind named init x xs u ≡ Some (found (as_init x.tree.tree xs None x.tree.declared) x.height u)
  init_none x xs [] f = refl
  init_none x xs (at (k.Punct p.Assign) o ∷ u) f = cc
  init_none x xs (at _ o ∷ u) f = refl

  init_declarator_reads : {h : ℕ} {a t : List Lexeme} {x : InitDeclarator} {c : Declared} → IsInitDeclarator a x c h t → h ≤ n →
      EndsInit t →
      init_declarator named init a ≡ Some (found (record { tree = x; declared = c }) h t)
  unfolding init_declarator initialised
  init_declarator_reads (g.uninitialised {h = h} {t = t} {u = u} {x = x} {n = c} {xs = xs} d i) low ends =
      rw (named_full _ _ _ _ _ d low (lists_stop i ends.stops), lists_read (length t) i (omega arith) ends.no_more_lists)
      (init_none (found (record { tree = x; declared = c }) h t) xs u ends.no_value)
  init_declarator_reads (g.initialised {t = t} d i j) low ends =
      rw (
        named_full _ _ _ _ _ d (omega arith) (lists_stop i refl),
        lists_read (length t) i (omega arith) refl,
        init_full _ _ _ _ j (omega arith) ends.value_ends,
      ) refl

  semicolon_ends : (o : Token) (t : List Lexeme) → EndsInit (at (k.Punct p.Semicolon) o ∷ t)
  semicolon_ends o t =
      record { stops = refl; no_more_lists = refl; no_value = refl; value_ends = record { stops = omega arith; last = omega arith } }

  comma_ends : (o : Token) (t : List Lexeme) → EndsInit (at (k.Punct p.Comma) o ∷ t)
  comma_ends o t =
      record { stops = refl; no_more_lists = refl; no_value = refl; value_ends = record { stops = omega arith; last = omega arith } }

  pub init_declarators_read : (m : ℕ) {h : ℕ} {a t : List Lexeme} {xs : List InitDeclarator} {cs : List Declared} →
      AreInitDeclarators a xs cs h t → h ≤ n → length a ≤ m →
      init_declarators named init m a ≡ Some (found (record { trees = xs; declared = cs }) h t)
  unfolding init_declarators
  init_declarators_read zero (g.last_init_declarator d) low room = absurd (omega (arith, alike_shorter (init_declarator_moves d []).1))
  init_declarators_read zero (g.more_init_declarators d i) low room = absurd (omega (arith, alike_shorter (init_declarator_moves d []).1))
  init_declarators_read (suc m) (g.last_init_declarator {o = o} {t = t} d) low room =
      rw (init_declarator_reads d low (semicolon_ends o t)) refl
  init_declarators_read (suc m) (g.more_init_declarators {o = o} {t = t} d i) low room =
      rw (
        init_declarator_reads d (omega arith) (comma_ends o t),
        init_declarators_read m i (omega arith) (omega (arith, alike_shorter (init_declarator_moves d []).1)),
      ) refl

  init_declarator_ends : {h : ℕ} {a t : List Lexeme} {x : InitDeclarator} {c : Declared} → IsInitDeclarator a x c h t → EndsSpecs a
  init_declarator_ends (g.uninitialised d i) = declarator_ends_specs d
  init_declarator_ends (g.initialised d i j) = declarator_ends_specs d

  pub init_declarators_end : {h : ℕ} {a t : List Lexeme} {xs : List InitDeclarator} {cs : List Declared} →
      AreInitDeclarators a xs cs h t → EndsSpecs a
  init_declarators_end (g.last_init_declarator d) = init_declarator_ends d
  init_declarators_end (g.more_init_declarators d i) = init_declarator_ends d

  local_reads : {h : ℕ} {a t : List Lexeme} {xs : List Spec} {ys : List InitDeclarator} → IsLocal a xs ys h t → h ≤ n →
      local named init a ≡ Some (found (record { specs = xs; declarators = ys }) h t)
  unfolding local
  local_reads (g.local {t = t} d i objects) low =
      rw (
        specs_read block n plain_spec (plain_read block n refl) d (omega arith) (init_declarators_end i),
        init_declarators_read (length t) i (omega arith) (omega arith),
        objects,
      ) refl

-- declarations in blocks up to a height are read
abbrev pub ReadsLocals : ℕ → (List Lexeme → Option (Read Local)) → Type 0
ReadsLocals n locals = (h : ℕ) (a t : List Lexeme) (xs : List Spec) (ys : List InitDeclarator) → IsLocal a xs ys h t → h ≤ n →
    locals a ≡ Some (found (record { specs = xs; declarators = ys }) h t)

pub local_reads_at : (n : ℕ) → ReadsLocals n (local (declarator n) (initialiser n))
local_reads_at n h a t xs ys d low = local_reads n (declarator n) (declarator_reads n) (initialiser n) (initialiser_reads n) d low

local_begins : {h : ℕ} {a t : List Lexeme} {xs : List Spec} {ys : List InitDeclarator} → IsLocal a xs ys h t → begins_spec a ≡ true
local_begins (g.local d i objects) = specs_begin d

-- ---- Statements

-- a function that takes a punctuator
record Takes (b : Punct) (after : List Lexeme → Option (List Lexeme)) : Type 0 where
  here : (o : Token) (t : List Lexeme) → after (at (k.Punct b) o ∷ t) ≡ Some t
  nowhere : (a : List Lexeme) → begins_expr a ≡ true → after a ≡ None
  ends : (o : Token) (t : List Lexeme) → Ends e.expression (at (k.Punct b) o ∷ t)

no_semicolon : (a : List Lexeme) → begins_expr a ≡ true → after_semicolon a ≡ None
no_semicolon [] f = refl
no_semicolon (at (k.Punct p.Semicolon) o ∷ t) f = cc
no_semicolon (at _ o ∷ t) f = refl

no_paren : (a : List Lexeme) → begins_expr a ≡ true → after_right_paren a ≡ None
no_paren [] f = refl
no_paren (at (k.Punct p.RightParen) o ∷ t) f = cc
no_paren (at _ o ∷ t) f = refl

takes_semicolon : Takes p.Semicolon after_semicolon
takes_semicolon = record { here = λ o t. refl; nowhere = no_semicolon; ends = λ o t. record { stops = omega arith; last = omega arith } }

takes_paren : Takes p.RightParen after_right_paren
takes_paren = record { here = λ o t. refl; nowhere = no_paren; ends = λ o t. record { stops = omega arith; last = omega arith } }

abbrev closes : List Lexeme → Bool
closes (at (k.Punct p.RightBrace) o ∷ t) = true
closes _ = false

no_close : (a : List Lexeme) → begins_expr a ≡ true → closes a ≡ false
no_close [] f = refl
no_close (at (k.Punct p.RightBrace) o ∷ t) f = cc
no_close (at _ o ∷ t) f = refl

spec_no_close : (a : List Lexeme) → begins_spec a ≡ true → closes a ≡ false
spec_no_close [] f = refl
spec_no_close (at (k.Punct p.RightBrace) o ∷ t) f = cc
spec_no_close (at _ o ∷ t) f = refl

module _ (n : ℕ) (sub : ℕ → List Lexeme → Option (Read Expr)) (full : ReadsAll n sub) where
  optional_reads : (b : Punct) (after : List Lexeme → Option (List Lexeme)) → Takes b after →
      {h : ℕ} {a t : List Lexeme} {x : Option Expr} → IsOptional b a x h t → h ≤ n →
      optional after sub a ≡ Some (found x h t)
  unfolding ended
  optional_reads b after takes (g.no_expr {o = o} {t = t}) low = rw (takes.here o t) refl
  optional_reads b after takes (g.some_expr {o = o} {a = a} {t = t} d) low =
      rw (takes.nowhere a (expr_begins d), full _ _ _ _ _ d low (takes.ends o t), takes.here o t) refl

  module _ (locals : List Lexeme → Option (Read Local)) (locals_full : ReadsLocals n locals)
      (deep : List Lexeme → Option (Read Stmt)) (deep_full : (h : ℕ) (a t : List Lexeme) (x : Stmt) → IsStmt a x h t → h ≤ n →
      deep a ≡ Some (found x h t)) where
    no_label : (a : List Lexeme) → begins_expr a ≡ true → begins_label sub locals deep a ≡ false
    no_label [] f = refl
    no_label (at (k.Word word) o ∷ t) f = go word f
      where
        go : (word : Keyword) → starts (k.Word word) ≡ true → begins_label sub locals deep (at (k.Word word) o ∷ t) ≡ false
        go w.Case f = cc
        go w.Default f = cc
        go _ f = refl
    no_label (at _ o ∷ t) f = refl

    label_reads : {h : ℕ} {a t : List Lexeme} {x : Stmt} → IsLabel a x h t → h ≤ suc n → label sub locals deep a ≡ Some (found x h t)
    unfolding case_label default_label
    label_reads (g.case d) low = rw (full _ _ _ _ _ d (omega arith) (record { stops = omega arith; last = omega arith })) refl
    label_reads g.default low = refl

    -- what a statement doesn't begin with
    record Opens (a : List Lexeme) : Type 0 where
      no_type : begins_spec a ≡ false
      open_still : closes a ≡ false
      unlabelled : begins_label sub locals deep a ≡ false

    opens_stmt : {h : ℕ} {a t : List Lexeme} {x : Stmt} → IsStmt a x h t → Opens a
    opens_stmt (g.compound d) = record { no_type = refl; open_still = refl; unlabelled = refl }
    opens_stmt (g.evaluation g.no_expr) = record { no_type = refl; open_still = refl; unlabelled = refl }
    opens_stmt (g.evaluation (g.some_expr {a = a} d)) =
        record { no_type = no_spec a (expr_begins d); open_still = no_close a (expr_begins d); unlabelled = no_label a (expr_begins d) }
    opens_stmt (g.if_only d i none) = record { no_type = refl; open_still = refl; unlabelled = refl }
    opens_stmt (g.if_else d i j) = record { no_type = refl; open_still = refl; unlabelled = refl }
    opens_stmt (g.switch d i) = record { no_type = refl; open_still = refl; unlabelled = refl }
    opens_stmt (g.while d i) = record { no_type = refl; open_still = refl; unlabelled = refl }
    opens_stmt (g.do_while d i) = record { no_type = refl; open_still = refl; unlabelled = refl }
    opens_stmt (g.for d i j l) = record { no_type = refl; open_still = refl; unlabelled = refl }
    opens_stmt g.break = record { no_type = refl; open_still = refl; unlabelled = refl }
    opens_stmt g.continue = record { no_type = refl; open_still = refl; unlabelled = refl }
    opens_stmt (g.return d) = record { no_type = refl; open_still = refl; unlabelled = refl }

    -- ---- Lists of statements

    labelled_is : (later : List Lexeme → Option (Read (List Stmt))) (a : List Lexeme) → closes a ≡ false →
        labelled_by sub locals deep later a ≡ with_stmt sub locals deep later
        (if begins_label sub locals deep a then label sub locals deep a else deep a)
    labelled_is later [] f = refl
    labelled_is later (at (k.Punct p.RightBrace) o ∷ t) f = cc
    labelled_is later (at _ o ∷ t) f = refl

    items_is : (later : List Lexeme → Option (Read (List Stmt))) (a : List Lexeme) → closes a ≡ false →
        items_by sub locals deep later a ≡ with_stmt sub locals deep later
        (if begins_spec a then declared_item sub locals deep a else deep a)
    items_is later [] f = refl
    items_is later (at (k.Punct p.RightBrace) o ∷ t) f = cc
    items_is later (at _ o ∷ t) f = refl

    label_begins : {h : ℕ} {a t : List Lexeme} {x : Stmt} → IsLabel a x h t → (begins_label sub locals deep a ≡ true) × (closes a ≡ false)
    label_begins (g.case d) = (refl, refl)
    label_begins g.default = (refl, refl)

    labelled_read : (m : ℕ) {h : ℕ} {a t : List Lexeme} {xs : List Stmt} → AreLabelled a xs h t → h ≤ n → length a ≤ m →
        labelled sub locals deep m a ≡ Some (found xs h t)
    unfolding labelled with_stmt
    labelled_read zero g.labels_end low room = refl
    labelled_read (suc m) g.labels_end low room = refl
    labelled_read zero (g.next_label d i) low room = absurd (omega (arith, alike_shorter (label_moves d []).1))
    labelled_read zero (g.next_stmt d i) low room = absurd (omega (arith, alike_shorter (stmt_moves d [] (λ f. refl)).1))
    labelled_read (suc m) (g.next_label {a = a} d i) low room =
        let b = label_begins d in
        let read : label sub locals deep a ≡ _ = label_reads d (omega arith) in
        labelled_is (labelled sub locals deep m) a b.1
        ∙ rw (b.0, read, labelled_read m i (omega arith) (omega (arith, alike_shorter (label_moves d []).1))) refl
    labelled_read (suc m) (g.next_stmt {a = a} d i) low room =
        let b = opens_stmt d in
        labelled_is (labelled sub locals deep m) a b.open_still
        ∙ rw (
          b.unlabelled,
          deep_full _ _ _ _ d (omega arith),
          labelled_read m i (omega arith) (omega (arith, alike_shorter (stmt_moves d [] (λ f. refl)).1)),
        ) refl

    first_is : {h : ℕ} {a t : List Lexeme} {x : Stmt} → IsLabel a x h t →
        cases sub locals deep a ≡ with_stmt sub locals deep (labelled sub locals deep (length a)) (label sub locals deep a)
    first_is (g.case d) = refl
    first_is g.default = refl

    cases_read : {h : ℕ} {a t : List Lexeme} {xs : List Stmt} → AreCases a xs h t → h ≤ n → cases sub locals deep a ≡ Some (found xs h t)
    unfolding with_stmt
    cases_read g.no_cases low = refl
    cases_read (g.first_label {a = a} d i) low =
        first_is d ∙ rw (
          label_reads d (omega arith),
          labelled_read (length a) i (omega arith) (omega (arith, alike_shorter (label_moves d []).1)),
        ) refl

    pub items_read : (m : ℕ) {h : ℕ} {a t : List Lexeme} {xs : List Stmt} → AreItems a xs h t → h ≤ n → length a ≤ m →
        items sub locals deep m a ≡ Some (found xs h t)
    unfolding items with_stmt declared_item
    items_read zero g.no_items low room = refl
    items_read (suc m) g.no_items low room = refl
    items_read zero (g.item_declared d i) low room = absurd (omega (arith, alike_shorter (local_moves d []).1))
    items_read zero (g.item_stated d i) low room = absurd (omega (arith, alike_shorter (stmt_moves d [] (λ f. refl)).1))
    items_read (suc m) (g.item_declared {a = a} d i) low room =
        items_is (items sub locals deep m) a (spec_no_close a (local_begins d))
        ∙ rw (
          local_begins d,
          locals_full _ _ _ _ _ d (omega arith),
          items_read m i (omega arith) (omega (arith, alike_shorter (local_moves d []).1)),
        ) refl
    items_read (suc m) (g.item_stated {a = a} d i) low room =
        let b = opens_stmt d in
        items_is (items sub locals deep m) a b.open_still
        ∙ rw (
          b.no_type,
          deep_full _ _ _ _ d (omega arith),
          items_read m i (omega arith) (omega (arith, alike_shorter (stmt_moves d [] (λ f. refl)).1)),
        ) refl

    -- ---- Statements

    evaluation_is : (a : List Lexeme) → begins_expr a ≡ true → statement_by sub locals deep a ≡ evaluation sub locals deep a
    evaluation_is [] f = refl
    evaluation_is (at (k.Punct p.LeftBrace) o ∷ t) f = cc
    evaluation_is (at (k.Word word) o ∷ t) f = go word f
      where
        go : (word : Keyword) → starts (k.Word word) ≡ true →
            statement_by sub locals deep (at (k.Word word) o ∷ t) ≡ evaluation sub locals deep (at (k.Word word) o ∷ t)
        go w.Sizeof f = refl
        go w.DynamicObjectSize f = refl
        go _ f = cc
    evaluation_is (at _ o ∷ t) f = refl

    evaluation_at : {h : ℕ} {a t : List Lexeme} {x : Option Expr} → IsOptional p.Semicolon a x h t →
        statement_by sub locals deep a ≡ evaluation sub locals deep a
    evaluation_at g.no_expr = refl
    evaluation_at (g.some_expr {a = a} d) = evaluation_is a (expr_begins d)

    condition_reads : {h : ℕ} (o : Token) {q : Token} {a t : List Lexeme} {x : Expr} →
        IsExpr e.expression a x h (at (k.Punct p.RightParen) q ∷ t) → h ≤ n →
        condition sub locals deep (at (k.Punct p.LeftParen) o ∷ a) ≡ Some (found x h t)
    unfolding condition
    condition_reads o d low = rw (full _ _ _ _ _ d low (record { stops = omega arith; last = omega arith })) refl

    otherwise_none : (place : Place) (x : Expr) (h : ℕ) (y : Stmt) (j : ℕ) (u : List Lexeme) → begins_else u ≡ false →
        otherwise sub locals deep place x h y j u ≡ Some (found (st.If x y None place) (suc (max h j)) u)
    otherwise_none place x h y j [] f = refl
    otherwise_none place x h y j (at (k.Word w.Else) o ∷ u) f = cc
    otherwise_none place x h y j (at _ o ∷ u) f = refl

    head_reads : {h : ℕ} {a t : List Lexeme} {x : ForHead} → IsForHead a x h t → h ≤ n → for_head sub locals deep a ≡ Some (found x h t)
    unfolding head_local head_expr
    head_reads (g.head_expr d) low = rw (plain d, optional_reads p.Semicolon after_semicolon takes_semicolon d low) refl
      where
        plain : {h : ℕ} {a t : List Lexeme} {x : Option Expr} → IsOptional p.Semicolon a x h t → begins_spec a ≡ false
        plain g.no_expr = refl
        plain (g.some_expr {a = a} d) = no_spec a (expr_begins d)
    head_reads (g.head_local d) low = rw (local_begins d, locals_full _ _ _ _ _ d low) refl

    statement_by_reads : {h : ℕ} {a t : List Lexeme} {x : Stmt} → IsStmt a x h t → h ≤ suc n →
        statement_by sub locals deep a ≡ Some (found x h t)
    unfolding compound evaluation if_read switch_read while_read do_read for_read jump returned
    statement_by_reads (g.compound {t = t} d) low = rw (items_read (length t) d (omega arith) (omega arith)) refl
    statement_by_reads (g.evaluation d) low =
        evaluation_at d ∙ rw (optional_reads p.Semicolon after_semicolon takes_semicolon d (omega arith)) refl
    statement_by_reads (g.if_only {h = h} {j = j} {o = o} {q = q} {u = u} {x = x} {y = y} d i none) low =
        rw (condition_reads q d (omega arith), deep_full _ _ _ _ i (omega arith)) (otherwise_none o.place x h y j u none)
    statement_by_reads (g.if_else {q = q} d i j) low =
        rw (condition_reads q d (omega arith), deep_full _ _ _ _ i (omega arith), deep_full _ _ _ _ j (omega arith)) refl
    statement_by_reads (g.switch {q = q} d i) low = rw (condition_reads q d (omega arith), cases_read i (omega arith)) refl
    statement_by_reads (g.while {q = q} d i) low = rw (condition_reads q d (omega arith), deep_full _ _ _ _ i (omega arith)) refl
    statement_by_reads (g.do_while {r = r} d i) low = rw (deep_full _ _ _ _ d (omega arith), condition_reads r i (omega arith)) refl
    statement_by_reads (g.for d i j l) low =
        rw (
          head_reads d (omega arith),
          optional_reads p.Semicolon after_semicolon takes_semicolon i (omega arith),
          optional_reads p.RightParen after_right_paren takes_paren j (omega arith),
          deep_full _ _ _ _ l (omega arith),
        ) refl
    statement_by_reads g.break low = refl
    statement_by_reads g.continue low = refl
    statement_by_reads (g.return d) low = rw (optional_reads p.Semicolon after_semicolon takes_semicolon d (omega arith)) refl

stmt_higher : {h : ℕ} {a t : List Lexeme} {x : Stmt} → IsStmt a x h t → 1 ≤ h
stmt_higher (g.compound d) = omega arith
stmt_higher _ = omega arith

pub statement_reads : (n h : ℕ) (a t : List Lexeme) (x : Stmt) → IsStmt a x h t → h ≤ n → statement n a ≡ Some (found x h t)
unfolding statement
statement_reads zero h a t x d low = absurd (omega (arith, stmt_higher d))
statement_reads (suc n) h a t x d low =
    statement_by_reads n (expression n) (expression_reads n) (local (declarator n) (initialiser n)) (local_reads_at n) (statement n)
    (statement_reads n) d low
