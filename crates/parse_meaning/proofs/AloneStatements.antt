-- A derivation doesn't look past its tokens: declarations, statements and external declarations.
use Rattle.std.proofs.Common.{◌≡◌, ℕ, suc, max, List, [], ◌∷◌, ◌++◌, Option, false, refl, sym, subst}
use Rattle.c_tokens.specs.declared.puncts.Punct.TheVariants as p
use Rattle.c_tokens.specs.declared.tokens.Token.{Token}
use Rattle.c_tree.specs.declared.nodes.Expr.{Expr}
use Rattle.c_tree.specs.declared.nodes.Attribute.{Attribute}
use Rattle.c_tree.specs.declared.nodes.Spec.{Spec}
use Rattle.c_tree.specs.declared.statements.Init.{Init}
use Rattle.c_tree.specs.declared.statements.InitDeclarator.{InitDeclarator}
use Rattle.c_tree.specs.declared.statements.ForHead.{ForHead}
use Rattle.c_tree.specs.declared.statements.Stmt.{Stmt}
use Rattle.c_tree.specs.declared.statements.Stmt.TheVariants as st
use Rattle.parse_meaning.specs.declared.terminals.Keyword.TheVariants as w
use Rattle.parse_meaning.specs.declared.terminals.Terminal.TheVariants as k
use Rattle.parse_meaning.specs.Terminals.{Lexeme, at}
use Rattle.c_tokens.specs.declared.puncts.Punct.{Punct}
use Rattle.parse_meaning.specs.declared.terminals.Terminal.{Terminal}
use Rattle.parse_meaning.specs.Expressions.{Declared}
use Rattle.parse_meaning.specs.Statements as g
use Rattle.parse_meaning.specs.Statements.{IsInit, AreInits, AreAttributeLists, IsInitDeclarator, AreInitDeclarators, IsLocal, IsOptional, IsLabel, IsForHead, IsStmt, AreItems, AreCases, AreLabelled, begins_else, are_objects}
use Rattle.c_tree.specs.declared.externals.External.{External}
use Rattle.c_tree.specs.declared.externals.External.TheVariants as x
use Rattle.parse_meaning.specs.File as f
use Rattle.parse_meaning.specs.File.{IsExternal, type_names}
use Rattle.parse_meaning.proofs.Alone.{same, more, AlikeSome, some, past, then_any, any, alike_before, alike_after, same_place, Moved, MovedSome, expr_moves, list_moves, declarator_moves, specs_move}

mutual
  pub init_moves : {h : ℕ} {a t : List Lexeme} {y : Init} → IsInit a y h t → (q : List Lexeme) → MovedSome (λ v q. IsInit v y h q) a t q
  init_moves (g.init_expr d) q = let m = expr_moves d q in (m.0, m.1, g.init_expr m.2)
  init_moves (g.init_list {o = o} d) q = let m = inits_move d q in (at (k.Punct p.LeftBrace) o ∷ m.0, some (any m.1), g.init_list m.2)

  pub inits_move : {h : ℕ} {a t : List Lexeme} {ys : List Init} → AreInits a ys h t → (q : List Lexeme) →
      MovedSome (λ v q. AreInits v ys h q) a t q
  inits_move (g.last_init {o = o} d) q =
      let m = init_moves d (at (k.Punct p.RightBrace) o ∷ q) in (m.0, then_any m.1 (more same), g.last_init m.2)
  inits_move (g.last_init_comma {o = o} {q = r} d) q =
      let m = init_moves d (at (k.Punct p.Comma) o ∷ at (k.Punct p.RightBrace) r ∷ q) in
      (m.0, then_any m.1 (more (more same)), g.last_init_comma m.2)
  inits_move (g.more_inits {o = o} d i) q =
      let n = inits_move i q in let m = init_moves d (at (k.Punct p.Comma) o ∷ n.0) in
      (m.0, then_any m.1 (more (any n.1)), g.more_inits m.2 n.2)

pub lists_move : {a t : List Lexeme} {ys : List (List Attribute)} → AreAttributeLists a ys t → (q : List Lexeme) →
    Moved (λ v q. AreAttributeLists v ys q) a t q
lists_move g.no_lists q = (q, same, g.no_lists)
lists_move (g.more_lists d i) q = let n = lists_move i q in let m = list_moves d n.0 in (m.0, past (any m.1) n.1, g.more_lists m.2 n.2)

pub init_declarator_moves : {h : ℕ} {a t : List Lexeme} {y : InitDeclarator} {c : Declared} → IsInitDeclarator a y c h t →
    (q : List Lexeme) → MovedSome (λ v q. IsInitDeclarator v y c h q) a t q
init_declarator_moves (g.uninitialised d i) q =
    let n = lists_move i q in let m = declarator_moves d n.0 in (m.0, then_any m.1 n.1, g.uninitialised m.2 n.2)
init_declarator_moves (g.initialised {o = o} d i j) q =
    let b = init_moves j q in let n = lists_move i (at (k.Punct p.Assign) o ∷ b.0) in let m = declarator_moves d n.0 in
    (m.0, then_any m.1 (past n.1 (more (any b.1))), g.initialised m.2 n.2 b.2)

pub init_declarators_move : {h : ℕ} {a t : List Lexeme} {ys : List InitDeclarator} {cs : List Declared} → AreInitDeclarators a ys cs h t →
    (q : List Lexeme) →
    MovedSome (λ v q. AreInitDeclarators v ys cs h q) a t q
init_declarators_move (g.last_init_declarator {o = o} d) q =
    let m = init_declarator_moves d (at (k.Punct p.Semicolon) o ∷ q) in (m.0, then_any m.1 (more same), g.last_init_declarator m.2)
init_declarators_move (g.more_init_declarators {o = o} d i) q =
    let n = init_declarators_move i q in let m = init_declarator_moves d (at (k.Punct p.Comma) o ∷ n.0) in
    (m.0, then_any m.1 (more (any n.1)), g.more_init_declarators m.2 n.2)

pub local_moves : {h : ℕ} {a t : List Lexeme} {ys : List Spec} {zs : List InitDeclarator} → IsLocal a ys zs h t → (q : List Lexeme) →
    MovedSome (λ v q. IsLocal v ys zs h q) a t q
local_moves (g.local d i objects) q =
    let n = init_declarators_move i q in let m = specs_move d n.0 in (m.0, then_any m.1 (any n.1), g.local m.2 n.2 objects)

pub optional_moves : {b : Punct} {h : ℕ} {a t : List Lexeme} {y : Option Expr} → IsOptional b a y h t → (q : List Lexeme) →
    MovedSome (λ v q. IsOptional b v y h q) a t q
optional_moves (g.no_expr {b = b} {o = o}) q = (at (k.Punct b) o ∷ q, some same, g.no_expr)
optional_moves (g.some_expr {b = b} {o = o} d) q =
    let m = expr_moves d (at (k.Punct b) o ∷ q) in (m.0, then_any m.1 (more same), g.some_expr m.2)

pub label_moves : {h : ℕ} {a t : List Lexeme} {y : Stmt} → IsLabel a y h t → (q : List Lexeme) → MovedSome (λ v q. IsLabel v y h q) a t q
label_moves (g.case {o = o} {q = r} d) q =
    let m = expr_moves d (at (k.Punct p.Colon) r ∷ q) in (at (k.Word w.Case) o ∷ m.0, some (past (any m.1) (more same)), g.case m.2)
label_moves (g.default {o = o} {q = r}) q = (at (k.Word w.Default) o ∷ at (k.Punct p.Colon) r ∷ q, some (more same), g.default)

pub head_moves : {h : ℕ} {a t : List Lexeme} {y : ForHead} → IsForHead a y h t → (q : List Lexeme) →
    MovedSome (λ v q. IsForHead v y h q) a t q
head_moves (g.head_expr d) q = let m = optional_moves d q in (m.0, m.1, g.head_expr m.2)
head_moves (g.head_local d) q = let m = local_moves d q in (m.0, m.1, g.head_local m.2)

else_word : (c : Terminal) (o : Token) (a v : List Lexeme) → begins_else (at c o ∷ a) ≡ false → begins_else (at c o ∷ v) ≡ false
else_word (k.Word w.Else) o a v e = e
else_word _ o a v e = refl

same_else : {a t v q : List Lexeme} → AlikeSome a t v q → begins_else a ≡ false → begins_else v ≡ false
same_else (some {o = at c o} {s = a} {v = v} h) e = else_word c o a v e

abbrev Keeps : List Lexeme → List Lexeme → Type 0
Keeps t q = begins_else t ≡ false → begins_else q ≡ false

mutual
  pub stmt_moves : {h : ℕ} {a t : List Lexeme} {y : Stmt} → IsStmt a y h t → (q : List Lexeme) → Keeps t q →
      MovedSome (λ v q. IsStmt v y h q) a t q
  stmt_moves (g.compound {o = o} d) q keeps = let m = items_move d q in (at (k.Punct p.LeftBrace) o ∷ m.0, some (any m.1), g.compound m.2)
  stmt_moves (g.evaluation {h = h} {x = y} d) q keeps =
      let m = optional_moves d q in (m.0, m.1, subst (λ pl. IsStmt m.0 (st.Expr y pl) (suc h) q) (sym (same_place m.1)) (g.evaluation m.2))
  stmt_moves (g.if_only {o = o} {q = r} {r = c} d i none) q keeps =
      let n = stmt_moves i q keeps in let m = expr_moves d (at (k.Punct p.RightParen) c ∷ n.0) in
      (at (k.Word w.If) o ∷ at (k.Punct p.LeftParen) r ∷ m.0, some (more (past (any m.1) (more (any n.1)))), g.if_only m.2 n.2 (keeps none))
  stmt_moves (g.if_else {o = o} {q = r} {r = c} {c = b} d i j) q keeps =
      let l = stmt_moves j q keeps in let n = stmt_moves i (at (k.Word w.Else) b ∷ l.0) (λ e. e) in
      let m = expr_moves d (at (k.Punct p.RightParen) c ∷ n.0) in (
        at (k.Word w.If) o ∷ at (k.Punct p.LeftParen) r ∷ m.0,
        some (more (past (any m.1) (more (past (any n.1) (more (any l.1)))))),
        g.if_else m.2 n.2 l.2,
      )
  stmt_moves (g.switch {o = o} {q = r} {r = c} {c = b} d i) q keeps =
      let n = cases_move i q in let m = expr_moves d (at (k.Punct p.RightParen) c ∷ at (k.Punct p.LeftBrace) b ∷ n.0) in
      (at (k.Word w.Switch) o ∷ at (k.Punct p.LeftParen) r ∷ m.0, some (more (past (any m.1) (more (more (any n.1))))), g.switch m.2 n.2)
  stmt_moves (g.while {o = o} {q = r} {r = c} d i) q keeps =
      let n = stmt_moves i q keeps in let m = expr_moves d (at (k.Punct p.RightParen) c ∷ n.0) in
      (at (k.Word w.While) o ∷ at (k.Punct p.LeftParen) r ∷ m.0, some (more (past (any m.1) (more (any n.1)))), g.while m.2 n.2)
  stmt_moves (g.do_while {o = o} {q = r} {r = l} {c = c} {b = b} d i) q keeps =
      let n = expr_moves i (at (k.Punct p.RightParen) c ∷ at (k.Punct p.Semicolon) b ∷ q) in
      let m = stmt_moves d (at (k.Word w.While) r ∷ at (k.Punct p.LeftParen) l ∷ n.0) (λ e. refl) in
      (at (k.Word w.Do) o ∷ m.0, some (past (any m.1) (more (more (past (any n.1) (more (more same)))))), g.do_while m.2 n.2)
  stmt_moves (g.for {o = o} {q = r} d i j l) q keeps =
      let b = stmt_moves l q keeps in let c = optional_moves j b.0 in let n = optional_moves i c.0 in let m = head_moves d n.0 in (
        at (k.Word w.For) o ∷ at (k.Punct p.LeftParen) r ∷ m.0,
        some (more (past (any m.1) (past (any n.1) (past (any c.1) (any b.1))))),
        g.for m.2 n.2 c.2 b.2,
      )
  stmt_moves (g.break {o = o} {q = r}) q keeps = (at (k.Word w.Break) o ∷ at (k.Punct p.Semicolon) r ∷ q, some (more same), g.break)
  stmt_moves (g.continue {o = o} {q = r}) q keeps =
      (at (k.Word w.Continue) o ∷ at (k.Punct p.Semicolon) r ∷ q, some (more same), g.continue)
  stmt_moves (g.return {o = o} d) q keeps = let m = optional_moves d q in (at (k.Word w.Return) o ∷ m.0, some (any m.1), g.return m.2)

  pub items_move : {h : ℕ} {a t : List Lexeme} {ys : List Stmt} → AreItems a ys h t → (q : List Lexeme) →
      MovedSome (λ v q. AreItems v ys h q) a t q
  items_move (g.no_items {o = o}) q = (at (k.Punct p.RightBrace) o ∷ q, some same, g.no_items)
  items_move (g.item_declared {h = h} {j = j} {xs = xs} {ys = ys} {zs = zs} d i) q =
      let n = items_move i q in let m = local_moves d n.0 in (
        m.0,
        then_any m.1 (any n.1),
        subst (λ pl. AreItems m.0 (st.Declare xs ys pl ∷ zs) (max (suc h) j) q) (sym (same_place m.1))
            (g.item_declared m.2 n.2),
      )
  items_move (g.item_stated d i) q =
      let n = items_move i q in let m = stmt_moves d n.0 (same_else n.1) in (m.0, then_any m.1 (any n.1), g.item_stated m.2 n.2)

  pub cases_move : {h : ℕ} {a t : List Lexeme} {ys : List Stmt} → AreCases a ys h t → (q : List Lexeme) →
      MovedSome (λ v q. AreCases v ys h q) a t q
  cases_move (g.no_cases {o = o}) q = (at (k.Punct p.RightBrace) o ∷ q, some same, g.no_cases)
  cases_move (g.first_label d i) q =
      let n = labelled_move i q in let m = label_moves d n.0 in (m.0, then_any m.1 (any n.1), g.first_label m.2 n.2)

  pub labelled_move : {h : ℕ} {a t : List Lexeme} {ys : List Stmt} → AreLabelled a ys h t → (q : List Lexeme) →
      MovedSome (λ v q. AreLabelled v ys h q) a t q
  labelled_move (g.labels_end {o = o}) q = (at (k.Punct p.RightBrace) o ∷ q, some same, g.labels_end)
  labelled_move (g.next_label d i) q =
      let n = labelled_move i q in let m = label_moves d n.0 in (m.0, then_any m.1 (any n.1), g.next_label m.2 n.2)
  labelled_move (g.next_stmt d i) q =
      let n = labelled_move i q in let m = stmt_moves d n.0 (same_else n.1) in (m.0, then_any m.1 (any n.1), g.next_stmt m.2 n.2)

pub external_moves : {h : ℕ} {a t : List Lexeme} {y : External} {names : List (List ℕ)} → IsExternal a y names h t → (q : List Lexeme) →
    MovedSome (λ v q. IsExternal v y names h q) a t q
external_moves (f.header {o = o} e) q = (at k.Header o ∷ q, some same, f.header e)
external_moves (f.undeclared {h = h} {o = o} {xs = xs} d) q =
    let m = specs_move d (at (k.Punct p.Semicolon) o ∷ q) in (
      m.0,
      then_any m.1 (more same),
      subst (λ pl. IsExternal m.0 (x.Declaration xs [] pl) [] (suc h) q) (sym (same_place m.1))
          (f.undeclared m.2),
    )
external_moves (f.declaration {h = h} {j = j} {xs = xs} {tally = tally} {ys = ys} {ns = ns} d i) q =
    let n = init_declarators_move i q in let m = specs_move d n.0 in (
      m.0,
      then_any m.1 (any n.1),
      subst (λ pl. IsExternal m.0 (x.Declaration xs ys pl) (type_names tally ns) (suc (max h j)) q)
          (sym (same_place m.1)) (f.declaration m.2 n.2),
    )
external_moves (f.function {h = h} {j = j} {m = l} {o = o} {xs = xs} {tally = tally} {y = y} {n = c} {zs = zs} d i b) q =
    let r = items_move b q in let n = declarator_moves i (at (k.Punct p.LeftBrace) o ∷ r.0) in let m = specs_move d n.0 in (
      m.0,
      then_any m.1 (past (any n.1) (more (any r.1))),
      subst (λ pl. IsExternal m.0 (x.Function xs y (st.Block zs o.place) pl) (type_names tally (c ∷ [])) (suc (max h (max j (suc l)))) q)
          (sym (same_place m.1)) (f.function m.2 n.2 r.2),
    )

-- The tokens of a prefix are an external declaration exactly where they are one before any rest.
pub alone : {h : ℕ} {a t : List Lexeme} {y : External} {names : List (List ℕ)} → IsExternal a y names h t →
    (v : List Lexeme) × (a ≡ v ++ t) × IsExternal v y names h []
alone d = let m = external_moves d [] in (m.0, alike_before (any m.1), m.2)

pub before_any : {h : ℕ} {v : List Lexeme} {y : External} {names : List (List ℕ)} → IsExternal v y names h [] → (t : List Lexeme) →
    IsExternal (v ++ t) y names h t
before_any {h} {v} {y} {names} d t = let m = external_moves d t in subst (λ l. IsExternal l y names h t) (alike_after (any m.1)) m.2
