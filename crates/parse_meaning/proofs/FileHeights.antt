-- The number of a derivation is the height of its tree: initialisers, statements and external declarations. So a file's
-- tree is within the limit.
use Rattle.std.proofs.Common.{◌≡◌, ℕ, suc, max, List, map, Option, Some, None, Result, Ok, Err, refl, subst, sym, ◌∙◌, arith}
use Rattle.std.specs.Prelude.{◌≤◌, All, IfOk}
use Rattle.std.proofs.lemmas.List.Elements.{All-nil, All-cons}
use Rattle.fc_base.specs.declared.refusals.Refusal.{Refusal}
use Rattle.c_tokens.specs.declared.puncts.Punct.{Punct}
use Rattle.c_tokens.specs.declared.tokens.Token.{Token}
use Rattle.c_tree.specs.declared.externals.External.{External}
use Rattle.c_tree.specs.declared.externals.FileTree.{FileTree}
use Rattle.c_tree.specs.declared.nodes.Expr.{Expr}
use Rattle.c_tree.specs.declared.nodes.Spec.{Spec}
use Rattle.c_tree.specs.declared.statements.ForHead.{ForHead}
use Rattle.c_tree.specs.declared.statements.Init.{Init}
use Rattle.c_tree.specs.declared.statements.InitDeclarator.{InitDeclarator}
use Rattle.c_tree.specs.declared.statements.Stmt.{Stmt}
use Rattle.c_tree.specs.Heights.{highest, init_height, init_declarator_height, declaration_height, optional_expr_height, head_height, stmt_height, external_height, highest_tree, IsWithinHeight}
use Rattle.c_tree.proofs.StatementHeights.{init_height-Expr, init_height-List, stmt_height-Block, stmt_height-Declare, stmt_height-Expr, stmt_height-If, stmt_height-While, stmt_height-Do, stmt_height-For, stmt_height-Switch, stmt_height-Break, stmt_height-Continue, stmt_height-Return, stmt_height-Case, stmt_height-Default}
use Rattle.parse_meaning.specs.Terminals.{Lexeme}
use Rattle.parse_meaning.specs.Expressions.{Declared}
use Rattle.parse_meaning.specs.Statements as g
use Rattle.parse_meaning.specs.Statements.{IsInit, AreInits, IsInitDeclarator, AreInitDeclarators, IsLocal, IsOptional, IsLabel, IsForHead, IsStmt, AreItems, AreCases, AreLabelled}
use Rattle.parse_meaning.specs.File as f
use Rattle.parse_meaning.specs.File.{IsExternal, Declarations, Declares, Derives}
use Rattle.parse_meaning.proofs.TreeHeights.{above, above3, beside, alone, over, expr_high, specs_high, declarator_high}

-- one more than the highest of four parts
above4 : {a b c e i j m n : ℕ} → a ≡ i → b ≡ j → c ≡ m → e ≡ n → suc (max a (max b (max c (max e 0)))) ≡ suc (max i (max j (max m n)))
above4 e f g h = omega (arith, e, f, g, h)

mutual
  pub init_high : {h : ℕ} {a t : List Lexeme} {x : Init} → IsInit a x h t → init_height x ≡ h
  init_high (g.init_expr d) = init_height-Expr _ ∙ expr_high d
  init_high (g.init_list d) = init_height-List _ _ ∙ over (inits_high d)

  pub inits_high : {h : ℕ} {a t : List Lexeme} {xs : List Init} → AreInits a xs h t → highest (map init_height xs) ≡ h
  inits_high (g.last_init d) = alone (init_high d)
  inits_high (g.last_init_comma d) = alone (init_high d)
  inits_high (g.more_inits d i) = beside (init_high d) (inits_high i)

pub init_declarator_high : {n : Declared} {h : ℕ} {a t : List Lexeme} {x : InitDeclarator} → IsInitDeclarator a x n h t
    → init_declarator_height x ≡ h
init_declarator_high (g.uninitialised d i) = alone (declarator_high d)
init_declarator_high (g.initialised d i j) = beside (declarator_high d) (init_high j)

pub init_declarators_high : {ns : List Declared} {h : ℕ} {a t : List Lexeme} {xs : List InitDeclarator} → AreInitDeclarators a xs ns h t
    → highest (map init_declarator_height xs) ≡ h
init_declarators_high (g.last_init_declarator d) = alone (init_declarator_high d)
init_declarators_high (g.more_init_declarators d i) = beside (init_declarator_high d) (init_declarators_high i)

pub local_high : {h : ℕ} {a t : List Lexeme} {xs : List Spec} {ys : List InitDeclarator} → IsLocal a xs ys h t
    → declaration_height xs ys ≡ h
local_high (g.local d i o) = beside (specs_high d) (init_declarators_high i)

pub optional_high : {b : Punct} {h : ℕ} {a t : List Lexeme} {x : Option Expr} → IsOptional b a x h t → optional_expr_height x ≡ h
optional_high g.no_expr = refl
optional_high (g.some_expr d) = expr_high d

pub label_high : {h : ℕ} {a t : List Lexeme} {x : Stmt} → IsLabel a x h t → stmt_height x ≡ h
label_high (g.case d) = stmt_height-Case _ _ ∙ over (expr_high d)
label_high g.default = stmt_height-Default _

pub head_high : {h : ℕ} {a t : List Lexeme} {x : ForHead} → IsForHead a x h t → head_height x ≡ h
head_high (g.head_expr d) = optional_high d
head_high (g.head_local d) = local_high d

mutual
  pub stmt_high : {h : ℕ} {a t : List Lexeme} {x : Stmt} → IsStmt a x h t → stmt_height x ≡ h
  stmt_high (g.compound d) = stmt_height-Block _ _ ∙ over (items_high d)
  stmt_high (g.evaluation d) = stmt_height-Expr _ _ ∙ over (optional_high d)
  stmt_high (g.if_only d i e) = stmt_height-If _ _ None _ ∙ above (expr_high d) (alone (stmt_high i))
  stmt_high (g.if_else d i j) = stmt_height-If _ _ (Some _) _ ∙ above3 (expr_high d) (stmt_high i) (stmt_high j)
  stmt_high (g.switch d i) = stmt_height-Switch _ _ _ ∙ above (expr_high d) (cases_high i)
  stmt_high (g.while d i) = stmt_height-While _ _ _ ∙ above (expr_high d) (stmt_high i)
  stmt_high (g.do_while d i) = stmt_height-Do _ _ _ ∙ above (stmt_high d) (expr_high i)
  stmt_high (g.for d i j b) = stmt_height-For _ _ _ _ _ ∙ above4 (head_high d) (optional_high i) (optional_high j) (stmt_high b)
  stmt_high g.break = stmt_height-Break _
  stmt_high g.continue = stmt_height-Continue _
  stmt_high (g.return d) = stmt_height-Return _ _ ∙ over (optional_high d)

  pub items_high : {h : ℕ} {a t : List Lexeme} {xs : List Stmt} → AreItems a xs h t → highest (map stmt_height xs) ≡ h
  items_high g.no_items = refl
  items_high (g.item_declared d i) = beside (stmt_height-Declare _ _ _ ∙ over (local_high d)) (items_high i)
  items_high (g.item_stated d i) = beside (stmt_high d) (items_high i)

  pub cases_high : {h : ℕ} {a t : List Lexeme} {xs : List Stmt} → AreCases a xs h t → highest (map stmt_height xs) ≡ h
  cases_high g.no_cases = refl
  cases_high (g.first_label d i) = beside (label_high d) (labelled_high i)

  pub labelled_high : {h : ℕ} {a t : List Lexeme} {xs : List Stmt} → AreLabelled a xs h t → highest (map stmt_height xs) ≡ h
  labelled_high g.labels_end = refl
  labelled_high (g.next_label d i) = beside (label_high d) (labelled_high i)
  labelled_high (g.next_stmt d i) = beside (stmt_high d) (labelled_high i)

pub external_high : {h : ℕ} {a t : List Lexeme} {x : External} {names : List (List ℕ)} → IsExternal a x names h t → external_height x ≡ h
external_high (f.header e) = refl
external_high (f.undeclared d) = over (alone (specs_high d))
external_high (f.declaration d i) = above (specs_high d) (init_declarators_high i)
external_high (f.function d i j) = above3 (specs_high d) (declarator_high i) (stmt_height-Block _ _ ∙ over (items_high j))

abbrev IsLow : External → Type 0
IsLow x = external_height x ≤ highest_tree

declared_low : {types : List (List ℕ)} {s : List Token} {out : Declarations} → Declares types s out → IfOk out (All IsLow)
declared_low f.end = All-nil IsLow
declared_low (f.external {x = x} {out = Ok xs} b d) =
    All-cons IsLow x xs (subst (λ n. n ≤ highest_tree) (sym (external_high b.begins.derives)) b.begins.low) (declared_low d)
declared_low (f.external {out = Err place} b d) = _
declared_low (f.refused none) = _

derived_low : {s : List Token} {out : Result FileTree Refusal} → Derives s out → IfOk out IsWithinHeight
derived_low (f.left_out e) = _
derived_low (f.deep e g) = _
derived_low (f.refused_syntax e g d) = _
derived_low (f.derived e g d) = declared_low d

pub file_low : (s : List Token) (file : FileTree) → Derives s (Ok file) → IsWithinHeight file
file_low s file d = derived_low d
