-- Initialisers, declarations and statements: which tokens are one (C11 6.7, 6.7.9 and 6.8), as in Expressions.
use Rattle.std.specs.Prelude.{◌≡◌, ℕ, suc, max, List, [], ◌∷◌, Option, Some, None, Bool, true, false, ◌&&◌}
use Rattle.c_tokens.specs.declared.puncts.Punct.{Punct}
use Rattle.c_tokens.specs.declared.puncts.Punct.TheVariants as p
use Rattle.c_tokens.specs.declared.tokens.Token.{Token}
use Rattle.c_tree.specs.declared.nodes.Expr.{Expr}
use Rattle.c_tree.specs.declared.nodes.Attribute.{Attribute}
use Rattle.c_tree.specs.declared.nodes.Spec.{Spec}
use Rattle.c_tree.specs.declared.nodes.Declarator.{Declarator}
use Rattle.c_tree.specs.declared.statements.Init.{Init}
use Rattle.c_tree.specs.declared.statements.Init.TheVariants as init
use Rattle.c_tree.specs.declared.statements.InitDeclarator.{InitDeclarator}
use Rattle.c_tree.specs.declared.statements.ForHead.{ForHead}
use Rattle.c_tree.specs.declared.statements.ForHead.TheVariants as head
use Rattle.c_tree.specs.declared.statements.Stmt.{Stmt}
use Rattle.c_tree.specs.declared.statements.Stmt.TheVariants as s
use Rattle.parse_meaning.specs.declared.terminals.Keyword.TheVariants as w
use Rattle.parse_meaning.specs.declared.terminals.Terminal.TheVariants as k
use Rattle.parse_meaning.specs.Terminals.{Lexeme, at, place_of}
use Rattle.parse_meaning.specs.Specifiers.{block, Tally}
use Rattle.parse_meaning.specs.Expressions.{IsExpr, AreSpecs, IsDeclarator, IsAttributeList, Declared, Nearest, bare, parameters, other}
use Rattle.parse_meaning.specs.Expressions.{assignment, conditional, expression}

-- ---- Declarations

mutual
  -- An initialiser (C11 6.7.9). One that is an expression is one node with it.
  pub data IsInit : List Lexeme → Init → ℕ → List Lexeme → Type 0 where
    -- initializer: assignment-expression (C11 6.7.9)
    init_expr : {h : ℕ} {a t : List Lexeme} {x : Expr} → IsExpr assignment a x h t → IsInit a (init.Expr x) h t
    -- initializer: { initializer-list }, and with a comma behind the list (C11 6.7.9)
    init_list : {h : ℕ} {o : Token} {t u : List Lexeme} {xs : List Init} → AreInits t xs h u →
        IsInit (at (k.Punct p.LeftBrace) o ∷ t) (init.List xs o.place) (suc h) u

  -- one initialiser or more, with commas between them and perhaps one behind, up to and with the brace
  pub data AreInits : List Lexeme → List Init → ℕ → List Lexeme → Type 0 where
    -- initializer-list: initializer, before } (C11 6.7.9)
    last_init : {h : ℕ} {o : Token} {a t : List Lexeme} {x : Init} → IsInit a x h (at (k.Punct p.RightBrace) o ∷ t) →
        AreInits a (x ∷ []) h t
    -- initializer-list: initializer, before , } (C11 6.7.9)
    last_init_comma : {h : ℕ} {o q : Token} {a t : List Lexeme} {x : Init} →
        IsInit a x h (at (k.Punct p.Comma) o ∷ at (k.Punct p.RightBrace) q ∷ t) → AreInits a (x ∷ []) h t
    -- initializer-list: initializer , initializer-list (C11 6.7.9)
    more_inits : {h j : ℕ} {o : Token} {a t u : List Lexeme} {x : Init} {xs : List Init} → IsInit a x h (at (k.Punct p.Comma) o ∷ t) →
        AreInits t xs j u → AreInits a (x ∷ xs) (max h j) u

-- any number of attribute lists behind a declarator (GCC manual, "Attribute Syntax")
pub data AreAttributeLists : List Lexeme → List (List Attribute) → List Lexeme → Type 0 where
  no_lists : {t : List Lexeme} → AreAttributeLists t [] t
  more_lists : {a t u : List Lexeme} {x : List Attribute} {xs : List (List Attribute)} → IsAttributeList a x t → AreAttributeLists t xs u →
      AreAttributeLists a (x ∷ xs) u

pub data IsInitDeclarator : List Lexeme → InitDeclarator → Declared → ℕ → List Lexeme → Type 0 where
  -- init-declarator: declarator (C11 6.7)
  uninitialised : {h : ℕ} {a t u : List Lexeme} {x : Declarator} {n : Declared} {xs : List (List Attribute)} → IsDeclarator a x n h t →
      AreAttributeLists t xs u → IsInitDeclarator a (record { declarator = x; attributes = xs; init = None }) n h u
  -- init-declarator: declarator = initializer (C11 6.7)
  initialised : {h j : ℕ} {o : Token} {a t u v : List Lexeme} {x : Declarator} {n : Declared} {xs : List (List Attribute)} {y : Init} →
      IsDeclarator a x n h t → AreAttributeLists t xs (at (k.Punct p.Assign) o ∷ u) → IsInit u y j v →
      IsInitDeclarator a (record { declarator = x; attributes = xs; init = Some y }) n (max h j) v

-- one or more, with commas between them, up to and with the semicolon, and what each declares
pub data AreInitDeclarators : List Lexeme → List InitDeclarator → List Declared → ℕ → List Lexeme → Type 0 where
  -- init-declarator-list: init-declarator, before ; (C11 6.7)
  last_init_declarator : {h : ℕ} {o : Token} {a t : List Lexeme} {x : InitDeclarator} {n : Declared} →
      IsInitDeclarator a x n h (at (k.Punct p.Semicolon) o ∷ t) → AreInitDeclarators a (x ∷ []) (n ∷ []) h t
  -- init-declarator-list: init-declarator , init-declarator-list (C11 6.7)
  more_init_declarators : {h j : ℕ} {o : Token} {a t u : List Lexeme} {x : InitDeclarator} {n : Declared} {xs : List InitDeclarator}
      {ns : List Declared} →
      IsInitDeclarator a x n h (at (k.Punct p.Comma) o ∷ t) → AreInitDeclarators t xs ns j u →
      AreInitDeclarators a (x ∷ xs) (n ∷ ns) (max h j) u

-- no declarator of a block declares a function: this project's own
abbrev pub is_object : Nearest → Bool
is_object bare = true
is_object parameters = false
is_object other = true

abbrev pub are_objects : List Declared → Bool
are_objects [] = true
are_objects (n ∷ ns) = is_object n.nearest && are_objects ns

-- a declaration in a block or in the head of a `for`, with its semicolon
pub data IsLocal : List Lexeme → List Spec → List InitDeclarator → ℕ → List Lexeme → Type 0 where
  -- declaration: declaration-specifiers init-declarator-list ; (C11 6.7)
  local : {h j : ℕ} {a t u : List Lexeme} {xs : List Spec} {tally : Tally} {ys : List InitDeclarator} {ns : List Declared} →
      AreSpecs block a xs tally h t → AreInitDeclarators t ys ns j u → are_objects ns ≡ true → IsLocal a xs ys (max h j) u

-- ---- Statements

-- An `else` belongs to the nearest `if` that can have it (C11 6.8.4.1, paragraph 3): an `if` without one doesn't stand
-- before an `else`.
abbrev pub begins_else : List Lexeme → Bool
begins_else (at (k.Word w.Else) o ∷ t) = true
begins_else _ = false

-- an expression or none, up to and with a punctuator
pub data IsOptional : Punct → List Lexeme → Option Expr → ℕ → List Lexeme → Type 0 where
  -- expression(opt): nothing
  no_expr : {b : Punct} {o : Token} {t : List Lexeme} → IsOptional b (at (k.Punct b) o ∷ t) None 0 t
  -- expression(opt): expression
  some_expr : {h : ℕ} {b : Punct} {o : Token} {a t : List Lexeme} {x : Expr} → IsExpr expression a x h (at (k.Punct b) o ∷ t) →
      IsOptional b a (Some x) h t

-- `case value:` or `default:` (C11 6.8.1)
pub data IsLabel : List Lexeme → Stmt → ℕ → List Lexeme → Type 0 where
  -- labeled-statement: case constant-expression :, without its statement (C11 6.8.1)
  case : {h : ℕ} {o q : Token} {a t : List Lexeme} {x : Expr} → IsExpr conditional a x h (at (k.Punct p.Colon) q ∷ t) →
      IsLabel (at (k.Word w.Case) o ∷ a) (s.Case x o.place) (suc h) t
  -- labeled-statement: default :, without its statement (C11 6.8.1)
  default : {o q : Token} {t : List Lexeme} → IsLabel (at (k.Word w.Default) o ∷ at (k.Punct p.Colon) q ∷ t) (s.Default o.place) 1 t

-- what stands between the bracket of a `for` and its first semicolon, with that (C11 6.8.5)
pub data IsForHead : List Lexeme → ForHead → ℕ → List Lexeme → Type 0 where
  -- iteration-statement: for ( expression(opt) ; .., behind its bracket (C11 6.8.5)
  head_expr : {h : ℕ} {a t : List Lexeme} {x : Option Expr} → IsOptional p.Semicolon a x h t → IsForHead a (head.Expr x) h t
  -- iteration-statement: for ( declaration .., behind its bracket (C11 6.8.5)
  head_local : {h : ℕ} {a t : List Lexeme} {xs : List Spec} {ys : List InitDeclarator} → IsLocal a xs ys h t →
      IsForHead a (head.Declare xs ys) h t

mutual
  pub data IsStmt : List Lexeme → Stmt → ℕ → List Lexeme → Type 0 where
    -- compound-statement: { block-item-list(opt) } (C11 6.8.2)
    compound : {h : ℕ} {o : Token} {t u : List Lexeme} {xs : List Stmt} → AreItems t xs h u →
        IsStmt (at (k.Punct p.LeftBrace) o ∷ t) (s.Block xs o.place) (suc h) u
    -- expression-statement: expression(opt) ; (C11 6.8.3)
    evaluation : {h : ℕ} {a t : List Lexeme} {x : Option Expr} → IsOptional p.Semicolon a x h t → IsStmt a (s.Expr x (place_of a)) (suc h) t
    -- selection-statement: if ( expression ) statement (C11 6.8.4)
    if_only : {h j : ℕ} {o q r : Token} {a t u : List Lexeme} {x : Expr} {y : Stmt} →
        IsExpr expression a x h (at (k.Punct p.RightParen) r ∷ t) → IsStmt t y j u → begins_else u ≡ false →
        IsStmt (at (k.Word w.If) o ∷ at (k.Punct p.LeftParen) q ∷ a) (s.If x y None o.place) (suc (max h j)) u
    -- selection-statement: if ( expression ) statement else statement (C11 6.8.4)
    if_else : {h j m : ℕ} {o q r c : Token} {a t u v : List Lexeme} {x : Expr} {y z : Stmt} →
        IsExpr expression a x h (at (k.Punct p.RightParen) r ∷ t) → IsStmt t y j (at (k.Word w.Else) c ∷ u) → IsStmt u z m v →
        IsStmt (at (k.Word w.If) o ∷ at (k.Punct p.LeftParen) q ∷ a) (s.If x y (Some z) o.place) (suc (max h (max j m))) v
    -- selection-statement: switch ( expression ) compound-statement (C11 6.8.4). Labels stand only in the block of their `switch`,
    -- and the first of what stands there is one.
    switch : {h j : ℕ} {o q r c : Token} {a t u : List Lexeme} {x : Expr} {ys : List Stmt} →
        IsExpr expression a x h (at (k.Punct p.RightParen) r ∷ at (k.Punct p.LeftBrace) c ∷ t) → AreCases t ys j u →
        IsStmt (at (k.Word w.Switch) o ∷ at (k.Punct p.LeftParen) q ∷ a) (s.Switch x ys o.place) (suc (max h j)) u
    -- iteration-statement: while ( expression ) statement (C11 6.8.5)
    while : {h j : ℕ} {o q r : Token} {a t u : List Lexeme} {x : Expr} {y : Stmt} →
        IsExpr expression a x h (at (k.Punct p.RightParen) r ∷ t) → IsStmt t y j u →
        IsStmt (at (k.Word w.While) o ∷ at (k.Punct p.LeftParen) q ∷ a) (s.While x y o.place) (suc (max h j)) u
    -- iteration-statement: do statement while ( expression ) ; (C11 6.8.5)
    do_while : {h j : ℕ} {o q r c b : Token} {a t u : List Lexeme} {x : Expr} {y : Stmt} →
        IsStmt a y h (at (k.Word w.While) q ∷ at (k.Punct p.LeftParen) r ∷ t) →
        IsExpr expression t x j (at (k.Punct p.RightParen) c ∷ at (k.Punct p.Semicolon) b ∷ u) →
        IsStmt (at (k.Word w.Do) o ∷ a) (s.Do y x o.place) (suc (max h j)) u
    -- iteration-statement: for ( expression(opt) ; expression(opt) ; expression(opt) ) statement, and with a declaration first (C11 6.8.5)
    for : {h i j m : ℕ} {o q : Token} {a t u v b : List Lexeme} {x : ForHead} {y z : Option Expr} {body : Stmt} → IsForHead a x h t →
        IsOptional p.Semicolon t y i u → IsOptional p.RightParen u z j v → IsStmt v body m b →
        IsStmt (at (k.Word w.For) o ∷ at (k.Punct p.LeftParen) q ∷ a) (s.For x y z body o.place) (suc (max h (max i (max j m)))) b
    -- jump-statement: break ; (C11 6.8.6)
    break : {o q : Token} {t : List Lexeme} → IsStmt (at (k.Word w.Break) o ∷ at (k.Punct p.Semicolon) q ∷ t) (s.Break o.place) 1 t
    -- jump-statement: continue ; (C11 6.8.6)
    continue : {o q : Token} {t : List Lexeme} → IsStmt (at (k.Word w.Continue) o ∷ at (k.Punct p.Semicolon) q ∷ t) (s.Continue o.place) 1 t
    -- jump-statement: return expression(opt) ; (C11 6.8.6)
    return : {h : ℕ} {o : Token} {a t : List Lexeme} {x : Option Expr} → IsOptional p.Semicolon a x h t →
        IsStmt (at (k.Word w.Return) o ∷ a) (s.Return x o.place) (suc h) t

  -- the items of a block, up to and with the brace that closes it
  pub data AreItems : List Lexeme → List Stmt → ℕ → List Lexeme → Type 0 where
    -- block-item-list: nothing, before } (C11 6.8.2)
    no_items : {o : Token} {t : List Lexeme} → AreItems (at (k.Punct p.RightBrace) o ∷ t) [] 0 t
    -- block-item: declaration (C11 6.8.2)
    item_declared : {h j : ℕ} {a t u : List Lexeme} {xs : List Spec} {ys : List InitDeclarator} {zs : List Stmt} → IsLocal a xs ys h t →
        AreItems t zs j u → AreItems a (s.Declare xs ys (place_of a) ∷ zs) (max (suc h) j) u
    -- block-item: statement (C11 6.8.2)
    item_stated : {h j : ℕ} {a t u : List Lexeme} {x : Stmt} {zs : List Stmt} → IsStmt a x h t → AreItems t zs j u →
        AreItems a (x ∷ zs) (max h j) u

  -- the labels and statements of a switch, up to and with the brace
  pub data AreCases : List Lexeme → List Stmt → ℕ → List Lexeme → Type 0 where
    no_cases : {o : Token} {t : List Lexeme} → AreCases (at (k.Punct p.RightBrace) o ∷ t) [] 0 t
    first_label : {h j : ℕ} {a t u : List Lexeme} {x : Stmt} {xs : List Stmt} → IsLabel a x h t → AreLabelled t xs j u →
        AreCases a (x ∷ xs) (max h j) u

  pub data AreLabelled : List Lexeme → List Stmt → ℕ → List Lexeme → Type 0 where
    labels_end : {o : Token} {t : List Lexeme} → AreLabelled (at (k.Punct p.RightBrace) o ∷ t) [] 0 t
    next_label : {h j : ℕ} {a t u : List Lexeme} {x : Stmt} {xs : List Stmt} → IsLabel a x h t → AreLabelled t xs j u →
        AreLabelled a (x ∷ xs) (max h j) u
    next_stmt : {h j : ℕ} {a t u : List Lexeme} {x : Stmt} {xs : List Stmt} → IsStmt a x h t → AreLabelled t xs j u →
        AreLabelled a (x ∷ xs) (max h j) u
