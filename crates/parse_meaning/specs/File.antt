-- External declarations, and what a list of tokens derives: a file's tree, or the first refusal (C11 6.9).
use Rattle.std.specs.Prelude.{◌≡◌, ◌≤◌, ℕ, suc, pred, max, List, [], ◌∷◌, ◌++◌, map, length, Option, Some, None, Result, Ok, Err, Bool}
use Rattle.std.specs.Prelude.{false, if◌then◌else◌, ◌==◌}
use Rattle.fc_base.specs.declared.refusals.Place.{Place}
use Rattle.fc_base.specs.declared.refusals.Refusal.{Refusal}
use Rattle.fc_base.specs.declared.rules.Rule.TheVariants as rule
use Rattle.c_headers.specs.declared.headers.HeaderId.{HeaderId}
use Rattle.c_tokens.specs.declared.puncts.Punct.TheVariants as p
use Rattle.c_tokens.specs.declared.tokens.Token.{Token}
use Rattle.c_tokens.specs.declared.tokens.TokenKind.{TokenKind}
use Rattle.c_tokens.specs.declared.tokens.TokenKind.TheVariants as kind
use Rattle.c_tree.specs.declared.nodes.Spec.{Spec}
use Rattle.c_tree.specs.declared.nodes.Declarator.{Declarator}
use Rattle.c_tree.specs.declared.statements.InitDeclarator.{InitDeclarator}
use Rattle.c_tree.specs.declared.statements.Stmt.{Stmt}
use Rattle.c_tree.specs.declared.statements.Stmt.TheVariants as s
use Rattle.c_tree.specs.declared.externals.External.{External}
use Rattle.c_tree.specs.declared.externals.External.TheVariants as x
use Rattle.c_tree.specs.declared.externals.FileTree.{FileTree}
use Rattle.c_tree.specs.Heights.{highest_tree}
use Rattle.parse_meaning.specs.declared.terminals.Terminal.TheVariants as k
use Rattle.parse_meaning.specs.Terminals.{Lexeme, at, lexeme, place_of, has, left_out_keywords, header_types}
use Rattle.parse_meaning.specs.Specifiers.{outer, Tally}
use Rattle.parse_meaning.specs.Expressions.{AreSpecs, IsDeclarator, Declared}
use Rattle.parse_meaning.specs.Statements.{AreInitDeclarators, AreItems}

-- the most brackets that are open at once: this project's own
abbrev pub bracket_limit : ℕ
bracket_limit = 200

-- the names of types that a declaration makes: with `typedef` all that it declares (C11 6.7.8)
abbrev pub type_names : Tally → List Declared → List (List ℕ)
type_names a ns = if a.typedef == 0 then [] else map (λ n. n.name) ns

-- An external declaration, and the names of types that it makes.
pub data IsExternal : List Lexeme → External → List (List ℕ) → ℕ → List Lexeme → Type 0 where
  header : {o : Token} {id : HeaderId} {t : List Lexeme} → o.kind ≡ kind.Header id →
      IsExternal (at k.Header o ∷ t) (x.Header id o.place) (header_types id) 1 t
  -- external-declaration: declaration; declaration: declaration-specifiers ; (C11 6.9 and 6.7)
  undeclared : {h : ℕ} {o : Token} {a t : List Lexeme} {xs : List Spec} {tally : Tally} →
      AreSpecs outer a xs tally h (at (k.Punct p.Semicolon) o ∷ t) → IsExternal a (x.Declaration xs [] (place_of a)) [] (suc h) t
  -- external-declaration: declaration; declaration: declaration-specifiers init-declarator-list ; (C11 6.9 and 6.7)
  declaration : {h j : ℕ} {a t u : List Lexeme} {xs : List Spec} {tally : Tally} {ys : List InitDeclarator} {ns : List Declared} →
      AreSpecs outer a xs tally h t → AreInitDeclarators t ys ns j u →
      IsExternal a (x.Declaration xs ys (place_of a)) (type_names tally ns) (suc (max h j)) u
  -- function-definition: declaration-specifiers declarator compound-statement (C11 6.9.1)
  function : {h j m : ℕ} {o : Token} {a t u v : List Lexeme} {xs : List Spec} {tally : Tally} {y : Declarator} {n : Declared}
      {zs : List Stmt} →
      AreSpecs outer a xs tally h t → IsDeclarator t y n j (at (k.Punct p.LeftBrace) o ∷ u) → AreItems u zs m v →
      IsExternal a (x.Function xs y (s.Block zs o.place) (place_of a)) (type_names tally (n ∷ [])) (suc (max h (max j (suc m)))) v

-- The tokens of s before t, where these are the names of types, are this external declaration, and its tree is not
-- too high.
pub record Begins (types : List (List ℕ)) (s : List Token) (x : External) (names : List (List ℕ)) (t : List Token) : Type 0 where
  pub before : List Token
  pub whole : s ≡ before ++ t
  pub height : ℕ
  pub low : height ≤ highest_tree
  pub derives : IsExternal (map (lexeme types) before) x names height []

-- and no fewer tokens are one
pub record BeginsFirst (types : List (List ℕ)) (s : List Token) (x : External) (names : List (List ℕ)) (t : List Token) : Type 0 where
  pub begins : Begins types s x names t
  pub shortest : (y : External) (others : List (List ℕ)) (u : List Token) → Begins types s y others u → length u ≤ length t

-- external declarations, or the place of the first token of the first that has no derivation
abbrev pub Declarations : Type 0
Declarations = Result (List External) Place

abbrev pub behind : External → Declarations → Declarations
behind x (Ok xs) = Ok (x ∷ xs)
behind x (Err place) = Err place

-- What tokens derive, where these are the names of types.
pub data Declares : List (List ℕ) → List Token → Declarations → Type 0 where
  end : {types : List (List ℕ)} → Declares types [] (Ok [])
  external : {types names : List (List ℕ)} {s t : List Token} {x : External} {out : Declarations} → BeginsFirst types s x names t →
      Declares (types ++ names) t out → Declares types s (behind x out)
  refused : {types : List (List ℕ)} {o : Token} {s : List Token} →
      ((x : External) (names : List (List ℕ)) (t : List Token) → Begins types (o ∷ s) x names t → ⊥) → Declares types (o ∷ s) (Err o.place)

-- the place of the first keyword that is left out
abbrev pub is_left_out : TokenKind → Bool
is_left_out (kind.Name name) = has left_out_keywords name
is_left_out _ = false

abbrev pub first_left_out : List Token → Option Place
first_left_out [] = None
first_left_out (o ∷ s) = if is_left_out o.kind then Some o.place else first_left_out s

-- The place of the first bracket with which more than the limit are open, where so many are open before. Which of them
-- belong together plays no part: one that closes takes one away, if there is one.
pub data Bracket : Type 0 where
  opens closes neither : Bracket

abbrev pub bracket : TokenKind → Bracket
bracket (kind.Punct p.LeftParen) = opens
bracket (kind.Punct p.LeftBracket) = opens
bracket (kind.Punct p.LeftBrace) = opens
bracket (kind.Punct p.RightParen) = closes
bracket (kind.Punct p.RightBracket) = closes
bracket (kind.Punct p.RightBrace) = closes
bracket _ = neither

abbrev pub first_deep_by : (ℕ → Option Place) → ℕ → Place → Bracket → Option Place
first_deep_by later count place opens = if count == bracket_limit then Some place else later (suc count)
first_deep_by later count place closes = later (pred count)
first_deep_by later count place neither = later count

abbrev pub first_deep : ℕ → List Token → Option Place
first_deep count [] = None
first_deep count (o ∷ s) = first_deep_by (λ n. first_deep n s) count o.place (bracket o.kind)

-- What a file's tokens derive: its tree, or the first refusal. Each rule looks at the whole file before the next.
pub data Derives : List Token → Result FileTree Refusal → Type 0 where
  left_out : {s : List Token} {place : Place} → first_left_out s ≡ Some place →
      Derives s (Err (record { rule = rule.LeftOutKeyword; place = place }))
  deep : {s : List Token} {place : Place} → first_left_out s ≡ None → first_deep 0 s ≡ Some place →
      Derives s (Err (record { rule = rule.LimitDepth; place = place }))
  refused_syntax : {s : List Token} {place : Place} → first_left_out s ≡ None → first_deep 0 s ≡ None → Declares [] s (Err place) →
      Derives s (Err (record { rule = rule.Syntax; place = place }))
  derived : {s : List Token} {xs : List External} → first_left_out s ≡ None → first_deep 0 s ≡ None → Declares [] s (Ok xs) →
      Derives s (Ok (record { externals = xs }))

-- A well-formed tree of a file: some tokens derive it.
abbrev pub IsDerived : FileTree → Type 0
IsDerived file = (s : List Token) × Derives s (Ok file)
