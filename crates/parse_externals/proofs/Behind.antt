-- An external declaration behind its first declarator.
use Rattle.std.proofs.Common.{◌≡◌, ℕ, suc, max, List, [], ◌∷◌, Option, Some, None, Bool, true, false, length, refl, ap, ◌∙◌}
use Rattle.fc_base.specs.declared.refusals.Place.{Place}
use Rattle.c_tokens.specs.declared.puncts.Punct.TheVariants as p
use Rattle.c_tree.specs.declared.statements.Stmt.{Stmt}
use Rattle.c_tree.specs.declared.statements.Stmt.TheVariants as stmt
use Rattle.c_tree.specs.declared.externals.External.TheVariants as x
use Rattle.parse_meaning.specs.declared.terminals.Terminal.TheVariants as k
use Rattle.parse_meaning.specs.Terminals.{Lexeme, at, place_of}
use Rattle.parse_meaning.specs.File.{type_names}
use Rattle.parse_reading.specs.Reading.{Read, found, bounded, Specs, expression}
use Rattle.parse_reading.specs.ReadingDeclarators.{Named, declarator}
use Rattle.parse_reading.specs.ReadingStatements.{NamedInits, initialiser, items, statement}
use Rattle.parse_reading.specs.ReadingFile.{NamedExternal, as_external, declaration, declared, body, body_or}
use Rattle.parse_initialisers.specs.Readers.{init_declarators_from, locals}
use Rattle.parse_initialisers.proofs.InitDeclarators.{from_first}
use Rattle.parse_externals.specs.Externals.{brace_at, declared_from}

module _ (n : ℕ) (place : Place) (xs : Read Specs) (t : List Lexeme) where
  pub declared_first : (y : Read Named) → declarator n t ≡ Some y →
      declared n place xs t ≡ declared_from n place xs.tree xs.height (length t) y.tree y.height y.rest
  unfolding declared declared_from
  declared_first y some = rw (from_first (declarator n) (initialiser n) (length t) t y some) refl

  pub declaration_fails : declarator n t ≡ None → declaration n place xs t ≡ None
  unfolding declaration
  declaration_fails none = rw none refl

  -- what stands behind the first declarator: a body or not
  by_brace : Read Named → Place → Bool × List Lexeme → Option (Read NamedExternal)
  by_brace y start (true, u) = body n place xs y start u
  by_brace y start (false, u) = declared n place xs t

  braced : (y : Read Named) (s : List Lexeme) → body_or n place xs t y s ≡ by_brace y (place_of s) (brace_at s)
  unfolding by_brace
  braced y [] = refl
  braced y (at (k.Punct p.LeftBrace) o ∷ u) = refl
  braced y (o ∷ u) = refl

  pub declaration_body : (y : Read Named) (u : List Lexeme) → declarator n t ≡ Some y → brace_at y.rest ≡ (true, u) →
      declaration n place xs t ≡ body n place xs y (place_of y.rest) u
  unfolding declaration by_brace
  declaration_body y u some brace = rw (some, braced y y.rest, brace) refl

  no_brace : (s u : List Lexeme) → brace_at s ≡ (false, u) → s ≡ u
  no_brace [] u e = ap (λ (r : Bool × List Lexeme). r.1) e
  no_brace (at (k.Punct p.LeftBrace) o ∷ s) u e = let other : true ≡ false = ap (λ (r : Bool × List Lexeme). r.0) e in cc
  no_brace (o ∷ s) u e = ap (λ (r : Bool × List Lexeme). r.1) e

  pub declaration_rest : (y : Read Named) (u : List Lexeme) → declarator n t ≡ Some y → brace_at y.rest ≡ (false, u) →
      declaration n place xs t ≡ declared_from n place xs.tree xs.height (length t) y.tree y.height u
  unfolding declaration by_brace
  declaration_rest y u some brace =
      let behind = declared_first y some ∙ ap (declared_from n place xs.tree xs.height (length t) y.tree y.height)
      (no_brace y.rest u brace) in
      rw (some, braced y y.rest, brace) behind

-- what is read behind the first declarator
pub declared_read : (n : ℕ) (place : Place) (xs : Specs) (j turns : ℕ) (y : Named) (h : ℕ) (s : List Lexeme) (ys : Read NamedInits) →
    init_declarators_from (declarator n) (initialiser n) turns y h s ≡ Some ys →
    declared_from n place xs j turns y h s
    ≡ bounded (suc n) (found (as_external (x.Declaration xs.specs ys.tree.trees place) (type_names xs.tally ys.tree.declared))
    (suc (max j ys.height)) ys.rest)
unfolding declared_from
declared_read n place xs j turns y h s ys some = rw some refl

pub declared_fails : (n : ℕ) (place : Place) (xs : Specs) (j turns : ℕ) (y : Named) (h : ℕ) (s : List Lexeme) →
    init_declarators_from (declarator n) (initialiser n) turns y h s ≡ None → declared_from n place xs j turns y h s ≡ None
unfolding declared_from
declared_fails n place xs j turns y h s none = rw none refl

pub body_read : (n : ℕ) (place : Place) (xs : Read Specs) (y : Read Named) (start : Place) (s : List Lexeme) (zs : Read (List Stmt)) →
    items (expression n) (locals n) (statement n) (length s) s ≡ Some zs →
    body n place xs y start s
    ≡ bounded (suc n)
    (found (as_external (x.Function xs.tree.specs y.tree.tree (stmt.Block zs.tree start) place)
    (type_names xs.tree.tally (y.tree.declared ∷ [])))
    (suc (max xs.height (max y.height (suc zs.height)))) zs.rest)
unfolding body
body_read n place xs y start s zs some = rw some refl

pub body_fails : (n : ℕ) (place : Place) (xs : Read Specs) (y : Read Named) (start : Place) (s : List Lexeme) →
    items (expression n) (locals n) (statement n) (length s) s ≡ None → body n place xs y start s ≡ None
unfolding body
body_fails n place xs y start s none = rw none refl
