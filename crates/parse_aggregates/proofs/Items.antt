-- Enumerators, members and their declarators as lists whose items tell whether they are the last.
use Rattle.std.proofs.Common.{◌≡◌, ℕ, List, [], ◌∷◌, Option, Some, None, refl, ap, ◌∙◌}
use Rattle.c_tokens.specs.declared.puncts.Punct.TheVariants as p
use Rattle.c_tree.specs.declared.nodes.Declarator.{Declarator}
use Rattle.c_tree.specs.declared.nodes.Enumerator.{Enumerator}
use Rattle.c_tree.specs.declared.nodes.MemberDecl.{MemberDecl}
use Rattle.parse_meaning.specs.declared.terminals.Terminal.TheVariants as k
use Rattle.parse_meaning.specs.Terminals.{Lexeme, at}
use Rattle.parse_reading.specs.Reading.{Read, ◌>>=◌, found, expression}
use Rattle.parse_reading.specs.ReadingDeclarators.{Named, enumerator, enumerators_comma, enumerators_behind, enumerators, declarators_behind, declarators, declarator, member_decl, members_behind, members, outer_spec}
use Rattle.parse_lists.specs.Ends.{enumerators_end_at, declarators_end_at, body_end_at}
use Rattle.parse_tokens.proofs.Binds.{bind_each, bind_made}
use Rattle.parse_lists.proofs.Lists.{ListOf, ended}

module _ (n : ℕ) where
  comma_by_end : (later : List Lexeme → Option (Read (List Enumerator))) (x : Read Enumerator) (t : List Lexeme) →
      enumerators_comma (expression n) later x t ≡ ended later x (body_end_at t)
  comma_by_end later x [] = refl
  comma_by_end later x (at (k.Punct p.RightBrace) o ∷ t) = refl
  comma_by_end later x (o ∷ t) = refl

  enumerators_by_end : (later : List Lexeme → Option (Read (List Enumerator))) (x : Read Enumerator) (t : List Lexeme) →
      enumerators_behind (expression n) later x t ≡ (enumerators_end_at t >>= ended later x)
  enumerators_by_end later x [] = refl
  enumerators_by_end later x (at (k.Punct p.RightBrace) o ∷ t) = refl
  enumerators_by_end later x (at (k.Punct p.Comma) o ∷ t) = comma_by_end later x t
  enumerators_by_end later x _ = refl

  pub enumerators_are : ListOf (enumerator (expression n)) enumerators_end_at (enumerators (expression n))
  unfolding enumerators
  enumerators_are = record {
    step = λ m s. bind_each (enumerator (expression n) s) _ _ (λ x. enumerators_by_end (enumerators (expression n) m) x x.rest);
    last = λ s. refl;
  }

  -- the tree of a declarator alone
  abbrev pub declarator_tree : List Lexeme → Option (Read Declarator)
  declarator_tree s = declarator n s >>= λ x. Some (found x.tree.tree x.height x.rest)

  pub tree_found : (s : List Lexeme) (x : Read Named) → declarator n s ≡ Some x →
      declarator_tree s ≡ Some (found x.tree.tree x.height x.rest)
  tree_found s x e = ap (λ r. r >>= λ x. Some (found x.tree.tree x.height x.rest)) e

  pub tree_none : (s : List Lexeme) → declarator n s ≡ None → declarator_tree s ≡ None
  tree_none s e = ap (λ r. r >>= λ x. Some (found x.tree.tree x.height x.rest)) e

  declarators_by_end : (later : List Lexeme → Option (Read (List Declarator))) (x : Read Named) (t : List Lexeme) →
      declarators_behind (declarator n) later x t ≡ (declarators_end_at t >>= ended later (found x.tree.tree x.height x.rest))
  declarators_by_end later x [] = refl
  declarators_by_end later x (at (k.Punct p.Comma) o ∷ t) = refl
  declarators_by_end later x (at (k.Punct p.Semicolon) o ∷ t) = refl
  declarators_by_end later x _ = refl

  pub declarators_are : ListOf declarator_tree declarators_end_at (declarators (declarator n))
  unfolding declarators
  declarators_are = record {
    step = λ m s. bind_each (declarator n s) _ _ (λ x. declarators_by_end (declarators (declarator n) m) x x.rest)
        ∙ bind_made (declarator n s) (λ x. found x.tree.tree x.height x.rest)
        (λ x. declarators_end_at x.rest >>= ended (declarators (declarator n) m) x);
    last = λ s. refl;
  }

  members_by_end : (later : List Lexeme → Option (Read (List MemberDecl))) (x : Read MemberDecl) (t : List Lexeme) →
      members_behind (declarator n) (outer_spec n) later x t ≡ ended later x (body_end_at t)
  members_by_end later x [] = refl
  members_by_end later x (at (k.Punct p.RightBrace) o ∷ t) = refl
  members_by_end later x (o ∷ t) = refl

  pub members_are : ListOf (member_decl (declarator n) (outer_spec n)) (λ t. Some (body_end_at t)) (members (declarator n) (outer_spec n))
  unfolding members
  members_are = record {
    step =
        λ m s. bind_each (member_decl (declarator n) (outer_spec n) s) _ _
        (λ x. members_by_end (members (declarator n) (outer_spec n) m) x x.rest);
    last = λ s. refl;
  }
