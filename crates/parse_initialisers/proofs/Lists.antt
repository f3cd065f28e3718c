-- Initialisers in braces as a list whose items tell whether they are the last.
use Rattle.std.proofs.Common.{◌≡◌, List, [], ◌∷◌, Option, refl}
use Rattle.c_tokens.specs.declared.puncts.Punct.TheVariants as p
use Rattle.c_tree.specs.declared.statements.Init.{Init}
use Rattle.parse_meaning.specs.declared.terminals.Terminal.TheVariants as k
use Rattle.parse_meaning.specs.Terminals.{Lexeme, at}
use Rattle.parse_reading.specs.Reading.{Read, ◌>>=◌}
use Rattle.parse_reading.specs.ReadingStatements.{inits, inits_behind, inits_comma}
use Rattle.parse_tokens.proofs.Binds.{bind_each}
use Rattle.parse_lists.specs.Ends.{enumerators_end_at, body_end_at}
use Rattle.parse_lists.proofs.Lists.{ListOf, ended}

module _ (deep : List Lexeme → Option (Read Init)) where
  comma_by_end : (later : List Lexeme → Option (Read (List Init))) (x : Read Init) (s : List Lexeme) →
      inits_comma deep later x s ≡ ended later x (body_end_at s)
  comma_by_end later x [] = refl
  comma_by_end later x (at (k.Punct p.RightBrace) o ∷ t) = refl
  comma_by_end later x (o ∷ t) = refl

  inits_by_end : (later : List Lexeme → Option (Read (List Init))) (x : Read Init) (s : List Lexeme) →
      inits_behind deep later x s ≡ (enumerators_end_at s >>= ended later x)
  inits_by_end later x [] = refl
  inits_by_end later x (at (k.Punct p.RightBrace) o ∷ t) = refl
  inits_by_end later x (at (k.Punct p.Comma) o ∷ t) = comma_by_end later x t
  inits_by_end later x _ = refl

  pub inits_are : ListOf deep enumerators_end_at (inits deep)
  unfolding inits
  inits_are = record {
    step = λ m s. bind_each (deep s) _ _ (λ x. inits_by_end (inits deep m) x x.rest);
    last = λ s. refl;
  }
