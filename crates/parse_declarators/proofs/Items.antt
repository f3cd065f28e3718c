-- Parameters as a list whose items tell whether they are the last.
use Rattle.std.proofs.Common.{◌≡◌, ℕ, suc, List, [], ◌∷◌, Option, refl}
use Rattle.c_tokens.specs.declared.puncts.Punct.TheVariants as p
use Rattle.c_tree.specs.declared.nodes.Param.{Param}
use Rattle.parse_meaning.specs.declared.terminals.Terminal.TheVariants as k
use Rattle.parse_meaning.specs.Terminals.{Lexeme, at}
use Rattle.parse_reading.specs.Reading.{Read, ◌>>=◌, expression}
use Rattle.parse_reading.specs.ReadingDeclarators.{param, params_behind, params_some, declarator}
use Rattle.parse_lists.specs.Ends.{params_end_at}
use Rattle.parse_tokens.proofs.Binds.{bind_each}
use Rattle.parse_lists.proofs.Lists.{ListOf, ended}

module _ (n : ℕ) where
  params_by_end : (later : List Lexeme → Option (Read (List Param))) (x : Read Param) (t : List Lexeme) →
      params_behind (suc n) (expression n) (declarator n) later x t ≡ (params_end_at t >>= ended later x)
  params_by_end later x [] = refl
  params_by_end later x (at (k.Punct p.Comma) o ∷ t) = refl
  params_by_end later x (at (k.Punct p.RightParen) o ∷ t) = refl
  params_by_end later x _ = refl

  pub params_are : ListOf (param (suc n) (expression n) (declarator n)) params_end_at (params_some (suc n) (expression n) (declarator n))
  unfolding params_some
  params_are = record {
    step =
        λ m s. bind_each (param (suc n) (expression n) (declarator n) s) _ _
        (λ x. params_by_end (params_some (suc n) (expression n) (declarator n) m) x x.rest);
    last = λ s. refl;
  }
