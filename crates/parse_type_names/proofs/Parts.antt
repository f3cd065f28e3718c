-- Abstract declarators, and the parts in which they are read.
use Rattle.std.proofs.Common.{◌≡◌, ℕ, suc, ◌+◌, List, [], ◌∷◌, length, Result, Ok, Err, Option, Some, ◌<◌, ◌≤◌, refl, sym, ap, subst, ◌∙◌, arith}
use Rattle.fc_base.specs.declared.refusals.Place.{Place}
use Rattle.c_tokens.specs.declared.puncts.Punct.TheVariants as p
use Rattle.c_tokens.specs.declared.tokens.Token.{Token}
use Rattle.c_tree.specs.declared.nodes.Expr.{Expr}
use Rattle.c_tree.specs.declared.nodes.PointerWord.{PointerWord}
use Rattle.c_tree.specs.declared.nodes.PointerWord.TheVariants as pointer
use Rattle.c_tree.specs.declared.nodes.Declarator.TheVariants as d
use Rattle.parse_meaning.specs.declared.terminals.Terminal.TheVariants as k
use Rattle.parse_meaning.specs.Terminals.{Lexeme, at, place_of}
use Rattle.parse_reading.specs.Reading as spec
use Rattle.parse_reading.specs.Reading.{◌>>=◌, Read, found}
use Rattle.parse_meaning.proofs.Alone.{alike_length, words_move}
use Rattle.parse_reading.proofs.SoundParts.{pointer_words_sound}
use Rattle.parse_tokens.specs.declared.faults.ParseFault.{ParseFault}
use Rattle.parse_tokens.specs.declared.faults.WithHeight.{WithHeight}
use Rattle.parse_tokens.specs.Gives.{Low}
use Rattle.parse_tokens.proofs.Binds.{bind_bind, bind_each}
use Rattle.parse_type_names.specs.Abstracts as abstracts

-- the first star is taken
pub star_taken : (o : Token) (s t : List Lexeme) → s ≡ at (k.Punct p.Star) o ∷ t → length (spec.pointer_words s).1 < length s
unfolding spec.pointer_words
star_taken o s t e =
    let kept : length (spec.pointer_words t).1 ≤ length t = alike_length (words_move (pointer_words_sound t) []).1 in
    subst (λ r. length (spec.pointer_words r).1 < length r) (sym e) (omega (arith, kept))

pub low_behind : {A : Type 0} (depth : ℕ) (r : Result (WithHeight A) ParseFault) (old mid new : List Lexeme) → length mid < length old
    → Low (depth + 2) r mid new → Low (depth + 1) r old new
low_behind depth (Ok x) old mid new less low = omega arith
low_behind depth (Err e) old mid new less low = tt

module _ (sub : ℕ → List Lexeme → Option (Read Expr)) (limit : ℕ) (place : Place) where
  group_of_parts : (start star : Place) (r : List PointerWord × List Lexeme)
      → spec.group_of sub limit place start star r ≡ abstracts.group_with sub place start star r.0 r.1
  unfolding spec.group_behind
  group_of_parts start star ([], s) = refl
  group_of_parts start star (w ∷ ws, s) =
      sym (bind_bind (spec.after_right_paren s) _ _
      ∙ bind_each (spec.after_right_paren s) _ _ (λ t. bind_bind (spec.after_left_bracket t) _ _))

  pub group_parts : (o : Token) (s t : List Lexeme) → s ≡ at (k.Punct p.LeftParen) o ∷ t
      → spec.abstract_direct sub limit place s ≡ abstracts.group_at sub place o.place t
  group_parts o s t e = ap (spec.abstract_direct sub limit place) e ∙ group_of_parts o.place (place_of t) (spec.stars t)

  pointer_of_parts : (star : Place) (r : List PointerWord × List Lexeme) → spec.abstract_pointer_of sub limit place star r
      ≡ (spec.abstract_direct sub limit place r.1 >>= λ x. Some (found (d.Pointer (pointer.Star ∷ r.0) x.tree star) (suc x.height) x.rest))
  unfolding spec.abstract_pointer
  pointer_of_parts star (ws, s) = refl

  pub pointer_parts : (o : Token) (s t : List Lexeme) → s ≡ at (k.Punct p.Star) o ∷ t
      → spec.abstract sub limit place s ≡ abstracts.pointer_at sub limit place s
  unfolding spec.pointer_words
  pointer_parts o s t e = rw e (pointer_of_parts o.place (spec.pointer_words t))
