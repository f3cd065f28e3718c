-- What is read takes no tokens back.
use Rattle.std.proofs.Common.{ℕ, ◌<◌, ◌≤◌, List, [], ◌∷◌, length, Option, Result, Ok, Err, subst, arith}
use Rattle.std.specs.Prelude.{IfSome, IfOk, false}
use Rattle.fc_base.specs.declared.refusals.Place.{Place}
use Rattle.c_tokens.specs.declared.puncts.Punct.TheVariants as p
use Rattle.c_tokens.specs.declared.tokens.Token.{Token}
use Rattle.c_tokens.specs.declared.tokens.TokenKind.TheVariants as kind
use Rattle.c_tree.specs.declared.nodes.Attribute.{Attribute}
use Rattle.parse_meaning.specs.declared.terminals.Keyword.TheVariants as w
use Rattle.parse_meaning.specs.declared.terminals.Terminal.TheVariants as k
use Rattle.parse_meaning.specs.Terminals.{Lexeme, at}
use Rattle.parse_meaning.specs.Expressions as g
use Rattle.parse_meaning.specs.Expressions.{IsAttributeList}
use Rattle.parse_reading.specs.Reading.{Read, expression, bound, abstract, attribute_list}
use Rattle.parse_reading.proofs.Basics.{weaken}
use Rattle.parse_meaning.proofs.Alone.{alike_length, alike_shorter, expr_moves, bound_moves, abstract_moves, attributes_move}
use Rattle.parse_reading.proofs.SoundParts.{attribute_list_sound}
use Rattle.parse_reading.proofs.Sound.{expression_sound, bound_sound, abstract_sound}
use Rattle.parse_tokens.specs.declared.faults.ParseFault.{ParseFault}
use Rattle.parse_tokens.specs.declared.faults.WithHeight.{WithHeight}
use Rattle.parse_tokens.specs.Gives.{Gives, GivesPart}

pub record Shorter {A : Type 0} (s : List Lexeme) (x : Read A) : Type 0 where
  pub shorter : length x.rest < length s

pub record Kept {A : Type 0} (s : List Lexeme) (x : Read A) : Type 0 where
  pub kept : length x.rest ≤ length s

pub expression_shorter : (n to : ℕ) (s : List Lexeme) → IfSome (expression n to s) (Shorter s)
expression_shorter n to s =
    weaken _ _ (expression n to s) (expression_sound n to s) (λ x d. record { shorter = alike_shorter (expr_moves d.derives []).1 })

pub bound_shorter : (n : ℕ) (s : List Lexeme) → IfSome (bound (expression n) s) (Shorter s)
bound_shorter n s =
    weaken _ _ (bound (expression n) s) (bound_sound n (expression n) (expression_sound n) s)
    (λ x d. record { shorter = alike_shorter (bound_moves d.derives []).1 })

pub abstract_kept : (n limit : ℕ) (place : Place) (s : List Lexeme) → IfSome (abstract (expression n) limit place s) (Kept s)
abstract_kept n limit place s =
    weaken _ _ (abstract (expression n) limit place s) (abstract_sound n (expression n) (expression_sound n) limit place s)
    (λ x d. record { kept = alike_length (abstract_moves d.derives []).1 })

list_within : (o : Token) (s t : List Lexeme) (xs : List Attribute) → IsAttributeList (at (k.Word w.Attribute) o ∷ s) xs t →
    length t < length s
list_within o s t xs g.empty_attributes = omega arith
list_within o s t xs (g.some_attributes d) = omega (arith, alike_shorter (attributes_move d []).1)

some_token : Token
some_token = record { kind = kind.Punct p.Comma; place = record { line = 1; col = 1 }; starts_line = false; spaced = false }

pub record PartShorter {A : Type 0} (s : List Lexeme) (x : A × List Lexeme) : Type 0 where
  pub shorter : length x.1 < length s

pub attribute_list_shorter : (s : List Lexeme) → IfSome (attribute_list s) (PartShorter s)
attribute_list_shorter s =
    weaken _ _ (attribute_list s) (attribute_list_sound some_token s) (λ x d. record { shorter = list_within some_token s x.1 x.0 d })

-- ---- Lengths behind what code gives

pub shorter_given : {A : Type 0} (read : Option (Read A)) (r : Result (WithHeight A) ParseFault) (old new : List Lexeme) →
    Gives read r new → IfSome read (Shorter old) →
    IfOk r (λ x. length new < length old)
shorter_given read (Ok x) old new g f = (subst (λ o. IfSome o (Shorter old)) g f).shorter
shorter_given read (Err e) old new g f = tt

pub kept_given : {A : Type 0} (read : Option (Read A)) (r : Result (WithHeight A) ParseFault) (old new : List Lexeme) → Gives read r new →
    IfSome read (Kept old) →
    IfOk r (λ x. length new ≤ length old)
kept_given read (Ok x) old new g f = (subst (λ o. IfSome o (Kept old)) g f).kept
kept_given read (Err e) old new g f = tt

pub part_given : {A : Type 0} (read : Option (A × List Lexeme)) (r : Result A ParseFault) (old new : List Lexeme) → GivesPart read r new →
    IfSome read (PartShorter old) →
    IfOk r (λ x. length new < length old)
part_given read (Ok x) old new g f = (subst (λ o. IfSome o (PartShorter old)) g f).shorter
part_given read (Err e) old new g f = tt
