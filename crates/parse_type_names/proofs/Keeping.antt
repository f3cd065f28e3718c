-- What a part is where it is kept if a test holds.
use Rattle.std.proofs.Common.{◌≡◌, List, Result, Ok, Err, Option, Some, None, Bool, true, false, not, refl}
use Rattle.std.specs.Prelude.{IfOk, IfErr}
use Rattle.parse_meaning.specs.Terminals.{Lexeme}
use Rattle.parse_reading.specs.Reading.{Read, found}
use Rattle.parse_tokens.specs.declared.faults.ParseFault.{ParseFault}
use Rattle.parse_tokens.specs.declared.faults.ParseFault.TheVariants as fault
use Rattle.parse_tokens.specs.declared.faults.WithHeight.{WithHeight}
use Rattle.parse_tokens.specs.Gives.{Gives}

pub kept_gives : {A : Type 0} (read : Option (Read A)) (part : WithHeight A) (holds : Bool) (new : List Lexeme)
    (r : Result (WithHeight A) ParseFault) →
    IfOk r (λ x. (x ≡ part) × (holds ≡ true)) → IfErr r (λ e. (e ≡ fault.NoDerivation) × (holds ≡ false)) →
    (holds ≡ true → read ≡ Some (found part.tree part.height new)) → (holds ≡ false → read ≡ None) → Gives read r new
kept_gives read part holds new (Ok x) ok err reads misses = rw ok.0 (reads ok.1)
kept_gives read part holds new (Err e) ok err reads misses = λ _. misses err.1

pub not_held : (b : Bool) → not b ≡ true → b ≡ false
not_held true e = cc
not_held false e = refl

pub held : (b : Bool) → not b ≡ false → b ≡ true
held true e = refl
held false e = cc
