-- What the answers of functions that read trees in a form of their own share.
use Rattle.std.proofs.Common.{◌≡◌, ◌≢◌, List, Option, Some, None, sym, ap, ◌∙◌}
use Rattle.std.specs.Prelude.{Result, Ok, Err, Bool, true, false, IfOk, IfErr, if◌then◌else◌}
use Rattle.std.specs.Result.{IsErrAnd}
use Rattle.parse_meaning.specs.Terminals.{Lexeme}
use Rattle.parse_reading.specs.Reading.{Read, found}
use Rattle.parse_tokens.specs.Gives.{GivesAs}
use Rattle.parse_tokens.specs.declared.faults.ParseFault.{ParseFault}
use Rattle.parse_tokens.specs.declared.faults.ParseFault.TheVariants as fault
use Rattle.parse_tokens.specs.declared.faults.WithHeight.{WithHeight}

-- what `?` returns
pub err_gives_as : {X A : Type 0} (see : X → A) (read : Option (Read A)) (r : Result (WithHeight X) ParseFault) (new : List Lexeme)
    (e : ParseFault) →
    IsErrAnd r (λ f. e ≡ f) → (e ≢ fault.NoMemory → read ≡ None) → GivesAs see read r new
err_gives_as see read (Ok x) new e same none = absurd same
err_gives_as see read (Err f) new e same none = λ other. none (λ is. other (sym same ∙ is))

-- what a part is where it is kept if a test holds
pub kept_gives_as : {X A : Type 0} (see : X → A) (read : Option (Read A)) (part : WithHeight X) (holds : Bool) (new : List Lexeme)
    (r : Result (WithHeight X) ParseFault) →
    IfOk r (λ x. (x ≡ part) × (holds ≡ true)) → IfErr r (λ e. (e ≡ fault.NoDerivation) × (holds ≡ false)) →
    read ≡ (if holds then Some (found (see part.tree) part.height new) else None) → GivesAs see read r new
kept_gives_as see read part holds new (Ok x) ok err reads =
    rw ok.0 (reads ∙ ap (λ b. if b then Some (found (see part.tree) part.height new) else None) ok.1)
kept_gives_as see read part holds new (Err e) ok err reads =
    λ _. reads ∙ ap (λ b. if b then Some (found (see part.tree) part.height new) else None) err.1
