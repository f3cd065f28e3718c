-- What is read takes no tokens back, and how high it is.
use Rattle.std.proofs.Common.{◌≡◌, ◌+◌, ◌≤◌, ℕ, suc, List, [], length, Result, Ok, Err, arith}
use Rattle.std.specs.Prelude.{IfSome, IfOk}
use Rattle.parse_meaning.specs.Terminals.{Lexeme}
use Rattle.parse_reading.specs.Reading.{expression}
use Rattle.parse_reading.specs.ReadingDeclarators.{params_in, whole, first, declarator}
use Rattle.parse_reading.proofs.Basics.{weaken}
use Rattle.parse_tokens.specs.declared.faults.ParseFault.{ParseFault}
use Rattle.parse_tokens.specs.declared.faults.WithHeight.{WithHeight}
use Rattle.parse_tokens.specs.Gives.{Low}
use Rattle.parse_leaves.proofs.Lengths.{Shorter}
use Rattle.parse_meaning.proofs.Alone.{alike_shorter, params_move, direct_moves}
use Rattle.parse_reading.proofs.Sound.{expression_sound}
use Rattle.parse_reading.proofs.SoundDeclarators.{params_in_sound, whole_sound, first_sound, declarator_sound}

pub params_shorter : (n : ℕ) (s : List Lexeme) → IfSome (params_in (suc n) (expression n) (declarator n) s) (Shorter s)
params_shorter n s =
    weaken _ _ (params_in (suc n) (expression n) (declarator n) s)
    (params_in_sound n (suc n) (expression n) (expression_sound n) (declarator n) (declarator_sound n) s)
    (λ x f. record { shorter = alike_shorter (params_move f.derives []).1 })

pub first_shorter : (n m : ℕ) (s : List Lexeme)
    → IfSome (first (suc n) (expression n) (declarator n) (whole (suc n) (expression n) (declarator n) m) s) (Shorter s)
first_shorter n m s =
    weaken _ _ (first (suc n) (expression n) (declarator n) (whole (suc n) (expression n) (declarator n) m) s)
    (first_sound n (suc n) (expression n) (expression_sound n) (declarator n) (declarator_sound n)
    (whole (suc n) (expression n) (declarator n) m)
    (whole_sound n (suc n) (expression n) (expression_sound n) (declarator n) (declarator_sound n) m) s)
    (λ x f. record { shorter = alike_shorter (direct_moves f.derives []).1 })

pub low_known : {A : Type 0} (n h : ℕ) (r : Result (WithHeight A) ParseFault) (s t : List Lexeme) → IfOk r (λ x. x.height ≡ h)
    → h + length t ≤ n + length s → Low n r s t
low_known n h (Ok x) s t e low = omega (arith, e, low)
low_known n h (Err e) s t same low = tt

pub low_behind : {A : Type 0} (n m : ℕ) (r : Result (WithHeight A) ParseFault) (s t u : List Lexeme) → m + length t ≤ n + length s
    → Low m r t u → Low n r s u
low_behind n m (Ok x) s t u more low = omega (arith, more, low)
low_behind n m (Err e) s t u more low = tt
