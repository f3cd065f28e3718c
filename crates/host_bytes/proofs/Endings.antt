-- How a call ends by its row over bytes.
use Rattle.std.proofs.Common.{◌≡◌, ℕ, List, Result, Ok, Err, refl, sym, ap, subst}
use Rattle.library_meaning.specs.Rows.{Answer, Given, answer}
use Rattle.library_meaning.specs.OnBytes.{Does, number_of, quiet}
use Rattle.library_meaning.specs.declared.stops.HostStop.{HostStop}

-- it ends well and gives this number
pub does_giving : (args m old new : List ℕ) (r : Result (Answer (List ℕ)) HostStop) (given : Given) (n : ℕ) → r ≡ Ok (answer m quiet given) → n ≡ number_of args given → new ≡ m → Does args r old new (Ok n)
does_giving args m old new r given n e same is = subst (λ x. Does args x old new (Ok n)) (sym e) (ap Ok same, is)

-- it stops
pub does_stop : (args old new : List ℕ) (r : Result (Answer (List ℕ)) HostStop) (stop : HostStop) → r ≡ Err stop → new ≡ old → Does args r old new (Err stop)
does_stop args old new r stop e is = subst (λ x. Does args x old new (Err stop)) (sym e) (refl, is)
