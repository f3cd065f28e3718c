-- What a function answered, as plain data.
use Rattle.std.specs.Prelude.{Result, Ok, Err}
use Rattle.fc_base.specs.declared.refusals.Refusal.{Refusal}
use Rattle.fc_base.specs.declared.refusals.Fault.{Fault}
use Rattle.fc_base.specs.declared.refusals.Fault.TheVariants.{Refused, NoMemory}

-- a fault has the property, unless it is want of memory
abbrev pub Fails : {Y : Type 0} → Fault → (Result Y Refusal → Type 0) → Type 0
Fails NoMemory P = Unit {0}
Fails (Refused r) P = P (Err r)

-- the answer has the property, its value as seen, unless memory ran out
abbrev pub Answers : {X Y : Type 0} → (X → Y) → Result X Fault → (Result Y Refusal → Type 0) → Type 0
Answers see (Ok x) P = P (Ok (see x))
Answers see (Err e) P = Fails e P
