-- The objects outside a run, as one record before a call and one after it. This project's own.
use Rattle.std.specs.Prelude.{◌≡◌, ℕ, ◌≤◌, List, [], ◌++◌, Option, None, Some}
use Rattle.fc_base.specs.Outside.{Files, IsFront, Takes, Appends, Rose}
use Rattle.run_meaning.specs.Runs.{Shown, bytes_on}
use Rattle.run_meaning.specs.Worlds.{AreBytes, Input}
use Rattle.run_meaning.specs.declared.streams.Stream.{Stream}
use Rattle.run_meaning.specs.declared.streams.Stream.TheVariants.{Input as OfInput, Out as OfOut, Err as OfErr}

-- a stream: the bytes left on a source, or those written on a sink, where it tells them, and how often it failed
pub record StreamState : Type 0 where
  pub told : Option (List ℕ)
  pub faults : ℕ

pub record Streams : Type 0 where
  pub input : StreamState
  pub out : StreamState
  pub err : StreamState

-- a store: the bytes under each name, where it tells them, and how often a fetch and a keep of each name failed
pub record StoreState : Type 0 where
  pub files : Option Files
  pub fetch_faults : List ℕ → ℕ
  pub keep_faults : List ℕ → ℕ

-- these records of the parts
abbrev pub stream : Option (List ℕ) → ℕ → StreamState
stream told faults = record { told = told; faults = faults }

abbrev pub streams : StreamState → StreamState → StreamState → Streams
streams input out err = record { input = input; out = out; err = err }

abbrev pub stored : Option Files → (List ℕ → ℕ) → (List ℕ → ℕ) → StoreState
stored files fetch_faults keep_faults = record { files = files; fetch_faults = fetch_faults; keep_faults = keep_faults }

-- one of the streams, and its descriptor
abbrev pub state_of : Stream → Streams → StreamState
state_of OfInput all = all.input
state_of OfOut all = all.out
state_of OfErr all = all.err

abbrev pub descriptor_of : Stream → ℕ
descriptor_of OfInput = 0
descriptor_of OfOut = 1
descriptor_of OfErr = 2

-- the stream failed in the call: its count rose
abbrev pub Failed : Stream → Streams → Streams → Type 0
Failed which old new = Rose (state_of which old).faults (state_of which new).faults

-- none of them failed
abbrev pub NoneFailed : Streams → Streams → Type 0
NoneFailed old new = (which : Stream) → Failed which old new → ⊥

-- no count fell
abbrev pub NoneFell : Streams → Streams → Type 0
NoneFell old new = (which : Stream) → (state_of which old).faults ≤ (state_of which new).faults

-- the bytes that are left on a source: those that it tells, or, where it tells nothing, any bytes
abbrev pub Tells : Option (List ℕ) → List ℕ → Type 0
Tells None bytes = AreBytes bytes
Tells (Some told) bytes = told ≡ bytes

-- what a run may take from the streams
pub record Offers (all : Streams) (input : Input) : Type 0 where
  pub bytes : Tells all.input.told input.bytes
  pub answers : input.answers ≡ []

-- the streams took and wrote what is shown and nothing else, where they tell it
pub record Moves (shown : Shown) (old new : Streams) : Type 0 where
  pub taken : Takes (bytes_on 0 shown) old.input.told new.input.told
  pub on_out : Appends (bytes_on 1 shown) old.out.told new.out.told
  pub on_err : Appends (bytes_on 2 shown) old.err.told new.err.told

-- before a fault: they took and wrote what is shown, and each of them a front of what comes next
pub record MovesUpTo (shown next : Shown) (old new : Streams) : Type 0 where
  pub taken : (front : List ℕ) × IsFront front (bytes_on 0 next) × Takes (bytes_on 0 shown ++ front) old.input.told new.input.told
  pub on_out : (front : List ℕ) × IsFront front (bytes_on 1 next) × Appends (bytes_on 1 shown ++ front) old.out.told new.out.told
  pub on_err : (front : List ℕ) × IsFront front (bytes_on 2 next) × Appends (bytes_on 2 shown ++ front) old.err.told new.err.told

-- the store and the streams together
pub record Outside : Type 0 where
  pub store : StoreState
  pub streams : Streams

abbrev pub outside : StoreState → Streams → Outside
outside store all = record { store = store; streams = all }
