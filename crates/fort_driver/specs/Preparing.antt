-- How a machine is made ready for a command, and what becomes of it.
use Rattle.std.specs.Prelude.{◌≡◌, ℕ, List, false, Result, Err, IfOk, IfErr}
use Rattle.std.specs.Option.{option_map}
use Rattle.run_meaning.specs.Objects.{StoreState, Streams, Failed}
use Rattle.run_meaning.specs.declared.streams.Stream.{Stream}
use Rattle.bm_image.specs.Images.{PlainImage}
use Rattle.byte_machine.specs.Opening.{first_core, program_of}
use Rattle.byte_machine.specs.Machines.{Loaded}
use Rattle.byte_machine.specs.declared.machine.Stop.TheVariants as stops
use Rattle.fc_base.specs.declared.levels.Level.TheVariants.{Three}
use Rattle.fort_words.specs.declared.Outcome.{Outcome}
use Rattle.fort_words.specs.declared.Outcome.TheVariants as outcomes
use Rattle.fort_words.specs.Commands.{Command, Exec, Run, level_of, sizes_of, args_of}
use Rattle.fort_driver.specs.Compiled.{form_image}
use Rattle.fort_driver.specs.Fort.{IsStored, KeepsImage, NotCompiled, NotOpened, KeepsCounts, OnlyFetches, ComesTo, fault_outcome}

-- a machine that answers the end of its state, where that has one
abbrev pub IsAtStart : Loaded → Type 0
IsAtStart machine = machine.stop ≡ option_map stops.Ended machine.core.stopped

-- the machine stands at the first instruction of an image, or has ended before it
pub record IsOpened (image : PlainImage) (args : List (List ℕ)) (machine : Loaded) : Type 0 where
  pub program : machine.program ≡ program_of image
  pub core : machine.core ≡ first_core image args
  pub start : IsAtStart machine

-- it is opened on an image that was fetched
pub record IsLoaded (command : Command) (old : StoreState) (machine : Loaded) : Type 0 where
  pub image : PlainImage
  pub stored : IsStored command old image
  pub opened : IsOpened image (args_of command) machine

-- it is opened on an image that was kept, which is compiled at level 3 and shows no sizes
pub record IsReady (command : Command) (old new : StoreState) (machine : Loaded) : Type 0 where
  pub level : level_of command ≡ Three
  pub sizes : sizes_of command ≡ false
  pub image : PlainImage
  pub image_kept : KeepsImage command old new image
  pub made : image ≡ form_image image_kept.compiled
  pub opened : IsOpened image (args_of command) machine

-- what becomes of a source: a machine that is ready on its image, or why there is none and what is left; and which counts changed
pub record Prepares (command : Command) (result : Result Loaded Outcome) (old new : StoreState) : Type 0 where
  pub ready : IfOk result (IsReady command old new)
  pub not_ready : IfErr result (λ outcome. NotCompiled command outcome old new)
  pub counts : KeepsCounts command old new (result ≡ Err outcomes.StoreFault)

-- what becomes of an image: a machine that is opened on it, or why there is none; and the store keeps its bytes
pub record Loads (command : Command) (result : Result Loaded Outcome) (old new : StoreState) : Type 0 where
  pub ready : IfOk result (IsLoaded command old)
  pub not_ready : IfErr result (λ outcome. NotOpened command outcome old new)
  pub store : OnlyFetches command old new (result ≡ Err outcomes.StoreFault)

-- the one of them that the command asks for
abbrev pub Readies : Command → Result Loaded Outcome → StoreState → StoreState → Type 0
Readies (Exec options image args) result old new = Loads (Exec options image args) result old new
Readies (Run options file image args) result old new = Prepares (Run options file image args) result old new
Readies _ result old new = ⊥

-- a machine that is run comes to this outcome, and a fault of a stream comes only where its count rose
pub record Runs (outcome : Outcome) (bound : ℕ) (machine : Loaded) (old new : Streams) : Type 0 where
  pub ran : ComesTo outcome bound machine.program machine.core old new
  pub failed : (which : Stream) → outcome ≡ fault_outcome which → Failed which old new
