-- When an image does what a source means. This project's own.
use Rattle.std.specs.Prelude.{◌≡◌, ℕ, ◌+◌, ◌*◌, ◌≤◌, ◌<◌, List, [], ◌∷◌, length, map, max, nat_lt, cond, Bool}
use Rattle.std.specs.List.{AllByRecursion}
use Rattle.run_meaning.specs.Events.{Event, Brackets, source_shown}
use Rattle.run_meaning.specs.Runs.{Standing, Runs, Follows}
use Rattle.run_meaning.specs.Worlds.{ArgumentsFit, AreBytes, Input, IsInput}
use Rattle.fc_base.specs.declared.levels.Level.{Level}
use Rattle.bm_image.specs.declared.images.FnRec.{FnRec}
use Rattle.bm_image.specs.Images.{PlainImage, function_at, end_of}
use Rattle.byte_machine.specs.Opening.{machine_runs}

-- a function of a source that isn't inline, as it is counted from its text: its weight, and the bytes of its frame
pub record SourceFunction : Type 0 where
  pub weight : ℕ
  pub frame : ℕ

-- what a source means: its functions that aren't inline in their order, the place of main among them, and, for each
-- list of arguments, input and bound on steps, its events and how it stands
pub record Meaning : Type 0 where
  pub functions : List SourceFunction
  pub main : ℕ
  pub plain : List (List ℕ) → Input → ℕ → List Event × Standing

-- what it shows at a level, with or without the size lines
abbrev pub source_runs : Meaning → Level → Bool → List (List ℕ) → Input → Runs
source_runs meaning level sizes args input n = source_shown level sizes (meaning.plain args input n).0 (meaning.plain args input n).1

-- the greatest weight of a function that isn't inline
abbrev pub greatest : List ℕ → ℕ
greatest [] = 0
greatest (n ∷ ns) = max n (greatest ns)

abbrev pub weight_of : Meaning → ℕ
weight_of meaning = greatest (map (λ f. f.weight) meaning.functions)

-- within how many instructions an image ends whose source has the greatest weight w and ends within n steps
abbrev pub end_bound : ℕ → ℕ → ℕ
end_bound w n = 3 * w * w * (n + 1)

-- a frame as a record has it: one that passes the stack is written as one that just passes it
abbrev pub written_frame : ℕ → ℕ
written_frame frame = cond (nat_lt 4194304 frame) 4194320 frame

-- what an image records of a function
abbrev pub recorded : FnRec → SourceFunction
recorded f = record { weight = f.weight; frame = f.frame }

abbrev pub to_record : SourceFunction → SourceFunction
to_record f = record f { frame = written_frame f.frame }

-- the image has one record for each function that isn't inline, in their order, with its weight and its frame, and enters
-- at main. From a record's first instruction up to the next one's, or to the end of the code, stand at most as many
-- instructions as its weight
pub record Shaped (image : PlainImage) (meaning : Meaning) : Type 0 where
  pub records : map recorded image.functions ≡ map to_record meaning.functions
  pub entry : image.entry ≡ meaning.main
  pub small : (k : ℕ) → k < length image.functions
      → end_of image.functions (length image.code) k ≤ (function_at image.functions k).first + (function_at image.functions k).weight

-- arguments and an input that a run may be given
pub record AreGiven (args : List (List ℕ)) (input : Input) : Type 0 where
  pub fit : ArgumentsFit args
  pub args_bytes : AllByRecursion AreBytes args
  pub input_bytes : IsInput input

-- the image does what the source means at a level, with or without size lines, by itself: on all arguments and input its
-- machine follows the source
pub record Agrees (image : PlainImage) (meaning : Meaning) (level : Level) (sizes : Bool) : Type 0 where
  pub shaped : Shaped image meaning
  pub follows : (args : List (List ℕ)) (input : Input) → AreGiven args input
      → Follows (end_bound (weight_of meaning)) (machine_runs image args input) (source_runs meaning level sizes args input)

-- each size that the source asks bounds the true one, and is that one where its pointer is resolved
abbrev pub Bracketed : Meaning → Type 0
Bracketed meaning =
    (args : List (List ℕ)) (input : Input) (n : ℕ) → AreGiven args input → AllByRecursion Brackets (meaning.plain args input n).0
