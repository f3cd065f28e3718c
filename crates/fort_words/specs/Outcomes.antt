-- The exit status and the fault line of each outcome. This project's own.
use Rattle.std.specs.Prelude.{ℕ, List, [], ◌∷◌, ◌++◌, codes, decimal}
use Rattle.fc_base.specs.Names.{rule_name, kind_name}
use Rattle.fc_base.specs.declared.levels.End.{End}
use Rattle.fc_base.specs.declared.levels.End.TheVariants as ends
use Rattle.fc_base.specs.declared.faults.FetchFault.{FetchFault}
use Rattle.fc_base.specs.declared.faults.FetchFault.TheVariants as fetch
use Rattle.fc_base.specs.declared.faults.KeepFault.{KeepFault}
use Rattle.fc_base.specs.declared.faults.KeepFault.TheVariants as keep
use Rattle.fc_base.specs.declared.refusals.Fault.{Fault}
use Rattle.fc_base.specs.declared.refusals.Fault.TheVariants as fault
use Rattle.fc_base.specs.declared.refusals.Place.{Place}
use Rattle.bm_image.specs.declared.faults.ImageKind.{ImageKind}
use Rattle.bm_image.specs.declared.faults.ImageKind.TheVariants as kinds
use Rattle.bm_image.specs.declared.faults.ReadFault.{ReadFault}
use Rattle.bm_image.specs.declared.faults.ReadFault.TheVariants as read
use Rattle.fort_words.specs.declared.outcomes.Outcome.{Outcome}
use Rattle.fort_words.specs.declared.outcomes.Outcome.TheVariants as outcomes

abbrev pub end_status : End → ℕ
end_status (ends.Exit status) = status
end_status ends.Abort = 134
end_status ends.Overflow = 134
end_status ends.Fpe = 136
end_status ends.StackFull = 139
end_status ends.BadAddress = 139
end_status ends.BadFormat = 139

abbrev pub status_of : Outcome → ℕ
status_of outcomes.Done = 0
status_of (outcomes.Ran end) = end_status end
status_of outcomes.Usage = 116
status_of outcomes.StoreFault = 117
status_of outcomes.InputFault = 118
status_of outcomes.OutFault = 119
status_of outcomes.ErrFault = 120
status_of outcomes.TooLong = 121
status_of (outcomes.Refused refusal) = 122
status_of (outcomes.ImageRefused fault) = 123
status_of outcomes.OutOfSteps = 124
status_of outcomes.NoMemory = 125
status_of (outcomes.Undefined kind place) = 126

-- a line behind the program's name
abbrev pub fault_line_of : List ℕ → List ℕ
fault_line_of text = codes "fortc: " ++ (text ++ 10 ∷ [])

-- `LINE:COLUMN`
abbrev pub place_text : Place → List ℕ
place_text place = decimal place.line ++ (codes ":" ++ decimal place.col)

-- what is wrong with a part of an image
abbrev pub image_kind_text : ImageKind → List ℕ
image_kind_text kinds.Short = codes "short"
image_kind_text kinds.Magic = codes "magic"
image_kind_text kinds.Version = codes "version"
image_kind_text kinds.Count = codes "count"
image_kind_text kinds.Function = codes "function"
image_kind_text kinds.Instruction = codes "instruction"
image_kind_text kinds.Extra = codes "extra"

-- what the outcome prints on standard error
abbrev pub fault_text : Outcome → List ℕ
fault_text outcomes.Done = []
fault_text (outcomes.Ran end) = []
fault_text outcomes.Usage = fault_line_of (codes "usage")
fault_text outcomes.StoreFault = fault_line_of (codes "store fault")
fault_text outcomes.InputFault = fault_line_of (codes "input fault")
fault_text outcomes.OutFault = fault_line_of (codes "output fault")
fault_text outcomes.ErrFault = fault_line_of (codes "error output fault")
fault_text outcomes.TooLong = fault_line_of (codes "too long")
fault_text (outcomes.Refused refusal) = fault_line_of (place_text refusal.place ++ (codes ": refused: " ++ rule_name refusal.rule))
fault_text (outcomes.ImageRefused fault) =
    fault_line_of (codes "image refused: " ++ (image_kind_text fault.kind ++ (codes " at " ++ decimal fault.offset)))
fault_text outcomes.OutOfSteps = fault_line_of (codes "out of steps")
fault_text outcomes.NoMemory = fault_line_of (codes "no memory")
fault_text (outcomes.Undefined kind place) = fault_line_of (codes "undefined " ++ (kind_name kind ++ (codes " at " ++ place_text place)))

-- ---- what a fault of a call on the way comes to

abbrev pub after_fetch : FetchFault → Outcome
after_fetch fetch.Failed = outcomes.StoreFault
after_fetch fetch.TooLong = outcomes.TooLong
after_fetch fetch.NoMemory = outcomes.NoMemory

abbrev pub after_keep : KeepFault → Outcome
after_keep keep.Failed = outcomes.StoreFault
after_keep keep.NoMemory = outcomes.NoMemory

abbrev pub after_fault : Fault → Outcome
after_fault (fault.Refused refusal) = outcomes.Refused refusal
after_fault fault.NoMemory = outcomes.NoMemory

abbrev pub after_read : ReadFault → Outcome
after_read (read.Refused fault) = outcomes.ImageRefused fault
after_read read.NoMemory = outcomes.NoMemory
