-- The parts of an image's bytes with their offsets, and the first of them that is refused. This project's own.
use Rattle.std.specs.Prelude.{◌≡◌, ℕ, zero, suc, ◌+◌, ◌*◌, ◌-◌, ◌%◌, ◌<◌, ◌≤◌, List, [], ◌∷◌, ◌++◌, length, take, drop, Bool, ◌&&◌, ◌||◌, not, ◌==◌, nat_lt, nat_le, Option, Some, None, IsTrue, codes, ⊤}
use Rattle.bm_isa.specs.declared.instructions.Instr.{Instr}
use Rattle.bm_isa.specs.Encoding.{instruction_bytes}
use Rattle.bm_isa.specs.Decoding.{word_at, IsInstr}
use Rattle.bm_image.specs.declared.images.FnRec.{FnRec}
use Rattle.bm_image.specs.declared.faults.ImageKind.{ImageKind}
use Rattle.bm_image.specs.declared.faults.ImageKind.TheVariants as kinds
use Rattle.bm_image.specs.declared.faults.ImageFault.{ImageFault}
use Rattle.bm_image.specs.Images.{bounds_of, fits, ends_function}

-- what the header says: how many functions, instructions and data bytes there are, and the number of the entry
abbrev pub functions_count : List ℕ → ℕ
functions_count bytes = word_at bytes 12

abbrev pub code_count : List ℕ → ℕ
code_count bytes = word_at bytes 16

abbrev pub data_count : List ℕ → ℕ
data_count bytes = word_at bytes 20

abbrev pub entry_in : List ℕ → ℕ
entry_in bytes = word_at bytes 24

-- where the record of function k stands, instruction i, the data, and the end
abbrev pub record_offset : ℕ → ℕ
record_offset k = 32 + 20 * k

abbrev pub code_offset : List ℕ → ℕ → ℕ
code_offset bytes i = record_offset (functions_count bytes) + 16 * i

abbrev pub data_offset : List ℕ → ℕ
data_offset bytes = code_offset bytes (code_count bytes)

abbrev pub image_end : List ℕ → ℕ
image_end bytes = data_offset bytes + data_count bytes

-- the record at an offset, and the records of n functions from there on
abbrev pub record_at : List ℕ → ℕ → FnRec
record_at bytes at = record {
  first = word_at bytes at;
  params = word_at bytes (at + 4);
  regs = word_at bytes (at + 8);
  weight = word_at bytes (at + 12);
  frame = word_at bytes (at + 16);
}

abbrev pub records_at : List ℕ → ℕ → ℕ → List FnRec
records_at bytes at zero = []
records_at bytes at (suc n) = record_at bytes at ∷ records_at bytes (at + 20) n

abbrev pub functions_in : List ℕ → List FnRec
functions_in bytes = records_at bytes 32 (functions_count bytes)

-- a number is from a least to a greatest
abbrev pub is_between : ℕ → ℕ → ℕ → Bool
is_between least most n = nat_le least n && nat_le n most

-- the record before that of function k
abbrev pub record_before : List ℕ → ℕ → Option FnRec
record_before bytes zero = None
record_before bytes (suc k) = Some (record_at bytes (record_offset k))

-- a function's code begins behind where that of the one before begins, and the first one's at the first instruction
abbrev pub rises : Option FnRec → FnRec → Bool
rises None f = f.first == 0
rises (Some before) f = nat_lt before.first f.first

-- a function's numbers are within their bounds
abbrev pub numbers_fit : FnRec → Bool
numbers_fit f =
    nat_le f.params 60 && (nat_le f.params f.regs && (nat_le 1 f.regs && (nat_le f.regs f.weight
    && (nat_le f.weight 4194304 && (nat_le f.frame 4194320 && (f.frame % 16 == 0))))))

-- the entry has no parameters, or argc and argv
abbrev pub entry_fits : FnRec → Bool
entry_fits f = (f.params == 0) || (f.params == 2)

-- a record stands rightly behind the one before, of so many instructions in all; and it may be the entry's
abbrev pub record_fits : Option FnRec → ℕ → Bool → FnRec → Bool
record_fits before size is_entry f = rises before f && (nat_lt f.first size && (numbers_fit f && (not is_entry || entry_fits f)))

-- instruction i is in the code of function k
pub record IsIn (functions : List FnRec) (size k i : ℕ) : Type 0 where
  pub function : k < length functions
  pub behind : (bounds_of functions size k).first ≤ i
  pub before : i < (bounds_of functions size k).end

-- this instruction stands rightly at i
pub record Stands (functions : List FnRec) (size i : ℕ) (instruction : Instr) : Type 0 where
  pub fit : (k : ℕ) → IsIn functions size k i → IsTrue (fits (bounds_of functions size k) instruction)
  pub last : (k : ℕ) → IsIn functions size k i → i + 1 ≡ (bounds_of functions size k).end → IsTrue (ends_function instruction)

-- the parts: the magic bytes, a word that is from a least number to a greatest, a record, an instruction, the data, and nothing
-- behind them
pub data Part : Type 0 where
  Magic : Part
  Word : ℕ → ℕ → ℕ → ImageKind → Part
  Record : ℕ → Part
  Instruction : ℕ → Part
  Data : Part
  End : Part

-- where a part stands, how many bytes it has, and what is wrong where it isn't right. No data are wrong
abbrev pub offset_of : List ℕ → Part → ℕ
offset_of bytes Magic = 0
offset_of bytes (Word at least most kind) = at
offset_of bytes (Record k) = record_offset k
offset_of bytes (Instruction i) = code_offset bytes i
offset_of bytes Data = data_offset bytes
offset_of bytes End = image_end bytes

abbrev pub count_of : List ℕ → Part → ℕ
count_of bytes Magic = 8
count_of bytes (Word at least most kind) = 4
count_of bytes (Record k) = 20
count_of bytes (Instruction i) = 16
count_of bytes Data = data_count bytes
count_of bytes End = 0

abbrev pub kind_of : Part → ImageKind
kind_of Magic = kinds.Magic
kind_of (Word at least most kind) = kind
kind_of (Record k) = kinds.Function
kind_of (Instruction i) = kinds.Instruction
kind_of Data = kinds.Extra
kind_of End = kinds.Extra

-- a part that is whole is right
abbrev pub IsRight : List ℕ → Part → Type 0
IsRight bytes Magic = take 8 bytes ≡ codes "FC3IMAGE"
IsRight bytes (Word at least most kind) = IsTrue (is_between least most (word_at bytes at))
IsRight bytes (Record k) =
    IsTrue (record_fits (record_before bytes k) (code_count bytes) (k == entry_in bytes) (record_at bytes (record_offset k)))
IsRight bytes (Instruction i) =
    (instruction : Instr) × IsInstr instruction × (instruction_bytes instruction ≡ take 16 (drop (code_offset bytes i) bytes))
    × Stands (functions_in bytes) (code_count bytes) i instruction
IsRight bytes Data = ⊤
IsRight bytes End = length bytes ≡ image_end bytes

-- a part is accepted, or it is refused: the bytes end within it, or it isn't right
pub record Accepts (bytes : List ℕ) (part : Part) : Type 0 where
  pub whole : offset_of bytes part + count_of bytes part ≤ length bytes
  pub right : IsRight bytes part

pub data Refuses (bytes : List ℕ) (part : Part) : ImageFault → Type 0 where
  short : length bytes < offset_of bytes part + count_of bytes part
      → Refuses bytes part (record { kind = kinds.Short; offset = length bytes })
  wrong : offset_of bytes part + count_of bytes part ≤ length bytes → (IsRight bytes part → ⊥)
      → Refuses bytes part (record { kind = kind_of part; offset = offset_of bytes part })

-- the parts are looked at in order: all are accepted, or this is what is wrong with the first that is refused
pub data Judges (bytes : List ℕ) : List Part → Option ImageFault → Type 0 where
  all : Judges bytes [] None
  refused : {part : Part} {parts : List Part} {fault : ImageFault} → Refuses bytes part fault → Judges bytes (part ∷ parts) (Some fault)
  next : {part : Part} {parts : List Part} {found : Option ImageFault} → Accepts bytes part → Judges bytes parts found
      → Judges bytes (part ∷ parts) found

-- n records from function k on, and n instructions from i on
abbrev pub records : ℕ → ℕ → List Part
records k zero = []
records k (suc n) = Record k ∷ records (suc k) n

abbrev pub instructions : ℕ → ℕ → List Part
instructions i zero = []
instructions i (suc n) = Instruction i ∷ instructions (suc i) n

-- magic, version, counts of functions, of instructions and of data bytes, entry, spare word
abbrev pub header_parts : List ℕ → List Part
header_parts bytes =
    Magic ∷ Word 8 1 1 kinds.Version ∷ Word 12 1 4096 kinds.Count ∷ Word 16 1 4194304 kinds.Count ∷ Word 20 0 4194304 kinds.Count
    ∷ Word 24 0 (functions_count bytes - 1) kinds.Count ∷ Word 28 0 0 kinds.Count ∷ []

-- the parts of an image, in order
abbrev pub image_parts : List ℕ → List Part
image_parts bytes =
    header_parts bytes ++ (records 0 (functions_count bytes) ++ (instructions 0 (code_count bytes) ++ Data ∷ End ∷ []))
