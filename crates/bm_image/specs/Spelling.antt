-- The bytes of an image. This project's own.
use Rattle.std.specs.Prelude.{◌≡◌, ℕ, List, ◌++◌, length, codes}
use Rattle.std.specs.List.{flat_map}
use Rattle.std.specs.Int.{to_le_bytes, w32}
use Rattle.bm_isa.specs.Encoding.{instruction_bytes}
use Rattle.bm_image.specs.Images.{PlainImage, IsImage}
use Rattle.bm_image.specs.declared.images.FnRec.{FnRec}

-- a number in four bytes, little-endian
abbrev pub word : ℕ → List ℕ
word n = to_le_bytes w32 n

-- a function's record: twenty bytes
abbrev pub record_bytes : FnRec → List ℕ
record_bytes f = word f.first ++ (word f.params ++ (word f.regs ++ (word f.weight ++ word f.frame)))

-- the header: the magic bytes, version 1, the counts of functions, instructions and data bytes, the entry, and a spare word
abbrev pub header_bytes : PlainImage → List ℕ
header_bytes image =
    codes "FC3IMAGE" ++ (word 1 ++ (word (length image.functions) ++ (word (length image.code) ++ (word (length image.bytes) ++
    (word image.entry ++ word 0)))))

unfoldable pub bm_image : PlainImage → List ℕ
bm_image image =
    header_bytes image ++ (flat_map record_bytes image.functions ++ (flat_map instruction_bytes image.code ++ image.bytes))

-- the bytes are the spelling of the image
pub record SpellsImage (bytes : List ℕ) (image : PlainImage) : Type 0 where
  pub image_ok : IsImage image
  pub spelled : bytes ≡ bm_image image
