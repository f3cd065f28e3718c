-- How the machine's memory stands for objects: each live object has an address, and from there on the bytes are what its cells say.
-- This project's own.
use Rattle.std.specs.Prelude.{◌≡◌, ◌≢◌, ◌⊎◌, ℕ, zero, suc, ◌+◌, ◌/◌, ◌%◌, ◌<◌, ◌≤◌, Bool, true, List, length, get_or, ⊤}
use Rattle.std.specs.Prelude.{ℤ, pos, ◌+ℤ◌}
use Rattle.library_meaning.specs.Memory.{first_valid, memory_size}
use Rattle.object_meaning.specs.Memory.{IsMemory}
use Rattle.object_meaning.specs.Objects.{Object, is_live, size_at, cell_at}
use Rattle.object_meaning.specs.Sizes.{at_least_none}
use Rattle.object_meaning.specs.declared.values.Cell.{Cell}
use Rattle.object_meaning.specs.declared.values.Cell.TheVariants.{Byte, Uninit, Part}
use Rattle.object_meaning.specs.declared.values.Ptr.{Ptr}
use Rattle.object_meaning.specs.declared.values.PtrValue.{PtrValue}
use Rattle.object_meaning.specs.declared.values.PtrValue.TheVariants.{Null, At}
use Rattle.object_meaning.specs.declared.values.Value.{Value}
use Rattle.object_meaning.specs.declared.values.Value.TheVariants as value

-- the byte at each address
abbrev pub reading : List ℕ → ℕ → ℕ
reading m a = get_or m a 0

-- byte k of a number, the lowest first
abbrev pub byte_of : ℕ → ℕ → ℕ
byte_of x zero = x % 256
byte_of x (suc k) = byte_of (x / 256) k

-- where a pointer points, by the addresses of objects
abbrev pub address_of : (ℕ → ℕ) → Ptr → ℤ
address_of at p = pos (at p.object) +ℤ p.offset

-- a byte is what a cell says. Nothing is said of an uninitialised cell, and of a pointer to an object that has ended
abbrev pub CellIs : (ℕ → ℕ) → (ℕ → Bool) → Cell → ℕ → Type 0
CellIs at alive (Byte b) byte = byte ≡ b
CellIs at alive Uninit byte = ⊤
CellIs at alive (Part p k) byte = alive p.object ≡ true → byte ≡ byte_of (at_least_none (address_of at p)) k

-- a register's number is what a pointer, and a value, says
abbrev pub PtrIs : (ℕ → ℕ) → (ℕ → Bool) → PtrValue → ℕ → Type 0
PtrIs at alive (Null claim) r = r ≡ 0
PtrIs at alive (At p) r = alive p.object ≡ true → pos r ≡ address_of at p

abbrev pub ValueIs : (ℕ → ℕ) → (ℕ → Bool) → Value → ℕ → Type 0
ValueIs at alive (value.Int n) r = r ≡ n
ValueIs at alive (value.Pointer v) r = PtrIs at alive v r
ValueIs at alive value.Uninit r = ⊤
ValueIs at alive value.Nothing r = ⊤

-- where live objects lie: with one guard byte behind each they are apart, and in the bytes that may be touched
pub record Layout (at : ℕ → ℕ) (objs : List Object) : Type 0 where
  pub apart : (o p : ℕ) → is_live objs o ≡ true → is_live objs p ≡ true → o ≢ p
      → (at o + size_at objs o < at p) ⊎ (at p + size_at objs p < at o)
  pub above : (o : ℕ) → is_live objs o ≡ true → first_valid ≤ at o
  pub below : (o : ℕ) → is_live objs o ≡ true → at o + size_at objs o < memory_size

pub record Corresponds (at : ℕ → ℕ) (objs : List Object) (m : ℕ → ℕ) : Type 0 where
  pub layout : Layout at objs
  pub cells : (o k : ℕ) → is_live objs o ≡ true → k < size_at objs o → CellIs at (is_live objs) (cell_at objs o k) (m (at o + k))

-- the two memories
pub record Memories (at : ℕ → ℕ) (objs : List Object) (m : List ℕ) : Type 0 where
  pub corresponds : Corresponds at objs (reading m)
  pub is_memory : IsMemory objs
  pub size : length m ≡ memory_size
