-- What a print into memory has stored.
use Rattle.std.specs.Prelude.{◌≡◌, ℕ, ◌+◌, ◌-◌, ◌%◌, ◌^◌, min, true, false, List, [], ◌∷◌, ◌++◌, length, take, drop, is_some, IsOk, Result, Ok, Err}
use Rattle.library_meaning.specs.Memory.{put}
use Rattle.library_meaning.specs.declared.stops.HostStop.{HostStop}
use Rattle.library_meaning.specs.declared.stops.HostStop.TheVariants as host
use Rattle.print_formats.specs.Formats.{directives_of}
use Rattle.print_texts.specs.Printing.{apart, listed, measured, shown}
use Rattle.print_chk.specs.Readable.{format_bytes, format_directives, is_free}
use Rattle.print_chk.specs.declared.formats.Format.{Format}
use Rattle.print_chk.specs.declared.storing.Room.{Room}

-- bytes, as far as there was room
pub record Stores (bytes : List ℕ) (room : Room) (old new : List ℕ) (after : Room) : Type 0 where
  pub stored : new ≡ put room.at (take room.left bytes) old
  pub at : after.at ≡ room.at + min room.left (length bytes)
  pub left : after.left ≡ room.left - length bytes

-- a format of whose text a front was stored, up to a place and before an argument
pub record StoredSoFar (args m : List ℕ) (f : Format) (room : Room) (at next : ℕ) (now : List ℕ) (left : Room) : Type 0 where
  pub front : List ℕ
  pub total : ℕ
  pub well : is_some (directives_of (drop at (format_bytes m f))) ≡ true
  pub valid : IsOk (measured args m (listed (directives_of (drop at (format_bytes m f)))) next total)
  pub whole : front ++ shown args m (listed (directives_of (drop at (format_bytes m f)))) next ≡ shown args m (format_directives m f) 0
  pub far : apart args m room.at room.left (listed (directives_of (drop at (format_bytes m f)))) next ≡ true
  pub stored : Stores front room m now left

-- n bytes at d, of a print's text and a NUL, or nothing where they may not be stored
abbrev pub Puts : List ℕ → List ℕ → ℕ → ℕ → Format → Result ℕ HostStop → List ℕ → Type 0
Puts args m d n f (Ok k) new =
    (is_free args m d n f ≡ true) × (k ≡ f.length % 2 ^ 32) × (new ≡ put d (take (n - 1) (shown args m (format_directives m f) 0) ++ 0 ∷ []) m)
Puts args m d n f (Err stop) new = (is_free args m d n f ≡ false) × (stop ≡ host.BadAddress) × (new ≡ m)
