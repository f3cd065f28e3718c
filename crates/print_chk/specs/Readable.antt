-- A format that a print has read, and where its text may be stored.
use Rattle.std.specs.Prelude.{◌≡◌, ℕ, ◌+◌, ◌≤◌, not, Bool, true, ◌&&◌, List, length, Result, Ok, Err, if◌then◌else◌}
use Rattle.library_meaning.specs.Memory.{are_valid, bytes_at, memory_size}
use Rattle.library_meaning.specs.OnBytes.{meets}
use Rattle.library_meaning.specs.Scan.{and_then}
use Rattle.library_meaning.specs.Table.{no_limit}
use Rattle.library_meaning.specs.declared.stops.HostStop.{HostStop}
use Rattle.library_meaning.specs.declared.stops.HostStop.TheVariants as host
use Rattle.host_bytes.specs.Texts.{byte_scan, found}
use Rattle.host_bytes.specs.declared.finding.Text.{Text}
use Rattle.print_formats.specs.declared.conversions.Directive.{Directive}
use Rattle.print_formats.specs.Formats.{directives_of}
use Rattle.print_texts.specs.Printing.{accepted, apart, listed, measured}
use Rattle.print_chk.specs.declared.formats.Format.{Format}

-- how many bytes were read for what a scan has found
abbrev pub cells_of : Text → ℕ
cells_of t = if t.ended then t.len + 1 else t.len

-- the length of the text of a print whose format stands at an address, or why it stops
abbrev pub text_length : List ℕ → List ℕ → ℕ → Result ℕ HostStop
text_length args m a =
    and_then (byte_scan 0 m a no_limit) (λ f. if accepted (length args) 0 (directives_of f.before)
    then measured args m (listed (directives_of f.before)) 0 0
    else Err host.BadFormat)

-- the bytes of a format, and its directives
abbrev pub format_bytes : List ℕ → Format → List ℕ
format_bytes m f = bytes_at m f.at f.text.len

abbrev pub format_directives : List ℕ → Format → List Directive
format_directives m f = listed (directives_of (format_bytes m f))

-- a format with arguments that it takes
pub record IsFormat (args m : List ℕ) (f : Format) : Type 0 where
  pub scanned : byte_scan 0 m f.at no_limit ≡ Ok (found 0 m f.at f.text)
  pub inside : are_valid f.at f.text.len ≡ true
  pub small : f.text.len ≤ memory_size
  pub long : length (format_bytes m f) ≡ f.text.len
  pub takes : accepted (length args) 0 (directives_of (format_bytes m f)) ≡ true
  pub measures : measured args m (format_directives m f) 0 0 ≡ Ok f.length

-- the format at an address, whose text may be stored in n bytes at d
abbrev pub IsReadable : List ℕ → List ℕ → ℕ → ℕ → ℕ → Result Format HostStop → Type 0
IsReadable args m d n a (Ok f) = (f.at ≡ a) × IsFormat args m f × (f.clear ≡ apart args m d n (format_directives m f) 0)
IsReadable args m d n a (Err stop) = text_length args m a ≡ Err stop

-- n bytes at d may be stored by a print: each may be touched, and they meet nothing that it reads
abbrev pub is_free : List ℕ → List ℕ → ℕ → ℕ → Format → Bool
is_free args m d n f =
    not (meets d n f.at (cells_of f.text)) && (apart args m d n (format_directives m f) 0 && are_valid d n)
