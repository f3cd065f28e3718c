-- What prints show.
use Rattle.std.proofs.Common.{◌≡◌, ℕ, ◌+◌, ◌%◌, ◌^◌, List, [], length, get_or, Option, Result, Ok, Err, refl, sym, ap, ◌∙◌, subst, arith}
use Rattle.run_meaning.specs.Objects.{StreamState}
use Rattle.library_meaning.specs.Scan.{Found, and_then}
use Rattle.library_meaning.specs.Rows.{Row, Show, Gives, Stretch, answer, run, showing}
use Rattle.library_meaning.specs.Table.{int_of}
use Rattle.library_meaning.specs.Prints.{print_on, length_given}
use Rattle.library_meaning.specs.OnBytes.{on_bytes, quiet}
use Rattle.library_meaning.specs.OnStreams.{Writes}
use Rattle.library_meaning.specs.declared.stops.HostStop.{HostStop}
use Rattle.library_meaning.specs.declared.stops.HostStop.TheVariants as host
use Rattle.print_formats.specs.declared.conversions.Options.{Options}
use Rattle.print_formats.specs.declared.conversions.Specifier.{Specifier}
use Rattle.print_formats.specs.declared.conversions.Specifier.TheVariants as specifiers
use Rattle.print_formats.specs.Texts.{string_text}
use Rattle.print_texts.specs.Paddings.{in_parts, padding_of}
use Rattle.print_texts.specs.Printing.{converted_text, string_scan, found_part}
use Rattle.print_texts.proofs.Padded.{padded_parts}
use Rattle.fd_chk.proofs.Written.{writes_all, writes_some}
use Rattle.print_chk.specs.Readable.{IsFormat, text_length}
use Rattle.print_chk.specs.Written.{Wrote}
use Rattle.print_chk.specs.declared.formats.Format.{Format}
use Rattle.print_texts.proofs.Rows.{Lines}
use Rattle.print_chk.proofs.Read.{Outcome, goes_on, leaves, text, text_long}

-- a string with its padding
pub string_parts : (m : List ℕ) (o : Options) (s : Specifier) (v : ℕ) (p : Option ℕ) (f : Found) (n : ℕ) → s ≡ specifiers.Text p → string_scan m v p ≡ Ok f → n ≡ length f.before
    → in_parts (padding_of o n) [] f.before ≡ converted_text m o s v
string_parts m o s v p f n e scan long =
    sym (padded_parts o [] f.before n (omega (arith, long))) ∙ ap (λ r. string_text o (found_part r).before) (sym scan) ∙ ap (λ t. converted_text m o t v) (sym e)

-- a print on a descriptor, whose format is operand i, which stands before the arguments
module _ (ops args m : List ℕ) (descriptor i : ℕ) (lines : Lines ops args (i + 1) 0) where
  abbrev done : Outcome
  done = run (on_bytes ops) (print_on descriptor (length args) i) m quiet

  abbrev shows : List ℕ → List Stretch → Row
  shows text from = Show descriptor text (Gives (length_given text))

  pub stops : (a : ℕ) (stop : HostStop) (x : StreamState) → get_or ops i 0 ≡ a → text_length args m a ≡ Err stop → Writes ops done (Err stop) x x
  stops a stop x first h =
      let is : done ≡ Err stop = leaves ops args m i _ shows lines a stop first h in
      subst (λ r. Writes ops r (Err stop) x x) (sym is) (refl, refl)

  module _ (f : Format) (is : IsFormat args m f) (first : get_or ops i 0 ≡ f.at) where
    abbrev t : List ℕ
    t = text ops args m i f is first lines

    shows_all : done ≡ Ok (answer m (showing quiet descriptor t) (length_given t))
    shows_all = goes_on ops args m i f is first lines _ shows

    pub writes : (result : Result (Unit {0}) HostStop) (x y : StreamState) → Wrote t result x y → Writes ops done (and_then result (λ _. Ok (f.length % 2 ^ 32))) x y
    writes (Ok tt) x y w = writes_all ops m done descriptor (f.length % 2 ^ 32) t (length_given t) x y shows_all (ap int_of (text_long ops args m i f is first lines)) w.0
    writes (Err host.SinkFault) x y w = writes_some ops m done descriptor t (length_given t) x y shows_all w.0 w.1 w.2.0
    writes (Err host.Overflow) x y w = absurd w
    writes (Err host.BadAddress) x y w = absurd w
    writes (Err host.BadFormat) x y w = absurd w
    writes (Err host.InputFault) x y w = absurd w
