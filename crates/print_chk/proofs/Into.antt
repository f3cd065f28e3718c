-- The rows of prints into memory.
use Rattle.std.proofs.Common.{◌≡◌, ◌≢◌, ℕ, ◌+◌, ◌-◌, ◌<◌, ◌≤◌, ◌%◌, ◌^◌, min, Bool, true, false, not, ◌&&◌, ◌||◌, ltb, List, [], ◌∷◌, ◌++◌, length, take, get_or, Result, Ok, Err, refl, sym, ap, ◌∙◌, subst, arith, length-append}
use Rattle.std.specs.Prelude.{◌==◌, if◌then◌else◌}
use Rattle.std.proofs.Math.Nat.{add-zero}
use Rattle.std.proofs.lemmas.Bool.{le-ltb, lt-ltb, ne_eqb, eq-eqb}
use Rattle.std.proofs.lemmas.List.{length-take, take_all, take_min}
use Rattle.library_meaning.specs.Scan.{and_then}
use Rattle.library_meaning.specs.Memory.{are_valid, put}
use Rattle.library_meaning.specs.Rows.{Given, Gives, Row, Stretch, answer, run}
use Rattle.library_meaning.specs.Table.{int_of, putting}
use Rattle.library_meaning.specs.Prints.{cut_into, length_given, operands, printed, snprintf, sprintf}
use Rattle.library_meaning.specs.OnBytes.{Does, address, meets, on_bytes, quiet, valid_then}
use Rattle.library_meaning.specs.declared.stops.HostStop.{HostStop}
use Rattle.library_meaning.specs.declared.stops.HostStop.TheVariants as host
use Rattle.print_texts.specs.Printing.{apart, shown}
use Rattle.print_texts.proofs.Rows.{Lines, meets_any_is}
use Rattle.print_chk.specs.Readable.{IsFormat, cells_of, format_directives, is_free, text_length}
use Rattle.print_chk.specs.Stored.{Puts}
use Rattle.print_chk.specs.declared.formats.Format.{Format}
use Rattle.print_chk.proofs.Read.{Outcome, behind_second, behind_third, from, goes_on, leaves, text, text_long}

module _ (ops args m : List ℕ) (i : ℕ) (f : Format) (is : IsFormat args m f) (first : get_or ops i 0 ≡ f.at) (lines : Lines ops args (i + 1) 0) (d : ℕ) (to : address ops 0 0 ≡ d) where
  abbrev written : List ℕ
  written = text ops args m i f is first lines

  abbrev reads : List Stretch
  reads = from ops args m i f is first lines

  abbrev stored : List ℕ → Given → Outcome
  stored bytes g = Ok (answer (put d bytes m) quiet g)

  -- bytes are stored where they may be
  puts : (bytes : List ℕ) (g : Given) → run (on_bytes ops) (putting true 0 bytes reads (Gives g)) m quiet ≡ (if is_free args m d (length bytes) f then stored bytes g else Err host.BadAddress)
  puts bytes g =
      let at : address ops i 0 ≡ f.at = add-zero (get_or ops i 0) ∙ first in
      rw (to, at, meets_any_is ops args m d (length bytes) to (format_directives m f) (i + 1) 0 lines)
      (go (meets d (length bytes) f.at (cells_of f.text)) (apart args m d (length bytes) (format_directives m f) 0) (are_valid d (length bytes)))
    where
      go : (t u v : Bool) → and_then (valid_then (not (t || not u)) m) (λ k. and_then (valid_then v (put d bytes k)) (λ l. Ok (answer l quiet g)))
          ≡ (if not t && (u && v) then Ok (answer (put d bytes m) quiet g) else Err host.BadAddress)
      go true u v = refl
      go false true true = refl
      go false true false = refl
      go false false v = refl

  pub puts_text : (bytes : List ℕ) (n : ℕ) (result : Result ℕ HostStop) (new : List ℕ) → bytes ≡ take (n - 1) written ++ 0 ∷ [] → length bytes ≡ n → Puts args m d n f result new
      → Does ops (run (on_bytes ops) (putting true 0 bytes reads (Gives (length_given written))) m quiet) m new result
  puts_text bytes n (Ok k) new same long w =
      let free : is_free args m d (length bytes) f ≡ true = subst (λ z. is_free args m d z f ≡ true) (sym long) w.0 in
      let goes : run (on_bytes ops) (putting true 0 bytes reads (Gives (length_given written))) m quiet ≡ stored bytes (length_given written) = puts bytes (length_given written) ∙ ap (λ b. if b then stored bytes (length_given written) else Err host.BadAddress) free in
      subst (λ r. Does ops r m new (Ok k)) (sym goes) (ap Ok (w.1 ∙ ap int_of (text_long ops args m i f is first lines)), w.2 ∙ ap (λ z. put d z m) (sym same))
  puts_text bytes n (Err stop) new same long w =
      let free : is_free args m d (length bytes) f ≡ false = subst (λ z. is_free args m d z f ≡ false) (sym long) w.0 in
      let goes : run (on_bytes ops) (putting true 0 bytes reads (Gives (length_given written))) m quiet ≡ Err host.BadAddress = puts bytes (length_given written) ∙ ap (λ b. if b then stored bytes (length_given written) else Err host.BadAddress) free in
      subst (λ r. Does ops r m new (Err stop)) (sym goes) (ap Err w.1, w.2)

-- the text as far as it is stored
pub cut_same : (n k : ℕ) (text : List ℕ) → k ≡ min n (length text + 1) → 0 < n → take (k - 1) text ≡ take (n - 1) text
cut_same n k text e some =
    let one : k - 1 ≡ min (n - 1) (length text) = omega arith in
    ap (λ z. take z text) one ∙ take_min (n - 1) text

-- sprintf
pub whole_leaves : (args m : List ℕ) (d a size : ℕ) (stop : HostStop) → text_length args m a ≡ Err stop → run (on_bytes (d ∷ a ∷ args)) (sprintf (length args) size) m quiet ≡ Err stop
whole_leaves args m d a size stop h = leaves (d ∷ a ∷ args) args m 1 ([], []) _ (behind_second d a args) a stop refl h

module _ (args m : List ℕ) (d a size : ℕ) (f : Format) (is : IsFormat args m f) (at : f.at ≡ a) where
  abbrev wholes : List ℕ
  wholes = d ∷ a ∷ args

  whole_goes : (next : List ℕ → List Stretch → Row) → run (on_bytes wholes) (printed (length args) 1 ([], []) next) m quiet
      ≡ run (on_bytes wholes) (next (text wholes args m 1 f is (sym at) (behind_second d a args)) (from wholes args m 1 f is (sym at) (behind_second d a args))) m quiet
  whole_goes next = goes_on wholes args m 1 f is (sym at) (behind_second d a args) ([], []) next

  pub whole_exceeds : size ≤ f.length → run (on_bytes wholes) (sprintf (length args) size) m quiet ≡ Err host.Overflow
  whole_exceeds le =
      let long = text_long wholes args m 1 f is (sym at) (behind_second d a args) in
      whole_goes _ ∙ rw (lt-ltb size (length (shown args m (format_directives m f) 0) + 1) (omega (arith, long))) refl

  pub whole_puts : (result : Result ℕ HostStop) (new : List ℕ) → f.length < size → Puts args m d (f.length + 1) f result new → Does wholes (run (on_bytes wholes) (sprintf (length args) size) m quiet) m new result
  whole_puts result new lt w =
      let t : List ℕ = shown args m (format_directives m f) 0 in
      let long : f.length ≡ length t = text_long wholes args m 1 f is (sym at) (behind_second d a args) in
      let fits : ltb size (length t + 1) ≡ false = le-ltb size (length t + 1) (omega (arith, long)) in
      subst (λ r. Does wholes r m new result) (sym (whole_goes _ ∙ rw fits refl))
      (puts_text wholes args m 1 f is (sym at) (behind_second d a args) d (add-zero d) (t ++ 0 ∷ []) (f.length + 1) result new
      (ap (λ z. z ++ 0 ∷ []) (sym (take_all (f.length + 1 - 1) t (omega (arith, long))))) (omega (arith, long, length-append t (0 ∷ []))) w)

-- snprintf
module _ (args m : List ℕ) (d n a size : ℕ) where
  abbrev cuts : List ℕ
  cuts = d ∷ n ∷ a ∷ args

  abbrev pub cut : Outcome
  cut = run (on_bytes cuts) (snprintf (length args) size) m quiet

  pub cut_exceeds : size < n → cut ≡ Err host.Overflow
  cut_exceeds lt = rw (lt-ltb size n lt) refl

  cut_is : n ≤ size → cut ≡ run (on_bytes cuts) (printed (length args) 2 (0 ∷ operands 3 (length args), if n == 0 then [] else 0 ∷ []) (cut_into n)) m quiet
  cut_is le = rw (le-ltb size n le) refl

  pub cut_leaves : (stop : HostStop) → n ≤ size → text_length args m a ≡ Err stop → cut ≡ Err stop
  cut_leaves stop le h = cut_is le ∙ leaves cuts args m 2 (0 ∷ operands 3 (length args), if n == 0 then [] else 0 ∷ []) (cut_into n) (behind_third d n a args) a stop refl h

  module _ (f : Format) (is : IsFormat args m f) (at : f.at ≡ a) (le : n ≤ size) where
    abbrev t : List ℕ
    t = shown args m (format_directives m f) 0

    cut_goes : cut ≡ run (on_bytes cuts) (cut_into n t (from cuts args m 2 f is (sym at) (behind_third d n a args))) m quiet
    cut_goes = cut_is le ∙ goes_on cuts args m 2 f is (sym at) (behind_third d n a args) (0 ∷ operands 3 (length args), if n == 0 then [] else 0 ∷ []) (cut_into n)

    long : f.length ≡ length t
    long = text_long cuts args m 2 f is (sym at) (behind_third d n a args)

    pub cut_none : n ≡ 0 → Does cuts cut m m (Ok (f.length % 2 ^ 32))
    cut_none e =
        let goes : cut ≡ Ok (answer m quiet (length_given t)) = cut_goes ∙ rw (eq-eqb n 0 e) refl in
        subst (λ r. Does cuts r m m (Ok (f.length % 2 ^ 32))) (sym goes) (ap Ok (ap int_of long), refl)

    pub cut_puts : (result : Result ℕ HostStop) (new : List ℕ) (k : ℕ) → n ≢ 0 → k ≡ min n (f.length + 1) → Puts args m d k f result new → Does cuts cut m new result
    cut_puts result new k some least w =
        let lt : 0 < n = omega arith in
        let count : k ≡ min n (length t + 1) = omega (arith, long) in
        subst (λ r. Does cuts r m new result) (sym (cut_goes ∙ rw (ne_eqb n 0 some) refl))
        (puts_text cuts args m 2 f is (sym at) (behind_third d n a args) d (add-zero d) (take (n - 1) t ++ 0 ∷ []) k result new
        (ap (λ z. z ++ 0 ∷ []) (sym (cut_same n k t count lt))) (omega (arith, length-append (take (n - 1) t) (0 ∷ []), length-take (n - 1) t)) w)
