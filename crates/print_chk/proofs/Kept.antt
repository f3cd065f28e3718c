-- What a print reads apart from what it stores stays as it was.
use Rattle.std.proofs.Common.{◌≡◌, ℕ, suc, ◌+◌, ◌-◌, ◌<◌, ◌≤◌, Bool, true, false, eqb, leb, List, [], ◌∷◌, length, get_or, take, drop, Option, None, Some, Result, Ok, Err, refl, sym, ap, ◌∙◌, subst, arith}
use Rattle.std.specs.Prelude.{if◌then◌else◌, IsOk}
use Rattle.std.proofs.lemmas.List.{ext_get_or, get_or-take, get_or-drop, length-take, length-drop}
use Rattle.library_meaning.specs.Scan.{Found, scan, and_then, after_byte, stopped_by, at_limit}
use Rattle.library_meaning.specs.Table.{cells_read}
use Rattle.library_meaning.specs.Memory.{bytes_at, put, first_valid}
use Rattle.library_meaning.specs.OnBytes.{byte_look, meets}
use Rattle.library_meaning.specs.declared.stops.HostStop.{HostStop}
use Rattle.library_meaning.specs.declared.stops.HostStop.TheVariants as host
use Rattle.host_bytes.specs.Texts.{byte_scan, found}
use Rattle.host_bytes.specs.declared.finding.Text.{Text}
use Rattle.print_formats.specs.declared.conversions.Options.{Options}
use Rattle.print_formats.specs.declared.conversions.Specifier.{Specifier}
use Rattle.print_formats.specs.declared.conversions.Specifier.TheVariants as specifiers
use Rattle.print_formats.specs.Texts.{string_text}
use Rattle.print_texts.specs.Printing.{conversion_reads, converted_text, counted, found_part, string_scan}
use Rattle.print_chk.specs.Readable.{cells_of}
use Rattle.print_chk.specs.Stored.{Stores}
use Rattle.print_chk.specs.declared.storing.Room.{Room}
use Rattle.print_chk.proofs.Apart.{outside}
use Rattle.print_chk.proofs.Stores.{length_put, put_outside}

read_more : (x : ℕ) (g : Found) → cells_read (after_byte x g) ≡ suc (cells_read g)
read_more x g = go g.stop
  where
    go : (o : Option ℕ) → elim o [ None ↦ suc (length g.before) | Some b ↦ suc (length g.before) + 1 ] ≡ suc (elim o [ None ↦ length g.before | Some b ↦ length g.before + 1 ])
    go None = refl
    go (Some b) = omega arith

-- a scan looks at the bytes that it has read, and at no other
scan_same : (stops : ℕ → Bool) (limit : ℕ) (xs ys : List ℕ) (f : Found) → length ys ≡ length xs → scan byte_look host.BadAddress stops limit xs ≡ Ok f
    → ((k : ℕ) → k < cells_read f → get_or ys k 0 ≡ get_or xs k 0) → scan byte_look host.BadAddress stops limit ys ≡ Ok f
scan_same stops limit [] [] f n h same = h
scan_same stops limit [] (y ∷ ys) f n h same = absurd (omega arith)
scan_same stops limit (x ∷ xs) [] f n h same = absurd (omega arith)
scan_same stops limit (x ∷ xs) (y ∷ ys) f n h same =
    go (eqb limit 0) (stops x) (scan byte_look host.BadAddress stops (limit - 1) xs) refl refl h (λ g e. scan_same stops (limit - 1) xs ys g (omega arith) e)
  where
    go : (t u : Bool) (r : Result Found HostStop) → eqb limit 0 ≡ t → stops x ≡ u → (if t then Ok at_limit else (if u then Ok (stopped_by x) else and_then r (λ g. Ok (after_byte x g)))) ≡ Ok f
        → ((g : Found) → r ≡ Ok g → ((k : ℕ) → k < cells_read g → get_or ys k 0 ≡ get_or xs k 0) → scan byte_look host.BadAddress stops (limit - 1) ys ≡ Ok g)
        → scan byte_look host.BadAddress stops limit (y ∷ ys) ≡ Ok f
    go true u r et eu e more = rw et e
    go false true r et eu e more =
        let is : stopped_by x ≡ f = cc in
        let one : 0 < cells_read f = subst (λ z. 0 < cells_read z) is (omega arith) in
        let first : y ≡ x = same 0 one in
        rw (et, first, eu) e
    go false false (Ok g) et eu e more =
        let is : after_byte x g ≡ f = cc in
        let count : suc (cells_read g) ≡ cells_read f = sym (read_more x g) ∙ ap cells_read is in
        let first : y ≡ x = same 0 (omega (arith, count)) in
        rw (et, first, eu, more g refl (λ k lt. same (suc k) (omega (arith, count)))) e
    go false false (Err z) et eu e more = absurd (cc)

-- bytes that were put apart from what a scan has read don't change it
pub scan_apart : (byte : ℕ) (m : List ℕ) (a limit d n : ℕ) (bs : List ℕ) (f : Found) → d + length bs ≤ length m → length bs ≤ n → byte_scan byte m a limit ≡ Ok f → meets d n a (cells_read f) ≡ false
    → byte_scan byte (put d bs m) a limit ≡ Ok f
scan_apart byte m a limit d n bs f fits le h apart = go (leb first_valid a) h
  where
    go : (t : Bool) → scan byte_look host.BadAddress (λ b. eqb b byte) limit (if t then drop a m else []) ≡ Ok f → scan byte_look host.BadAddress (λ b. eqb b byte) limit (if t then drop a (put d bs m) else []) ≡ Ok f
    go false e = e
    go true e = scan_same (λ b. eqb b byte) limit (drop a m) (drop a (put d bs m)) f
        (let long = length_put d bs m fits in omega (arith, long, length-drop a m, length-drop a (put d bs m))) e
        (λ k lt. get_or-drop a (put d bs m) k 0 ∙ put_outside d bs m fits (a + k) 0 (outside d n a (cells_read f) (length bs) k apart le lt) ∙ sym (get_or-drop a m k 0))

-- nor bytes that are read
pub bytes_apart : (m bs : List ℕ) (d n a k : ℕ) → d + length bs ≤ length m → length bs ≤ n → meets d n a k ≡ false → bytes_at (put d bs m) a k ≡ bytes_at m a k
bytes_apart m bs d n a k fits le apart =
    let long = length_put d bs m fits in
    ext_get_or 0 (bytes_at (put d bs m) a k) (bytes_at m a k)
    (omega (arith, long, length-take k (drop a (put d bs m)), length-drop a (put d bs m), length-take k (drop a m), length-drop a m))
    (λ j lt.
    let less : j < k = omega (arith, length-take k (drop a (put d bs m))) in
    get_or-take k (drop a (put d bs m)) j 0 less ∙ get_or-drop a (put d bs m) j 0 ∙ put_outside d bs m fits (a + j) 0 (outside d n a k (length bs) j apart le less) ∙ sym (get_or-drop a m j 0) ∙ sym (get_or-take k (drop a m) j 0 less))

pub stored_apart : (bs : List ℕ) (r s : Room) (m n : List ℕ) (a k : ℕ) → r.at + r.left ≤ length m → Stores bs r m n s → meets r.at r.left a k ≡ false → bytes_at n a k ≡ bytes_at m a k
stored_apart bs r s m n a k fits w apart =
    let short : length (take r.left bs) ≤ r.left = omega (arith, length-take r.left bs) in
    ap (λ z. bytes_at z a k) w.stored ∙ bytes_apart m (take r.left bs) r.at r.left a k (omega arith) short apart

-- how many bytes were read for a text that was found
pub text_read : (t : Text) → t.len ≤ cells_of t
text_read t = go t.ended
  where
    go : (e : Bool) → t.len ≤ (if e then t.len + 1 else t.len)
    go true = omega arith
    go false = omega arith

pub read_is : (m : List ℕ) (a : ℕ) (t : Text) → length (bytes_at m a t.len) ≡ t.len → cells_read (found 0 m a t) ≡ cells_of t
read_is m a t e = go t.ended
  where
    go : (b : Bool) → cells_read (record { before = bytes_at m a t.len; stop = if b then Some 0 else None }) ≡ (if b then t.len + 1 else t.len)
    go true = ap (λ z. z + 1) e
    go false = e

-- so a conversion of an argument is the same
module _ (m bs : List ℕ) (d n v : ℕ) (fits : d + length bs ≤ length m) (le : length bs ≤ n) where
  abbrev now : List ℕ
  now = put d bs m

  string_same : (p : Option ℕ) (q : ℕ → ℕ) → IsOk (and_then (counted m (specifiers.Text p) v) (λ k. Ok (q k))) → meets d n v (conversion_reads m (specifiers.Text p) v) ≡ false → string_scan now v p ≡ string_scan m v p
  string_same p q ok apart = go (string_scan m v p) refl ok apart
    where
      go : (r : Result Found HostStop) → string_scan m v p ≡ r → IsOk (and_then (and_then r (λ s. Ok (length s.before))) (λ k. Ok (q k))) → meets d n v (cells_read (found_part r)) ≡ false → string_scan now v p ≡ string_scan m v p
      go (Ok f) e h far = scan_apart 0 m v _ d n bs f fits le e far ∙ sym e
      go (Err z) e h far = absurd (cc)

  pub record SameConversion (o : Options) (s : Specifier) : Type 0 where
    pub count : counted now s v ≡ counted m s v
    pub text : converted_text now o s v ≡ converted_text m o s v
    pub read : conversion_reads now s v ≡ conversion_reads m s v

  pub same_conversion : (o : Options) (s : Specifier) (q : ℕ → ℕ) → IsOk (and_then (counted m s v) (λ k. Ok (q k))) → meets d n v (conversion_reads m s v) ≡ false → SameConversion o s
  same_conversion o (specifiers.Integer numeral of) q ok apart = record { count = refl; text = refl; read = refl }
  same_conversion o specifiers.Character q ok apart = record { count = refl; text = refl; read = refl }
  same_conversion o (specifiers.Text p) q ok apart =
      let e = string_same p q ok apart in record {
        count = ap (λ r. and_then r (λ s. Ok (length s.before))) e;
        text = ap (λ r. string_text o (found_part r).before) e;
        read = ap (λ r. cells_read (found_part r)) e;
      }
