-- What the shapes of rows come to over bytes.
use Rattle.std.proofs.Common.{◌≡◌, ℕ, ◌+◌, ◌-◌, ◌≤◌, Bool, true, false, ltb, List, [], ◌∷◌, ◌++◌, length, replicate, Option, Some, Result, Ok, Err, refl, sym, ap, ◌∙◌, arith, length-append}
use Rattle.std.specs.Prelude.{if◌then◌else◌}
use Rattle.std.proofs.Math.Nat.{add-zero}
use Rattle.std.proofs.lemmas.List.{length-replicate}
use Rattle.run_meaning.specs.Worlds.{World}
use Rattle.library_meaning.specs.Scan.{Found, and_then}
use Rattle.library_meaning.specs.Memory.{put, are_valid, memory_size, bytes_at}
use Rattle.library_meaning.specs.Rows.{Row, Text, Check, Point, Gives, Behind, Given, Answer, answer, run, Stretch, stretch}
use Rattle.library_meaning.specs.Table.{putting, appended, within, ended, strcpy_giving, strncpy, nul, cells_read, pointers, both_for}
use Rattle.library_meaning.specs.OnBytes.{on_bytes, address, valid_then, quiet, Does}
use Rattle.host_bytes.proofs.Endings.{does_giving}
use Rattle.host_bytes.proofs.Shapes.{length-bytes_at}
use Rattle.library_meaning.specs.declared.stops.HostStop.{HostStop}
use Rattle.library_meaning.specs.declared.stops.HostStop.TheVariants as host
use Rattle.host_bytes.specs.Texts.{byte_scan, found, LiesIn}
use Rattle.host_bytes.specs.declared.finding.Text.{Text as Known}

-- bytes that are made are stored, where they may be
pub put_is : (args : List ℕ) (k : ℕ) (bs : List ℕ) (from : List Stretch) (next : Row) (m : List ℕ) (w : World) → run (on_bytes args) (putting false k bs from next) m w ≡ (if are_valid (address args 0 k) (length bs) then run (on_bytes args) next (put (address args 0 k) bs m) w else Err host.BadAddress)
put_is args k bs from next m w = go (are_valid (address args 0 k) (length bs))
  where
    go : (t : Bool) → and_then (valid_then t (put (address args 0 k) bs m)) (λ l. run (on_bytes args) next l w) ≡ (if t then run (on_bytes args) next (put (address args 0 k) bs m) w else Err host.BadAddress)
    go true = refl
    go false = refl

-- a row that goes on from a scan for the NUL
pub text_is : (args : List ℕ) (i limit a : ℕ) (next : Found → Row) (m : List ℕ) (w : World) (r : Result Found HostStop) → address args i 0 ≡ a → byte_scan 0 m a limit ≡ r → run (on_bytes args) (Text nul (stretch i 0 limit) next) m w ≡ and_then r (λ f. run (on_bytes args) (next f) m w)
text_is args i limit a next m w r e h = rw (e, h) refl

-- bytes that are made are stored at an operand's place, so many of them
pub put_at_is : (args : List ℕ) (k a n : ℕ) (bs : List ℕ) (from : List Stretch) (g : Given) (m : List ℕ) → address args 0 k ≡ a → length bs ≡ n → run (on_bytes args) (putting false k bs from (Gives g)) m quiet ≡ (if are_valid a n then Ok (answer (put a bs m) quiet g) else Err host.BadAddress)
put_at_is args k a n bs from g m e l = put_is args k bs from (Gives g) m quiet ∙ ap (λ z. if are_valid z (length bs) then Ok (answer (put z bs m) quiet g) else Err host.BadAddress) e ∙ ap (λ z. if are_valid a z then Ok (answer (put a bs m) quiet g) else Err host.BadAddress) l

-- what a scan has found that met its NUL
pub found_ended : (byte : ℕ) (m : List ℕ) (a : ℕ) (t : Known) → t.ended ≡ true → found byte m a t ≡ record { before = bytes_at m a t.len; stop = Some byte }
found_ended byte m a t e = rw e refl

-- the text that was found is copied with its NUL, where the bytes at d may be touched
pub copied_is : (given : ℕ → Given) (m : List ℕ) (d s size : ℕ) (t : Known) (valid : Bool) → byte_scan 0 m s size ≡ Ok (found 0 m s t) → LiesIn 0 m s size t → t.ended ≡ true → are_valid d (t.len + 1) ≡ valid → run (on_bytes (d ∷ s ∷ [])) (strcpy_giving given size) m quiet ≡ (if valid then Ok (answer (put d (bytes_at m s (t.len + 1)) m) quiet (given t.len)) else Err host.BadAddress)
copied_is given m d s size t valid scan lies ends e =
    let args : List ℕ = d ∷ s ∷ [] in
    let f : Found = record { before = bytes_at m s t.len; stop = Some 0 } in
    let text : List ℕ = bytes_at m s t.len ++ 0 ∷ [] in
    let whole : length text ≡ t.len + 1 = omega (arith, lies.long, length-append (bytes_at m s t.len) (0 ∷ [])) in
    text_is args 1 size s (λ t. ended t (Check false (Point pointers pointers (putting false 0 (t.before ++ 0 ∷ []) (stretch 1 0 (cells_read t) ∷ []) (Gives (given (length t.before))))))) m quiet (Ok f) (add-zero s) (scan ∙ ap Ok (found_ended 0 m s t ends))
    ∙ ap (λ z. run (on_bytes args) (putting false 0 text (stretch 1 0 (cells_read f) ∷ []) (Gives (given z))) m quiet) lies.long
    ∙ put_at_is args 0 d (t.len + 1) text (stretch 1 0 (cells_read f) ∷ []) (given t.len) m (add-zero d) whole
    ∙ ap (λ bs. if are_valid d (t.len + 1) then Ok (answer (put d bs m) quiet (given t.len)) else Err host.BadAddress) (sym (lies.whole ends).0)
    ∙ ap (λ v. if v then Ok (answer (put d (bytes_at m s (t.len + 1)) m) quiet (given t.len)) else Err host.BadAddress) e

pub strncpy_is : (m : List ℕ) (d s n size len : ℕ) (stop : Option ℕ) → length m ≡ memory_size → ltb size n ≡ false → byte_scan 0 m s n ≡ Ok (record { before = bytes_at m s len; stop = stop }) → len ≤ n → are_valid s len ≡ true → run (on_bytes (d ∷ s ∷ n ∷ [])) (strncpy size) m quiet ≡ (if are_valid d n then Ok (answer (put d (bytes_at m s len ++ replicate (n - len) 0) m) quiet (Behind 0 0)) else Err host.BadAddress)
strncpy_is m d s n size len stop big fits scan le there =
    let long : length (bytes_at m s len) ≡ len = length-bytes_at m s len big there in
    let whole : length (bytes_at m s len ++ replicate (n - len) 0) ≡ n = omega (arith, long, length-append (bytes_at m s len) (replicate (n - len) 0), length-replicate {A = ℕ} (n - len) 0) in
    let args : List ℕ = d ∷ s ∷ n ∷ [] in
    let f : Found = record { before = bytes_at m s len; stop = stop } in
    ap (λ t. if t then Err host.Overflow else run (on_bytes args) (Point pointers (both_for n) (Text nul (stretch 1 0 n) (λ s. putting false 0 (s.before ++ replicate (n - length s.before) 0) (stretch 1 0 (cells_read s) ∷ []) (Gives (Behind 0 0))))) m quiet) fits
    ∙ text_is args 1 n s (λ s. putting false 0 (s.before ++ replicate (n - length s.before) 0) (stretch 1 0 (cells_read s) ∷ []) (Gives (Behind 0 0))) m quiet (Ok f) (add-zero s) scan
    ∙ ap (λ z. run (on_bytes args) (putting false 0 (bytes_at m s len ++ replicate (n - z) 0) (stretch 1 0 (cells_read f) ∷ []) (Gives (Behind 0 0))) m quiet) long
    ∙ put_at_is args 0 d n (bytes_at m s len ++ replicate (n - len) 0) (stretch 1 0 (cells_read f) ∷ []) (Behind 0 0) m (add-zero d) whole

pub appended_is : (touched rest : List ℕ) (m : List ℕ) (d s size k most len : ℕ) (stop : Option ℕ) → length m ≡ memory_size → byte_scan 0 m s most ≡ Ok (record { before = bytes_at m s len; stop = stop }) → length (bytes_at m s len) ≡ len → run (on_bytes (d ∷ s ∷ rest)) (appended touched size k most) m quiet ≡ (if ltb size (k + len + 1) then Err host.Overflow else (if are_valid (d + k) (len + 1) then Ok (answer (put (d + k) (bytes_at m s len ++ 0 ∷ []) m) quiet (Behind 0 0)) else Err host.BadAddress))
appended_is touched rest m d s size k most len stop big scan long =
    let args : List ℕ = d ∷ s ∷ rest in
    let f : Found = record { before = bytes_at m s len; stop = stop } in
    let whole : length (bytes_at m s len ++ 0 ∷ []) ≡ len + 1 = omega (arith, long, length-append (bytes_at m s len) (0 ∷ [])) in
    text_is args 1 most s (λ s. within size (k + length s.before + 1) (Point pointers touched (putting false k (s.before ++ 0 ∷ []) (stretch 1 0 (cells_read s) ∷ []) (Gives (Behind 0 0))))) m quiet (Ok f) (add-zero s) scan
    ∙ ap (λ z. if ltb size (k + z + 1) then Err host.Overflow else run (on_bytes args) (putting false k (bytes_at m s len ++ 0 ∷ []) (stretch 1 0 (cells_read f) ∷ []) (Gives (Behind 0 0))) m quiet) long
    ∙ ap (λ z. if ltb size (k + len + 1) then Err host.Overflow else z) (put_at_is args k (d + k) (len + 1) (bytes_at m s len ++ 0 ∷ []) (stretch 1 0 (cells_read f) ∷ []) (Behind 0 0) m refl whole)

-- a call that ends well at its first operand
pub does_well : (args m old new : List ℕ) (r : Result (Answer (List ℕ)) HostStop) (d : ℕ) → r ≡ Ok (answer m quiet (Behind 0 0)) → d ≡ address args 0 0 → new ≡ m → Does args r old new (Ok d)
does_well args m old new r d e same is = does_giving args m old new r (Behind 0 0) d e same is

-- a scan of the destination that meets its NUL
pub ended_is : (args : List ℕ) (d size h : ℕ) (next : ℕ → Row) (m : List ℕ) → address args 0 0 ≡ d → byte_scan 0 m d size ≡ Ok (record { before = bytes_at m d h; stop = Some 0 }) → length (bytes_at m d h) ≡ h → run (on_bytes args) (Text nul (stretch 0 0 size) (λ t. ended t (next (length t.before)))) m quiet ≡ run (on_bytes args) (next h) m quiet
ended_is args d size h next m e scan long = text_is args 0 size d (λ t. ended t (next (length t.before))) m quiet (Ok (record { before = bytes_at m d h; stop = Some 0 })) e scan ∙ ap (λ z. run (on_bytes args) (next z) m quiet) long
