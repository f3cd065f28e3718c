-- No act on either memory ends with the overflow: only a check does.
use Rattle.std.proofs.Common.{◌≡◌, ◌≢◌, ℕ, ◌-◌, Bool, true, false, not, ◌&&◌, eqb, List, [], ◌∷◌, ◌++◌, length, Result, Ok, Err}
use Rattle.std.specs.Prelude.{if◌then◌else◌}
use Rattle.fc_base.specs.declared.undefined.UndefKind.{UndefKind}
use Rattle.library_meaning.specs.OnBytes.{address, byte_look, bytes_from, flat_bytes, flat_store, is_valid, on_bytes, valid_then}
use Rattle.library_meaning.specs.Memory.{are_valid, bytes_at, put}
use Rattle.library_meaning.specs.Rows.{Stretch, Stored, These, Cells}
use Rattle.library_meaning.specs.Scan.{Found, Pair, and_then, at_limit, stopped_by, after_byte, scan, scan_both}
use Rattle.library_meaning.specs.declared.stops.HostStop.{HostStop}
use Rattle.library_meaning.specs.declared.stops.HostStop.TheVariants as host
use Rattle.object_meaning.specs.OnObjects as on
use Rattle.object_meaning.specs.OnObjects.{ObjectStop, on_objects, unless_undefined}
use Rattle.object_meaning.specs.declared.values.Value.{Value}
use Rattle.objects_on_bytes.proofs.RowLaws.{NoActOverflows}

-- ---- over objects

undefined_only : {X : Type 0} (r : Result X UndefKind) → unless_undefined r ≢ Err on.Overflow
undefined_only (Ok x) = λ q. absurd (cc)
undefined_only (Err k) = λ q. absurd (cc)

pub on_objects_acts : (args : List Value) → NoActOverflows (on_objects args)
on_objects_acts args = record {
  number = λ i. undefined_only _;
  text = λ objs stops from. undefined_only _;
  bytes = λ objs from. undefined_only _;
  both = λ objs a b. undefined_only _;
  point = λ objs pointers touched. undefined_only _;
  touch = λ objs all. undefined_only _;
  apart = λ objs strict to from. undefined_only _;
  store = λ objs i k what. undefined_only _;
  format = λ q. absurd (cc);
}

-- ---- over bytes

abbrev Fits : {X : Type 0} → Result X HostStop → Type 0
Fits r = r ≢ Err host.Overflow

valid_fits : {X : Type 0} (t : Bool) (x : X) → Fits (valid_then t x)
valid_fits true x = λ q. absurd (cc)
valid_fits false x = λ q. absurd (cc)

if_fits : {X : Type 0} (t : Bool) (r s : Result X HostStop) → Fits r → Fits s → Fits (if t then r else s)
if_fits true r s h k = h
if_fits false r s h k = k

then_fits : {X Y : Type 0} (r : Result X HostStop) (f : X → Result Y HostStop) → Fits r → ((x : X) → Fits (f x)) → Fits (and_then r f)
then_fits (Ok x) f h k = k x
then_fits (Err e) f h k = λ q. h (cc)

ok_fits : {X : Type 0} (x : X) → Fits (Ok x)
ok_fits x = λ q. absurd (cc)

outside_fits : {X : Type 0} → Fits {X = X} (Err host.BadAddress)
outside_fits = λ q. absurd (cc)

scan_fits : (stops : ℕ → Bool) (limit : ℕ) (bs : List ℕ) → Fits (scan byte_look host.BadAddress stops limit bs)
scan_fits stops limit [] = if_fits (eqb limit 0) (Ok at_limit) _ (ok_fits at_limit) outside_fits
scan_fits stops limit (b ∷ bs) =
    if_fits (eqb limit 0) (Ok at_limit) _ (ok_fits at_limit)
    (if_fits (stops b) (Ok (stopped_by b)) _ (ok_fits (stopped_by b))
    (then_fits (scan byte_look host.BadAddress stops (limit - 1) bs) (λ f. Ok (after_byte b f)) (scan_fits stops (limit - 1) bs) (λ f. ok_fits (after_byte b f))))

both_fits : (xs ys : List ℕ) → Fits (scan_both byte_look host.BadAddress xs ys)
both_fits [] ys = outside_fits
both_fits (x ∷ xs) [] = outside_fits
both_fits (x ∷ xs) (y ∷ ys) =
    if_fits (eqb x y) _ _ (if_fits (eqb x 0) _ _ (ok_fits (record { left = x; right = y })) (both_fits xs ys)) (ok_fits (record { left = x; right = y }))

bytes_fit : (args m : List ℕ) (from : List Stretch) → Fits (flat_bytes args m from)
bytes_fit args m [] = ok_fits []
bytes_fit args m (s ∷ ss) =
    then_fits (valid_then (is_valid args s) (bytes_at m (address args s.operand s.offset) s.count)) _ (valid_fits (is_valid args s) _)
    (λ bs. then_fits (flat_bytes args m ss) (λ more. Ok (bs ++ more)) (bytes_fit args m ss) (λ more. ok_fits (bs ++ more)))

store_fits : (args m : List ℕ) (i k : ℕ) (what : Stored) → Fits (flat_store args m i k what)
store_fits args m i k (These bs) = valid_fits _ _
store_fits args m i k (Cells s) = valid_fits _ _

pub on_bytes_acts : (args : List ℕ) → NoActOverflows (on_bytes args)
on_bytes_acts args = record {
  number = λ i. ok_fits _;
  text = λ m stops from. scan_fits stops from.count (bytes_from m (address args from.operand from.offset));
  bytes = bytes_fit args;
  both = λ m a b. both_fits (bytes_from m (address args a 0)) (bytes_from m (address args b 0));
  point = λ m pointers touched. ok_fits m;
  touch = λ m all. valid_fits _ m;
  apart = λ m strict to from. valid_fits _ m;
  store = store_fits args;
  format = λ q. absurd (cc);
}
