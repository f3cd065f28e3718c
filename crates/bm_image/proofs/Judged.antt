-- The parts are looked at in order.
use Rattle.std.proofs.Common.{◌≡◌, ℕ, zero, suc, ◌+◌, ◌*◌, ◌-◌, ◌<◌, ◌≤◌, List, [], ◌∷◌, ◌++◌, length, Bool, false, Option, Some, None, Result, Ok, Err, IsTrue, sym, ◌∙◌, ap, subst, arith}
use Rattle.bm_image.specs.declared.images.FnRec.{FnRec}
use Rattle.bm_image.specs.declared.faults.ImageKind.TheVariants as kinds
use Rattle.bm_image.specs.declared.faults.ImageFault.{ImageFault}
use Rattle.bm_image.specs.declared.faults.ReadFault.{ReadFault}
use Rattle.bm_image.specs.declared.faults.ReadFault.TheVariants.{Refused, NoMemory}
use Rattle.bm_image.specs.Parts.{Part, Record, Instruction, Data, End, image_end, offset_of, count_of, Accepts, Refuses, short, wrong, Judges, all, refused, next, records, instructions, record_at, records_at, record_before, record_offset}

-- the bytes end within a part
pub short_is : (bytes : List ℕ) (part : Part) (fault : ImageFault)
    → (length bytes < offset_of bytes part + count_of bytes part) × (fault ≡ record { kind = kinds.Short; offset = length bytes })
    → Refuses bytes part fault
short_is bytes part fault h = subst (Refuses bytes part) (sym h.1) (short h.0)

-- the fault that is handed on is the one that was found
abbrev pub the_fault : {T : Type 0} → Result T ReadFault → ImageFault
the_fault (Err (Refused fault)) = fault
the_fault _ = record { kind = kinds.Short; offset = 0 }

pub handed_on : {T : Type 0} (r : Result T ReadFault) (y : ReadFault) (found fault : ImageFault) → r ≡ Err y → y ≡ Refused found
    → r ≡ Err (Refused fault) → found ≡ fault
handed_on r y found fault a b c = sym (ap the_fault (a ∙ ap Err b)) ∙ ap the_fault c

abbrev the_error : {T : Type 0} → Result T ReadFault → ReadFault
the_error (Err e) = e
the_error (Ok x) = NoMemory

pub same_error : {T : Type 0} (r : Result T ReadFault) (y found : ReadFault) (fault : ImageFault) → r ≡ Err y → y ≡ found
    → r ≡ Err (Refused fault) → found ≡ Refused fault
same_error r y found fault a b c = sym (ap the_error (a ∙ ap Err b)) ∙ ap the_error c

-- a test that failed
pub untrue : (t u : Bool) → t ≡ false → t ≡ u → IsTrue u → ⊥
untrue t u f e is = absurd (cc (f, e, is))

-- what is refused first is so before other parts, and what is found behind accepted parts is found
pub judged_first : {bytes : List ℕ} {xs : List Part} {fault : ImageFault} (ys : List Part) → Judges bytes xs (Some fault)
    → Judges bytes (xs ++ ys) (Some fault)
judged_first ys (refused r) = refused r
judged_first ys (next a j) = next a (judged_first ys j)

pub judged_over : {bytes : List ℕ} {xs ys : List Part} {found : Option ImageFault} → Judges bytes xs None → Judges bytes ys found
    → Judges bytes (xs ++ ys) found
judged_over all j = j
judged_over (next a i) j = next a (judged_over i j)

-- what is found from here on is found in all
abbrev pub Carries : List ℕ → List Part → List Part → Type 0
Carries bytes rest whole = (found : Option ImageFault) → Judges bytes rest found → Judges bytes whole found

-- one record more
records_more : (k n : ℕ) → k < n → records k (n - k) ≡ Record k ∷ records (suc k) (n - suc k)
records_more k n below = let e : n - k ≡ suc (n - suc k) = omega arith in ap (records k) e

pub record_refused : (bytes : List ℕ) (k n : ℕ) (fault : ImageFault) → k < n → Carries bytes (records k (n - k)) (records 0 n)
    → Refuses bytes (Record k) fault
    → Judges bytes (records 0 n) (Some fault)
record_refused bytes k n fault below carries r = carries (Some fault) (rw (records_more k n below) (refused r))

pub record_accepted : (bytes : List ℕ) (k n : ℕ) → k < n → Carries bytes (records k (n - k)) (records 0 n) → Accepts bytes (Record k)
    → Carries bytes (records (k + 1) (n - (k + 1))) (records 0 n)
record_accepted bytes k n below carries a =
    let one : suc k ≡ k + 1 = omega arith in
    subst (λ t. Carries bytes (records t (n - t)) (records 0 n)) one (λ found j. carries found (rw (records_more k n below) (next a j)))

pub records_done : (bytes : List ℕ) (k n : ℕ) → n ≤ k → Carries bytes (records k (n - k)) (records 0 n) → Judges bytes (records 0 n) None
records_done bytes k n over carries = let e : n - k ≡ 0 = omega arith in carries None (rw e all)

-- the records read so far, with one more
records_push : (bytes : List ℕ) (at k : ℕ) → records_at bytes at k ++ record_at bytes (at + 20 * k) ∷ [] ≡ records_at bytes at (suc k)
records_push bytes at zero = let e : at + 20 * 0 ≡ at = omega arith in ap (λ t. record_at bytes t ∷ []) e
records_push bytes at (suc k) =
    let e : at + 20 * suc k ≡ at + 20 + 20 * k = omega arith in
    ap (λ fs. record_at bytes at ∷ fs) (ap (λ t. records_at bytes (at + 20) k ++ record_at bytes t ∷ []) e ∙ records_push bytes (at + 20) k)

pub records_step : (bytes : List ℕ) (k : ℕ) (f : FnRec) (before after : List FnRec) → before ≡ records_at bytes 32 k
    → f ≡ record_at bytes (record_offset k)
    → after ≡ before ++ f ∷ [] → after ≡ records_at bytes 32 (k + 1)
records_step bytes k f before after a b c =
    let one : suc k ≡ k + 1 = omega arith in
    c ∙ ap (λ fs. fs ++ f ∷ []) a ∙ ap (λ f. records_at bytes 32 k ++ f ∷ []) b ∙ records_push bytes 32 k ∙ ap (records_at bytes 32) one

pub before_step : (bytes : List ℕ) (k : ℕ) (f : FnRec) → f ≡ record_at bytes (record_offset k) → Some f ≡ record_before bytes (k + 1)
before_step bytes k f a = let one : suc k ≡ k + 1 = omega arith in ap Some a ∙ ap (record_before bytes) one

-- one instruction more
instructions_more : (i n : ℕ) → i < n → instructions i (n - i) ≡ Instruction i ∷ instructions (suc i) (n - suc i)
instructions_more i n below = let e : n - i ≡ suc (n - suc i) = omega arith in ap (instructions i) e

pub instruction_refused : (bytes : List ℕ) (i n : ℕ) (fault : ImageFault) → i < n
    → Carries bytes (instructions i (n - i)) (instructions 0 n)
    → Refuses bytes (Instruction i) fault → Judges bytes (instructions 0 n) (Some fault)
instruction_refused bytes i n fault below carries r = carries (Some fault) (rw (instructions_more i n below) (refused r))

pub instruction_accepted : (bytes : List ℕ) (i n : ℕ) → i < n → Carries bytes (instructions i (n - i)) (instructions 0 n)
    → Accepts bytes (Instruction i)
    → Carries bytes (instructions (i + 1) (n - (i + 1))) (instructions 0 n)
instruction_accepted bytes i n below carries a =
    let one : suc i ≡ i + 1 = omega arith in
    subst (λ t. Carries bytes (instructions t (n - t)) (instructions 0 n)) one (λ found j. carries found (rw
    (instructions_more i n below) (next a j)))

pub instructions_done : (bytes : List ℕ) (i n : ℕ) → n ≤ i → Carries bytes (instructions i (n - i)) (instructions 0 n)
    → Judges bytes (instructions 0 n) None
instructions_done bytes i n over carries = let e : n - i ≡ 0 = omega arith in carries None (rw e all)

-- the data, and the end
pub data_short : (bytes : List ℕ) (found fault : ImageFault)
    → (length bytes < offset_of bytes Data + count_of bytes Data) × (found ≡ record { kind = kinds.Short; offset = length bytes })
    → found ≡ fault
    → Judges bytes (Data ∷ End ∷ []) (Some fault)
data_short bytes found fault h same = refused (subst (Refuses bytes Data) same (short_is bytes Data found h))

pub data_extra : (bytes : List ℕ) (fault : ImageFault) → image_end bytes < length bytes
    → record { kind = kinds.Extra; offset = image_end bytes } ≡ fault
    → Judges bytes (Data ∷ End ∷ []) (Some fault)
data_extra bytes fault over same =
    let whole : image_end bytes + 0 ≤ length bytes = omega (arith, over) in
    let inside : image_end bytes ≤ length bytes = omega (arith, over) in
    next (record { whole = inside; right = tt })
    (refused (subst (Refuses bytes End) same (wrong whole (λ (e : length bytes ≡ image_end bytes). absurd (omega (arith, e, over))))))

pub data_accepted : (bytes : List ℕ) → length bytes ≡ image_end bytes → Judges bytes (Data ∷ End ∷ []) None
data_accepted bytes e =
    let whole : image_end bytes + 0 ≤ length bytes = omega (arith, e) in
    let inside : image_end bytes ≤ length bytes = omega (arith, e) in
    next (record { whole = inside; right = tt }) (next (record { whole = whole; right = e }) all)
