-- How the relation of results composes, and scans that follow scans.
use Rattle.std.proofs.Common.{◌≡◌, ℕ, suc, ◌-◌, ◌<◌, ◌≤◌, Bool, true, false, eqb, List, [], ◌∷◌, ◌++◌, length, get_or, Result, Ok, Err, refl, ap, arith}
use Rattle.std.specs.Prelude.{if◌then◌else◌}
use Rattle.fc_base.specs.declared.undefined.UndefKind.{UndefKind}
use Rattle.fc_base.specs.declared.undefined.UndefKind.TheVariants as kind
use Rattle.run_meaning.specs.Worlds.{AreBytes}
use Rattle.library_meaning.specs.OnBytes.{byte_look}
use Rattle.library_meaning.specs.Scan.{Found, Pair, scan, scan_both, at_limit, stopped_by, after_byte, and_then}
use Rattle.library_meaning.specs.declared.stops.HostStop.{HostStop}
use Rattle.library_meaning.specs.declared.stops.HostStop.TheVariants as host
use Rattle.object_meaning.specs.Cells.{byte_at, byte_then, bytes_in}
use Rattle.object_meaning.specs.OnObjects.{ObjectStop, Overflow, BadFormat, Undefined, unless_undefined}
use Rattle.object_meaning.specs.Touches.{Test, tested}
use Rattle.object_meaning.specs.declared.values.Cell.{Cell}
use Rattle.object_meaning.specs.declared.values.Cell.TheVariants.{Byte, Uninit, Part}
use Rattle.object_meaning.specs.declared.values.Ptr.{Ptr}
use Rattle.object_meaning.proofs.Tested.{AllPass}
use Rattle.objects_on_bytes.specs.Calls.{Leads}
use Rattle.objects_on_bytes.specs.Relation.{CellIs}

-- an act on bytes does what the act on objects does, where that is defined
abbrev pub Does : {X Y : Type 0} → (X → Y → Type 0) → Result X UndefKind → Result Y HostStop → Type 0
Does {X} {Y} P (Ok x) r = (y : Y) × (r ≡ Ok y) × P x y
Does P (Err k) r = Unit {0}

pub does_bind : {X X' Y Y' : Type 0} (P : X → Y → Type 0) (Q : X' → Y' → Type 0) (r : Result X UndefKind) (s : Result Y HostStop) (f : X → Result X' UndefKind) (g : Y → Result Y' HostStop) → Does P r s → ((x : X) (y : Y) → P x y → Does Q (f x) (g y)) → Does Q (and_then r f) (and_then s g)
does_bind P Q (Ok x) s f g h k = rw (h.1) (k x h.0 h.2)
does_bind P Q (Err e) s f g h k = tt

pub does_if : {X Y : Type 0} (P : X → Y → Type 0) (t : Bool) (r r' : Result X UndefKind) (s s' : Result Y HostStop) → Does P r s → Does P r' s' → Does P (if t then r else r') (if t then s else s')
does_if P true r r' s s' h k = h
does_if P false r r' s s' h k = k

-- an act, and the rest of a row behind it
pub leads_act : {X X' Y Y' : Type 0} (P : X → Y → Type 0) (Q : X' → Y' → Type 0) (r : Result X UndefKind) (s : Result Y HostStop) (f : X → Result X' ObjectStop) (g : Y → Result Y' HostStop) → Does P r s → ((x : X) (y : Y) → P x y → Leads Q (f x) (g y)) → Leads Q (and_then (unless_undefined r) f) (and_then s g)
leads_act P Q (Ok x) s f g h k = rw (h.1) (k x h.0 h.2)
leads_act P Q (Err e) s f g h k = tt

pub leads_if : {X Y : Type 0} (P : X → Y → Type 0) (t : Bool) (r r' : Result X ObjectStop) (s s' : Result Y HostStop) → Leads P r s → Leads P r' s' → Leads P (if t then r else r') (if t then s else s')
leads_if P true r r' s s' h k = h
leads_if P false r r' s s' h k = k

-- more is known of results
pub leads_more : {X Y : Type 0} (P Q : X → Y → Type 0) (r : Result X ObjectStop) (s : Result Y HostStop) → ((x : X) (y : Y) → P x y → Q x y) → Leads P r s → Leads Q r s
leads_more P Q (Ok x) s f h = (h.0, h.1, f x h.0 h.2)
leads_more P Q (Err Overflow) s f h = h
leads_more P Q (Err BadFormat) s f h = h
leads_more P Q (Err (Undefined z)) s f h = tt

pub does_tested : {X Y : Type 0} (P : X → Y → Type 0) (ts : List Test) (r : Result X UndefKind) (s : Result Y HostStop) → (AllPass ts → Does P r s) → Does P (tested ts r) s
does_tested P [] r s h = h tt
does_tested P (t ∷ ts) r s h = go t.fails refl (does_tested P ts r s)
  where
    go : (b : Bool) → t.fails ≡ b → ((AllPass ts → Does P r s) → Does P (tested ts r) s) → Does P (if b then Err t.kind else tested ts r) s
    go true e more = tt
    go false e more = more (λ a. h (e, a))

-- the bytes of the machine, in front of others, are what the cells say
abbrev pub Match : (ℕ → ℕ) → (ℕ → Bool) → List Cell → List ℕ → Type 0
Match at alive [] bs = Unit {0}
Match at alive (c ∷ cs) [] = ⊥
Match at alive (c ∷ cs) (b ∷ bs) = CellIs at alive c b × Match at alive cs bs

pub match_from : (at : ℕ → ℕ) (alive : ℕ → Bool) (cs : List Cell) (bs : List ℕ) → length cs ≤ length bs → ((i : ℕ) → i < length cs → CellIs at alive (get_or cs i Uninit) (get_or bs i 0)) → Match at alive cs bs
match_from at alive [] bs l h = tt
match_from at alive (c ∷ cs) [] l h = absurd (omega arith)
match_from at alive (c ∷ cs) (b ∷ bs) l h = (h 0 (omega arith), match_from at alive cs bs (omega arith) (λ i lt. h (suc i) (omega arith)))

abbrev pub CellSmall : Cell → Type 0
CellSmall (Byte v) = v < 256
CellSmall Uninit = Unit {0}
CellSmall (Part p k) = Unit {0}

abbrev pub Small : List Cell → Type 0
Small [] = Unit {0}
Small (c ∷ cs) = CellSmall c × Small cs

pub small_from : (cs : List Cell) → ((i : ℕ) → i < length cs → CellSmall (get_or cs i Uninit)) → Small cs
small_from [] h = tt
small_from (c ∷ cs) h = (h 0 (omega arith), small_from cs (λ i lt. h (suc i) (omega arith)))

abbrev pub FoundIs : Found → Found → Type 0
FoundIs f g = (g ≡ f) × AreBytes f.before

-- nothing is read where the limit is 0
pub nothing_read : {X E : Type 0} (look : X → Result ℕ E) (out : E) (stops : ℕ → Bool) (n : ℕ) (xs : List X) → eqb n 0 ≡ true → scan look out stops n xs ≡ Ok at_limit
nothing_read look out stops n [] e = rw e refl
nothing_read look out stops n (x ∷ xs) e = rw e refl

pub scan_follows : (at : ℕ → ℕ) (alive : ℕ → Bool) (stops : ℕ → Bool) (limit : ℕ) (cs : List Cell) (bs : List ℕ) → Match at alive cs bs → Small cs → Does FoundIs (scan byte_at kind.OutOfObject stops limit cs) (scan byte_look host.BadAddress stops limit bs)
scan_follows at alive stops limit [] [] m s = does_if FoundIs (eqb limit 0) (Ok at_limit) _ (Ok at_limit) _ (at_limit, refl, (refl, tt)) tt
scan_follows at alive stops limit [] (b ∷ bs) m s = does_if FoundIs (eqb limit 0) (Ok at_limit) (Err kind.OutOfObject) (Ok at_limit) _ (at_limit, refl, (refl, tt)) tt
scan_follows at alive stops limit (c ∷ cs) [] m s = absurd m
scan_follows at alive stops limit (Uninit ∷ cs) (b ∷ bs) m s = does_if FoundIs (eqb limit 0) (Ok at_limit) (Err kind.Uninitialised) (Ok at_limit) _ (at_limit, refl, (refl, tt)) tt
scan_follows at alive stops limit (Part p k ∷ cs) (b ∷ bs) m s = does_if FoundIs (eqb limit 0) (Ok at_limit) (Err kind.PointerBytes) (Ok at_limit) _ (at_limit, refl, (refl, tt)) tt
scan_follows at alive stops limit (Byte v ∷ cs) (b ∷ bs) m s =
    rw (m.0) (does_if FoundIs (eqb limit 0) (Ok at_limit) _ (Ok at_limit) _ (at_limit, refl, (refl, tt))
    (does_if FoundIs (stops v) (Ok (stopped_by v)) _ (Ok (stopped_by v)) _ (stopped_by v, refl, (refl, tt))
    (does_bind FoundIs FoundIs (scan byte_at kind.OutOfObject stops (limit - 1) cs) (scan byte_look host.BadAddress stops (limit - 1) bs) (λ f. Ok (after_byte v f)) (λ f. Ok (after_byte v f))
    (scan_follows at alive stops (limit - 1) cs bs m.1 s.1) (λ f g p. (after_byte v g, refl, (ap (after_byte v) p.0, (s.0, p.1)))))))

abbrev pub PairIs : Pair → Pair → Type 0
PairIs p q = q ≡ p

pub both_follow : (at : ℕ → ℕ) (alive : ℕ → Bool) (cs ds : List Cell) (xs bs : List ℕ) → Match at alive cs xs → Match at alive ds bs → Does PairIs (scan_both byte_at kind.OutOfObject cs ds) (scan_both byte_look host.BadAddress xs bs)
both_follow at alive [] ds xs bs m n = tt
both_follow at alive (Byte v ∷ cs) [] xs bs m n = tt
both_follow at alive (Uninit ∷ cs) [] xs bs m n = tt
both_follow at alive (Part p k ∷ cs) [] xs bs m n = tt
both_follow at alive (c ∷ cs) (d ∷ ds) [] bs m n = absurd m
both_follow at alive (c ∷ cs) (d ∷ ds) (a ∷ xs) [] m n = absurd n
both_follow at alive (Uninit ∷ cs) (d ∷ ds) (a ∷ xs) (b ∷ bs) m n = tt
both_follow at alive (Part p k ∷ cs) (d ∷ ds) (a ∷ xs) (b ∷ bs) m n = tt
both_follow at alive (Byte v ∷ cs) (Uninit ∷ ds) (a ∷ xs) (b ∷ bs) m n = tt
both_follow at alive (Byte v ∷ cs) (Part p k ∷ ds) (a ∷ xs) (b ∷ bs) m n = tt
both_follow at alive (Byte v ∷ cs) (Byte u ∷ ds) (a ∷ xs) (b ∷ bs) m n =
    rw (m.0, n.0) (does_if PairIs (eqb v u) _ _ _ _
    (does_if PairIs (eqb v 0) (Ok (record { left = v; right = u })) _ (Ok (record { left = v; right = u })) _ (record { left = v; right = u }, refl, refl) (both_follow at alive cs ds xs bs m.1 n.1))
    (record { left = v; right = u }, refl, refl))

abbrev pub BytesAre : List ℕ → List ℕ → Type 0
BytesAre x y = (y ≡ x) × AreBytes x

-- no bytes in front of others
put_none : (R : Result (List ℕ) UndefKind) (r : Result (List ℕ) HostStop) → Does BytesAre R r → Does BytesAre R (and_then r (λ more. Ok ([] ++ more)))
put_none (Ok x) r h = (h.0, rw (h.1) refl, h.2)
put_none (Err k) r h = tt

-- one byte more in front
put_byte : (v : ℕ) (R : Result (List ℕ) UndefKind) (r : Result (List ℕ) HostStop) (bs : List ℕ) → v < 256 → Does BytesAre R (and_then r (λ more. Ok (bs ++ more))) → Does BytesAre (byte_then (Byte v) R) (and_then r (λ more. Ok ((v ∷ bs) ++ more)))
put_byte v (Ok x) (Ok more) bs l h = (v ∷ (bs ++ more), refl, (ap (λ z. v ∷ z) (cc), (l, h.2.1)))
put_byte v (Ok x) (Err e) bs l h = absurd (cc)
put_byte v (Err k) r bs l h = tt

part_then : (p : Ptr) (k b : ℕ) (R : Result (List ℕ) UndefKind) (r : Result (List ℕ) HostStop) (bs : List ℕ) → Does BytesAre (byte_then (Part p k) R) (and_then r (λ more. Ok ((b ∷ bs) ++ more)))
part_then p k b (Ok x) r bs = tt
part_then p k b (Err z) r bs = tt

-- cells that one operation looks at
pub bytes_in_follows : (at : ℕ → ℕ) (alive : ℕ → Bool) (cs : List Cell) (bs : List ℕ) (rest : List Cell) (r : Result (List ℕ) HostStop) → Match at alive cs bs → length cs ≡ length bs → Small cs → Does BytesAre (bytes_in rest) r → Does BytesAre (bytes_in (cs ++ rest)) (and_then r (λ more. Ok (bs ++ more)))
bytes_in_follows at alive [] [] rest r m n s h = put_none (bytes_in rest) r h
bytes_in_follows at alive [] (b ∷ bs) rest r m n s h = absurd (omega arith)
bytes_in_follows at alive (c ∷ cs) [] rest r m n s h = absurd m
bytes_in_follows at alive (Uninit ∷ cs) (b ∷ bs) rest r m n s h = tt
bytes_in_follows at alive (Part p k ∷ cs) (b ∷ bs) rest r m n s h = part_then p k b (bytes_in (cs ++ rest)) r bs
bytes_in_follows at alive (Byte v ∷ cs) (b ∷ bs) rest r m n s h = rw (m.0) (put_byte v (bytes_in (cs ++ rest)) r bs s.0 (bytes_in_follows at alive cs bs rest r m.1 (omega arith) s.1 h))
