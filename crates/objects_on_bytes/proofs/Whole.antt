-- Each row on bytes follows the row on objects, and what both give is the same value.
use Rattle.std.proofs.Common.{◌≡◌, ℕ, zero, suc, ◌+◌, Bool, true, false, not, ◌&&◌, eqb, List, [], ◌∷◌, get_or, take, drop, Ok, Err, refl, sym, ◌∙◌, subst, arith}
use Rattle.std.specs.Prelude.{if◌then◌else◌}
use Rattle.std.proofs.lemmas.Bool.{eqb-true}
use Rattle.std.proofs.lemmas.Int.{ints}
use Rattle.run_meaning.specs.Worlds.{AreBytes, World}
use Rattle.library_meaning.specs.OnBytes.{all_valid, meets_any, valid_then, flat_store, on_bytes, number_of}
use Rattle.library_meaning.specs.Rows.{Row, Gives, Malformed, Check, Ask, Text, Bytes, Both, Point, Touch, Apart, Store, Show, Take, Given, Count, Behind, Forgot, Nowhere, answer, run, request, showing, taking}
use Rattle.library_meaning.specs.declared.stops.HostStop.TheVariants as host
use Rattle.object_meaning.specs.Memory.{SameObjects}
use Rattle.object_meaning.specs.Objects.{Object, is_live}
use Rattle.object_meaning.specs.OnObjects.{Overflow, operand, as_number, touched_tests, text_from, bytes_from, both_from, point_tests, apart_tests, store_at, on_objects, behind, forgotten, value_of}
use Rattle.object_meaning.specs.Touches.{tested}
use Rattle.object_meaning.specs.declared.values.PtrValue.TheVariants.{Null, At}
use Rattle.object_meaning.specs.declared.values.Value.{Value}
use Rattle.object_meaning.specs.declared.values.Value.TheVariants as value
use Rattle.objects_on_bytes.specs.Calls.{ValuesAre, EndedAlike, Leads}
use Rattle.objects_on_bytes.specs.Relation.{ValueIs, Memories}
use Rattle.objects_on_bytes.specs.Rows.{IsBytewise}
use Rattle.objects_on_bytes.proofs.Acts.{Does, leads_act, leads_if, leads_more, FoundIs, PairIs, BytesAre}
use Rattle.objects_on_bytes.proofs.Bytewise.{bytes_take}
use Rattle.objects_on_bytes.proofs.Follow.{text_follows, bytes_follow, both_follows, point_follows, touch_follows, apart_follows, store_follows, KeptIs}

abbrev NumberIs : ℕ → ℕ → Type 0
NumberIs x y = y ≡ x

number_follows : (at : ℕ → ℕ) (alive : ℕ → Bool) (v : Value) (r : ℕ) → ValueIs at alive v r → Does NumberIs (as_number v) (Ok r)
number_follows at alive (value.Int n) r h = (r, refl, h)
number_follows at alive (value.Pointer v) r h = tt
number_follows at alive value.Uninit r h = tt
number_follows at alive value.Nothing r h = tt

-- a value stays where the same objects are live
value_kept : (at : ℕ → ℕ) (alive alive' : ℕ → Bool) (v : Value) (r : ℕ) → ((p : ℕ) → alive' p ≡ alive p) → ValueIs at alive v r → ValueIs at alive' v r
value_kept at alive alive' (value.Int n) r e h = h
value_kept at alive alive' (value.Pointer (Null c)) r e h = h
value_kept at alive alive' (value.Pointer (At p)) r e h = λ l. h (sym (e p.object) ∙ l)
value_kept at alive alive' value.Uninit r e h = tt
value_kept at alive alive' value.Nothing r e h = tt

bytes_drop : (n : ℕ) (bs : List ℕ) → AreBytes bs → AreBytes (drop n bs)
bytes_drop zero bs h = h
bytes_drop (suc n) [] h = tt
bytes_drop (suc n) (b ∷ bs) h = bytes_drop n bs h.1

then_same : (old mid new : List Object) → SameObjects old mid → SameObjects mid new → SameObjects old new
then_same old mid new h k = record { live = λ o. k.live o ∙ h.live o; sizes = λ o. k.sizes o ∙ h.sizes o; count = k.count ∙ h.count }

-- a place behind an operand, and the same of which nothing is known
behind_follows : (at : ℕ → ℕ) (alive : ℕ → Bool) (x : Value) (r k : ℕ) → ValueIs at alive x r → ValueIs at alive (behind x k) (r + k)
behind_follows at alive (value.Int n) r k h = tt
behind_follows at alive value.Uninit r k h = tt
behind_follows at alive value.Nothing r k h = tt
behind_follows at alive (value.Pointer (Null c)) r k h = null_behind (eqb k 0) refl
  where
    null_behind : (t : Bool) → eqb k 0 ≡ t → ValueIs at alive (if t then value.Pointer (Null c) else value.Uninit) (r + k)
    null_behind true e = let z = eqb-true k 0 e in omega (arith, z, h)
    null_behind false e = tt
behind_follows at alive (value.Pointer (At p)) r k h = λ l. let e = h l in omega (arith, ints, e)

forgotten_follows : (at : ℕ → ℕ) (alive : ℕ → Bool) (x : Value) (r : ℕ) → ValueIs at alive x r → ValueIs at alive (forgotten x) r
forgotten_follows at alive (value.Int n) r h = h
forgotten_follows at alive value.Uninit r h = tt
forgotten_follows at alive value.Nothing r h = tt
forgotten_follows at alive (value.Pointer (Null c)) r h = h
forgotten_follows at alive (value.Pointer (At p)) r h = h

given_follows : (at : ℕ → ℕ) (alive : ℕ → Bool) (args : List Value) (numbers : List ℕ) (g : Given) → ValuesAre at alive args numbers → ValueIs at alive (value_of args g) (number_of numbers g)
given_follows at alive args numbers (Count n) v = refl
given_follows at alive args numbers (Behind i k) v = behind_follows at alive (operand args i) (get_or numbers i 0) k (v i)
given_follows at alive args numbers (Forgot i k) v = forgotten_follows at alive (behind (operand args i) k) (get_or numbers i 0 + k) (behind_follows at alive (operand args i) (get_or numbers i 0) k (v i))
given_follows at alive args numbers Nowhere v = refl

abbrev IsSame : Bool → Bool → Type 0
IsSame x y = y ≡ x

module _ (at : ℕ → ℕ) (args : List Value) (numbers : List ℕ) where
  abbrev Stay : List Object → List ℕ → List Object → List ℕ → Type 0
  Stay objs m new bytes = (new ≡ objs) × (bytes ≡ m)

  pub row_follows : (row : Row) (objs : List Object) (m : List ℕ) (w : World) → Memories at objs m → ValuesAre at (is_live objs) args numbers → AreBytes w.input.bytes → IsBytewise row → Leads (EndedAlike at args numbers objs) (run (on_objects args) row objs w) (run (on_bytes numbers) row m w)
  row_follows (Gives g) objs m w k v i b = (answer m w g, refl, record { memories = k; same = record { live = λ q. refl; sizes = λ q. refl; count = refl }; world = refl; result = given_follows at (is_live objs) args numbers g v })
  row_follows Malformed objs m w k v i b = refl
  row_follows (Check exceeds next) objs m w k v i b = leads_if (EndedAlike at args numbers objs) exceeds (Err Overflow) _ (Err host.Overflow) _ refl (row_follows next objs m w k v i b)
  row_follows (Ask j next) objs m w k v i b =
      leads_act NumberIs (EndedAlike at args numbers objs) (as_number (operand args j)) (Ok (get_or numbers j 0)) _ _ (number_follows at (is_live objs) (operand args j) (get_or numbers j 0) (v j))
      (λ x y e. subst (λ z. Leads (EndedAlike at args numbers objs) (run (on_objects args) (next x) objs w) (run (on_bytes numbers) (next z) m w)) (sym e) (row_follows (next x) objs m w k v i (b x)))
  row_follows (Text stops from next) objs m w k v i b =
      leads_act FoundIs (EndedAlike at args numbers objs) (text_from args objs stops from) _ _ _ (text_follows at objs m k args numbers v stops from)
      (λ x y p. subst (λ z. Leads (EndedAlike at args numbers objs) (run (on_objects args) (next x) objs w) (run (on_bytes numbers) (next z) m w)) (sym p.0) (row_follows (next x) objs m w k v i (b x p.1)))
  row_follows (Bytes from next) objs m w k v i b =
      leads_act BytesAre (EndedAlike at args numbers objs) (bytes_from args objs from) _ _ _ (bytes_follow at objs m k args numbers v from)
      (λ x y p. subst (λ z. Leads (EndedAlike at args numbers objs) (run (on_objects args) (next x) objs w) (run (on_bytes numbers) (next z) m w)) (sym p.0) (row_follows (next x) objs m w k v i (b x p.1)))
  row_follows (Both l r next) objs m w k v i b =
      leads_act PairIs (EndedAlike at args numbers objs) (both_from args objs l r) _ _ _ (both_follows at objs m k args numbers v l r)
      (λ x y e. subst (λ z. Leads (EndedAlike at args numbers objs) (run (on_objects args) (next x) objs w) (run (on_bytes numbers) (next z) m w)) (sym e) (row_follows (next x) objs m w k v i (b x)))
  row_follows (Point pointers touched next) objs m w k v i b =
      leads_act (Stay objs m) (EndedAlike at args numbers objs) (tested (point_tests args objs pointers touched) (Ok objs)) (Ok m) (λ o. run (on_objects args) next o w) (λ o. run (on_bytes numbers) next o w) (point_follows at objs m k args numbers v pointers touched)
      (λ x y p. rw (p.0, p.1) (row_follows next objs m w k v i b))
  row_follows (Touch all next) objs m w k v i b =
      leads_act (Stay objs m) (EndedAlike at args numbers objs) (tested (touched_tests args objs all) (Ok objs)) (valid_then (all_valid numbers all) m) (λ o. run (on_objects args) next o w) (λ o. run (on_bytes numbers) next o w) (touch_follows at objs m k args numbers v all)
      (λ x y p. rw (p.0, p.1) (row_follows next objs m w k v i b))
  row_follows (Apart strict to from next) objs m w k v i b =
      leads_act (Stay objs m) (EndedAlike at args numbers objs) (tested (apart_tests args objs to from) (Ok objs)) (valid_then (not (strict && meets_any numbers to from)) m) (λ o. run (on_objects args) next o w) (λ o. run (on_bytes numbers) next o w) (apart_follows at objs m k args numbers v strict to from)
      (λ x y p. rw (p.0, p.1) (row_follows next objs m w k v i b))
  row_follows (Store j o what next) objs m w k v i b =
      leads_act (KeptIs at objs m k args numbers v) (EndedAlike at args numbers objs) (store_at args objs j o what) (flat_store numbers m j o what) (λ o. run (on_objects args) next o w) (λ o. run (on_bytes numbers) next o w) (store_follows at objs m k args numbers v j o what b.0)
      (λ x y p.
      leads_more (EndedAlike at args numbers x) (EndedAlike at args numbers objs) _ _
      (λ c d e. record { memories = e.memories; same = then_same objs x c.memory p.kept.same e.same; world = e.world; result = e.result })
      (row_follows next x y w (record { corresponds = p.kept.corresponds; is_memory = p.kept.is_memory; size = p.long }) (λ q. value_kept at (is_live objs) (is_live x) (operand args q) (get_or numbers q 0) p.kept.same.live (v q)) i b.1))
  row_follows (Show d bs next) objs m w k v i b = row_follows next objs m (showing w d bs) k v i b
  row_follows (Take n next) objs m w k v i b = row_follows (next (take n w.input.bytes)) objs m (taking w n) k v (bytes_drop n w.input.bytes i) (b (take n w.input.bytes) (bytes_take n w.input.bytes i))

  pub asked_follows : (row : Row) (objs : List Object) (m : List ℕ) (w : World) → Memories at objs m → ValuesAre at (is_live objs) args numbers → AreBytes w.input.bytes → IsBytewise row → Leads IsSame (request (on_objects args) row objs w) (request (on_bytes numbers) row m w)
  asked_follows (Gives g) objs m w k v i b = (false, refl, refl)
  asked_follows Malformed objs m w k v i b = refl
  asked_follows (Check exceeds next) objs m w k v i b = (exceeds, refl, refl)
  asked_follows (Ask j next) objs m w k v i b =
      leads_act NumberIs IsSame (as_number (operand args j)) (Ok (get_or numbers j 0)) _ _ (number_follows at (is_live objs) (operand args j) (get_or numbers j 0) (v j))
      (λ x y e. subst (λ z. Leads IsSame (request (on_objects args) (next x) objs w) (request (on_bytes numbers) (next z) m w)) (sym e) (asked_follows (next x) objs m w k v i (b x)))
  asked_follows (Text stops from next) objs m w k v i b =
      leads_act FoundIs IsSame (text_from args objs stops from) _ _ _ (text_follows at objs m k args numbers v stops from)
      (λ x y p. subst (λ z. Leads IsSame (request (on_objects args) (next x) objs w) (request (on_bytes numbers) (next z) m w)) (sym p.0) (asked_follows (next x) objs m w k v i (b x p.1)))
  asked_follows (Bytes from next) objs m w k v i b =
      leads_act BytesAre IsSame (bytes_from args objs from) _ _ _ (bytes_follow at objs m k args numbers v from)
      (λ x y p. subst (λ z. Leads IsSame (request (on_objects args) (next x) objs w) (request (on_bytes numbers) (next z) m w)) (sym p.0) (asked_follows (next x) objs m w k v i (b x p.1)))
  asked_follows (Both l r next) objs m w k v i b =
      leads_act PairIs IsSame (both_from args objs l r) _ _ _ (both_follows at objs m k args numbers v l r)
      (λ x y e. subst (λ z. Leads IsSame (request (on_objects args) (next x) objs w) (request (on_bytes numbers) (next z) m w)) (sym e) (asked_follows (next x) objs m w k v i (b x)))
  asked_follows (Point pointers touched next) objs m w k v i b =
      leads_act (Stay objs m) IsSame (tested (point_tests args objs pointers touched) (Ok objs)) (Ok m) (λ o. request (on_objects args) next o w) (λ o. request (on_bytes numbers) next o w) (point_follows at objs m k args numbers v pointers touched)
      (λ x y p. rw (p.0, p.1) (asked_follows next objs m w k v i b))
  asked_follows (Touch all next) objs m w k v i b =
      leads_act (Stay objs m) IsSame (tested (touched_tests args objs all) (Ok objs)) (valid_then (all_valid numbers all) m) (λ o. request (on_objects args) next o w) (λ o. request (on_bytes numbers) next o w) (touch_follows at objs m k args numbers v all)
      (λ x y p. rw (p.0, p.1) (asked_follows next objs m w k v i b))
  asked_follows (Apart strict to from next) objs m w k v i b =
      leads_act (Stay objs m) IsSame (tested (apart_tests args objs to from) (Ok objs)) (valid_then (not (strict && meets_any numbers to from)) m) (λ o. request (on_objects args) next o w) (λ o. request (on_bytes numbers) next o w) (apart_follows at objs m k args numbers v strict to from)
      (λ x y p. rw (p.0, p.1) (asked_follows next objs m w k v i b))
  asked_follows (Store j o what next) objs m w k v i b =
      leads_act (KeptIs at objs m k args numbers v) IsSame (store_at args objs j o what) (flat_store numbers m j o what) (λ o. request (on_objects args) next o w) (λ o. request (on_bytes numbers) next o w) (store_follows at objs m k args numbers v j o what b.0)
      (λ x y p. asked_follows next x y w (record { corresponds = p.kept.corresponds; is_memory = p.kept.is_memory; size = p.long }) (λ q. value_kept at (is_live objs) (is_live x) (operand args q) (get_or numbers q 0) p.kept.same.live (v q)) i b.1)
  asked_follows (Show d bs next) objs m w k v i b = asked_follows next objs m (showing w d bs) k v i b
  asked_follows (Take n next) objs m w k v i b = asked_follows (next (take n w.input.bytes)) objs m (taking w n) k v (bytes_drop n w.input.bytes i) (b (take n w.input.bytes) (bytes_take n w.input.bytes i))
