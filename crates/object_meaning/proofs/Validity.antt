-- The rules give valid pointers.
use Rattle.std.proofs.Common.{◌≡◌, ℕ, ◌+◌, ◌<◌, ◌≤◌, ◌^◌, Bool, true, false, List, length, None, Some, Ok, refl, ap, ⊎_elim, arith}
use Rattle.std.specs.Prelude.{ℤ, pos, negsuc, ◌+ℤ◌, ◌≤ℤ◌, if◌then◌else◌, IfOk}
use Rattle.std.specs.Int.{int_min}
use Rattle.std.proofs.lemmas.Bool.{cases_lt, not-false, leb-true}
use Rattle.std.proofs.lemmas.Int.{ints, clamps}
use Rattle.std.proofs.lemmas.List.{get_or_past}
use Rattle.object_meaning.specs.Memory.{move_by, named_place, part_place, trail_place, attribute_result, place_tests, move_tests, attribute_tests}
use Rattle.object_meaning.specs.Objects.{Object, ended, is_live, size_at}
use Rattle.object_meaning.specs.Provenance.{place, home, named, part, part_tag, trail, trail_tag, moved, moved_tag, forgot, fresh, sized, is_claim, attributed, BoundHolds, IsPlace, IsPointer}
use Rattle.object_meaning.specs.Touches.{lies_in}
use Rattle.object_meaning.proofs.Tested.{tested_ok}
use Rattle.object_meaning.specs.declared.values.PtrValue.{PtrValue}
use Rattle.object_meaning.specs.declared.values.PtrValue.TheVariants.{Null, At}
use Rattle.object_meaning.specs.declared.values.Tag.{Tag}
use Rattle.object_meaning.specs.declared.values.Tag.TheVariants.{Known, Bound, Unknown}

-- an object is live only if it is there
pub live_there : (objs : List Object) (o : ℕ) → is_live objs o ≡ true → o < length objs
live_there objs o l = ⊎_elim (λ h. h) (λ h. let e = ap (λ (x : Object). x.alive) (get_or_past objs o ended h) in absurd (cc)) (cases_lt o (length objs))

-- bytes that lie in an object
pub lies_at : (size : ℕ) (start : ℤ) (count : ℕ) → lies_in size start count ≡ true → (pos 0 ≤ℤ start) × ((start +ℤ pos count) ≤ℤ pos size)
lies_at size (pos s) count h = let l = leb-true (s + count) size h in (omega (arith, ints), omega (arith, ints, l))
lies_at size (negsuc k) count h = absurd (cc)

module _ (objs : List Object) where
  whole : (o size : ℕ) → is_live objs o ≡ true → size_at objs o ≤ 2 ^ 32 → size ≡ size_at objs o → (tag : Tag) → BoundHolds (pos 0) (pos size) tag → IsPlace objs (place o (pos 0) (pos size) tag)
  whole o size l s e tag b = record {
    there = live_there objs o l;
    valid = λ h. record { small = s; starts = (omega (arith, ints), omega (arith, ints)); ends = (omega (arith, ints), omega (arith, ints, e)); bound = b };
  }

  pub home_is : (o : ℕ) → is_live objs o ≡ true → size_at objs o ≤ 2 ^ 32 → IsPointer objs (home objs o)
  home_is o l s = whole o (size_at objs o) l s refl Known tt

  -- either of two pointers
  either_is : (b : Bool) (v w : PtrValue) → IsPointer objs v → IsPointer objs w → IsPointer objs (if b then v else w)
  either_is true v w h k = h
  either_is false v w h k = k

  pub forgot_is : (v : PtrValue) → IsPointer objs v → IsPointer objs (forgot v)
  forgot_is (Null claim) h = tt
  forgot_is (At p) h = record {
    there = h.there;
    valid = λ l. let v = h.valid l in record { small = v.small; starts = v.starts; ends = v.ends; bound = tt };
  }

  pub fresh_is : (o : ℕ) → is_live objs o ≡ true → size_at objs o ≤ 2 ^ 32 → IsPointer objs (fresh (Some o) (size_at objs o))
  fresh_is o l s =
      let w = whole o (size_at objs o) l s refl Known tt in
      either_is (is_claim (size_at objs o)) (At (place o (pos 0) (pos (size_at objs o)) Known)) _ w (forgot_is (At (place o (pos 0) (pos (size_at objs o)) Known)) w)

  module _ (k s : ℕ) where
    pub named_is : (v : PtrValue) → IsPointer objs v → IfOk (named_place objs k s v) (IsPointer objs)
    named_is (Null claim) h = tt
    named_is (At p) h = tested_ok (IsPointer objs) (place_tests objs (At p) (k + s)) (Ok (At (named k s p))) (λ a.
        let live = not-false _ a.0 in
        let valid = h.valid live in
        let inside = lies_at (size_at objs p.object) (p.offset +ℤ pos 0) (k + s) (not-false _ a.1.1.0) in
        let starts = valid.starts in
        record {
          there = h.there;
          valid = λ l. record {
            small = valid.small;
            starts = (omega (arith, ints, starts), omega (arith, ints, inside));
            ends = (omega (arith, ints, starts), omega (arith, ints, inside));
            bound = tt;
          };
        })

    -- a declared size of a member behind a valid place
    part_bound : (size : ℕ) (offset : ℤ) (tag : Tag) → s ≤ 2 ^ 32 → size ≤ 2 ^ 32 → pos 0 ≤ℤ offset → (offset +ℤ pos k) ≤ℤ pos size
        → BoundHolds (offset +ℤ pos k) (int_min (offset +ℤ pos (k + s)) (pos size)) (part_tag s tag)
    part_bound size offset Known few small from to = tt
    part_bound size offset (Bound r) few small from to = (omega (arith, ints, clamps, from, to), omega (arith, ints, clamps, from, to))
    part_bound size offset Unknown few small from to = (omega (arith, ints, clamps, from, to), omega (arith, ints, clamps, from, to))

    pub part_is : (v : PtrValue) → s ≤ 2 ^ 32 → IsPointer objs v → IfOk (part_place objs k s v) (IsPointer objs)
    part_is (Null claim) few h = tt
    part_is (At p) few h = tested_ok (IsPointer objs) (place_tests objs (At p) k) (Ok (At (part objs k s p))) (λ a.
        let live = not-false _ a.0 in
        let valid = h.valid live in
        let inside = lies_at (size_at objs p.object) (p.offset +ℤ pos 0) k (not-false _ a.1.1.0) in
        let starts = valid.starts in
        let to : (p.offset +ℤ pos k) ≤ℤ pos (size_at objs p.object) = omega (arith, ints, inside) in
        record {
          there = h.there;
          valid = λ l. record {
            small = valid.small;
            starts = (omega (arith, ints, starts), to);
            ends = (omega (arith, ints, clamps, starts), omega (arith, ints, clamps));
            bound = part_bound (size_at objs p.object) p.offset p.tag few valid.small starts.0 to;
          };
        })

  trail_bound : (offset end : ℤ) (tag : Tag) → BoundHolds offset end (trail_tag tag)
  trail_bound offset end Known = tt
  trail_bound offset end (Bound r) = tt
  trail_bound offset end Unknown = tt

  pub trail_is : (k : ℕ) (v : PtrValue) → IsPointer objs v → IfOk (trail_place objs k v) (IsPointer objs)
  trail_is k (Null claim) h = tt
  trail_is k (At p) h = tested_ok (IsPointer objs) (place_tests objs (At p) k) (Ok (At (trail objs k p))) (λ a.
      let live = not-false _ a.0 in
      let valid = h.valid live in
      let inside = lies_at (size_at objs p.object) (p.offset +ℤ pos 0) k (not-false _ a.1.1.0) in
      let starts = valid.starts in
      record {
        there = h.there;
        valid = λ l. record {
          small = valid.small;
          starts = (omega (arith, ints, starts), omega (arith, ints, inside));
          ends = (omega (arith, ints), omega (arith, ints));
          bound = trail_bound (p.offset +ℤ pos k) (pos (size_at objs p.object)) p.tag;
        };
      })

  moved_bound : (d offset end : ℤ) (tag : Tag) → BoundHolds offset end tag → BoundHolds (offset +ℤ d) end (moved_tag d tag)
  moved_bound d offset end Known b = tt
  moved_bound d offset end (Bound r) b = (omega (arith, ints, b), omega (arith, ints, b))
  moved_bound d offset end Unknown b = tt

  pub moved_is : (d : ℤ) (v : PtrValue) → IsPointer objs v → IfOk (move_by objs v d) (IsPointer objs)
  moved_is d (Null claim) h = tested_ok (IsPointer objs) (move_tests objs (Null claim) d) (Ok (Null claim)) (λ a. tt)
  moved_is d (At p) h = tested_ok (IsPointer objs) (move_tests objs (At p) d) (Ok (moved d (At p))) (λ a.
      let live = not-false _ a.0 in
      let valid = h.valid live in
      let inside = lies_at (size_at objs p.object) (p.offset +ℤ d) 0 (not-false _ a.1.1.0) in
      record {
        there = h.there;
        valid = λ l. record {
          small = valid.small;
          starts = (inside.0, (let to = inside.1 in omega (arith, ints, to)));
          ends = valid.ends;
          bound = moved_bound d p.offset p.end p.tag valid.bound;
        };
      })

  pub sized_is : (size : ℕ) (v : PtrValue) → IsPointer objs v → IfOk (attribute_result objs size v) (IsPointer objs)
  sized_is size (Null claim) h = tested_ok (IsPointer objs) (attribute_tests objs size (Null claim)) (Ok (sized objs size (Null claim))) (λ a. either_is (is_claim size) (Null (Some size)) (Null None) tt tt)
  sized_is size (At p) h = tested_ok (IsPointer objs) (attribute_tests objs size (At p)) (Ok (sized objs size (At p))) (λ a.
      let known : IsPointer objs (At (place p.object p.offset (pos (size_at objs p.object)) Known)) = record {
        there = h.there;
        valid = λ l. let v = h.valid l in record { small = v.small; starts = v.starts; ends = (omega (arith, ints), omega (arith, ints)); bound = tt };
      } in
      either_is (is_claim size) (attributed objs size (At p)) (forgot (At p)) known (forgot_is (At p) h))
