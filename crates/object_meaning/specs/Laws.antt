-- Laws of pointers and memory: the rules give valid pointers from valid ones wherever they are defined, operations keep memory, and
-- a computed size bounds the true one.
use Rattle.std.specs.Prelude.{◌≡◌, ℕ, ◌≤◌, ◌^◌, Bool, true, List, length, Some, Result, IfOk, ℤ}
use Rattle.fc_base.specs.declared.levels.Mode.{Mode}
use Rattle.fc_base.specs.declared.levels.Width.{Width}
use Rattle.fc_base.specs.declared.refusals.Place.{Place}
use Rattle.fc_base.specs.declared.undefined.UndefKind.{UndefKind}
use Rattle.run_meaning.specs.Events.{Asked, Brackets}
use Rattle.run_meaning.specs.Worlds.{AreBytes}
use Rattle.object_meaning.specs.Memory.{move_by, named_place, part_place, trail_place, attribute_result, load_pointer, store, store_pointer, copy, IsMemory, SameObjects}
use Rattle.object_meaning.specs.Objects.{Object, is_live, size_at, begun, add, finish, fill}
use Rattle.object_meaning.specs.Provenance.{home, forgot, fresh, IsPointer}
use Rattle.object_meaning.specs.Sizes.{size_of, true_size, is_resolved}
use Rattle.object_meaning.specs.declared.values.PtrValue.{PtrValue}

-- no object and no member has more bytes
abbrev pub most_bytes : ℕ
most_bytes = 2 ^ 32

pub record RulesKeepPointers : Type 0 where
  pub home : (objs : List Object) (o : ℕ) → is_live objs o ≡ true → size_at objs o ≤ most_bytes → IsPointer objs (home objs o)
  pub fresh : (objs : List Object) (o : ℕ) → is_live objs o ≡ true → size_at objs o ≤ most_bytes
      → IsPointer objs (fresh (Some o) (size_at objs o))
  pub named : (objs : List Object) (k s : ℕ) (v : PtrValue) → IsPointer objs v → IfOk (named_place objs k s v) (IsPointer objs)
  pub part : (objs : List Object) (k s : ℕ) (v : PtrValue) → s ≤ most_bytes → IsPointer objs v
      → IfOk (part_place objs k s v) (IsPointer objs)
  pub trail : (objs : List Object) (k : ℕ) (v : PtrValue) → IsPointer objs v → IfOk (trail_place objs k v) (IsPointer objs)
  pub moved : (objs : List Object) (d : ℤ) (v : PtrValue) → IsPointer objs v → IfOk (move_by objs v d) (IsPointer objs)
  pub forgot : (objs : List Object) (v : PtrValue) → IsPointer objs v → IsPointer objs (forgot v)
  pub sized : (objs : List Object) (size : ℕ) (v : PtrValue) → IsPointer objs v → IfOk (attribute_result objs size v) (IsPointer objs)

-- every size that is asked bounds the true one, and is that one where the pointer is resolved
abbrev pub SizesBracket : Type 0
SizesBracket =
    (objs : List Object) (v : PtrValue) → IsPointer objs v → (place : Place) (mode : Mode) (written : Bool)
    → Brackets (Asked place mode (size_of objs mode v) (true_size objs mode v) (is_resolved v) written)

-- Each operation keeps memory, and what is loaded of a pointer is one. A store and a copy leave which objects there are, which live,
-- and how many bytes they have
abbrev pub Keeps : List Object → Result (List Object) UndefKind → Type 0
Keeps objs result = IfOk result (λ new. IsMemory new × SameObjects objs new)

pub record MemoryIsKept : Type 0 where
  pub store : (objs : List Object) (v : PtrValue) (width : Width) (x : ℕ) → IsMemory objs → Keeps objs (store objs v width x)
  pub store_pointer : (objs : List Object) (v x : PtrValue) → IsMemory objs → IsPointer objs x → Keeps objs (store_pointer objs v x)
  pub copy : (objs : List Object) (to from : PtrValue) (n : ℕ) → IsMemory objs → Keeps objs (copy objs to from n)
  pub load_pointer : (objs : List Object) (v : PtrValue) → IsMemory objs → IfOk (load_pointer objs v) (IsPointer objs)
  pub add : (objs : List Object) (size : ℕ) (writable zeroed : Bool) → IsMemory objs → IsMemory (add objs (begun size writable zeroed))
  pub finish : (objs : List Object) (o : ℕ) → IsMemory objs → IsMemory (finish objs o)
  pub fill : (objs : List Object) (o : ℕ) (bytes : List ℕ) → IsMemory objs → length bytes ≡ size_at objs o → AreBytes bytes
      → IsMemory (fill objs o bytes)
