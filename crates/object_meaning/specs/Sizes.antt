-- How many bytes a pointer has behind it, in truth and as far as its tag tells (GCC manual, "Object Size Checking": modes 0 and 2
-- ask for the whole object, 1 and 3 for the closest surrounding subobject; 0 and 1 for a maximum, 2 and 3 for a minimum).
use Rattle.std.specs.Prelude.{ℕ, Bool, true, false, List, Option, None, Some, if◌then◌else◌, ℤ, pos, negsuc, ◌-ℤ◌}
use Rattle.fc_base.specs.declared.levels.Mode.{Mode}
use Rattle.fc_base.specs.declared.levels.Mode.TheVariants.{M0, M1, M2, M3}
use Rattle.library_meaning.specs.Table.{no_limit}
use Rattle.object_meaning.specs.Objects.{Object, is_live, size_at}
use Rattle.object_meaning.specs.declared.values.Ptr.{Ptr}
use Rattle.object_meaning.specs.declared.values.PtrValue.{PtrValue}
use Rattle.object_meaning.specs.declared.values.PtrValue.TheVariants.{Null, At}
use Rattle.object_meaning.specs.declared.values.Tag.{Tag}
use Rattle.object_meaning.specs.declared.values.Tag.TheVariants.{Known, Bound, Unknown}

-- no less than 0
abbrev pub at_least_none : ℤ → ℕ
at_least_none (pos n) = n
at_least_none (negsuc n) = 0

-- where the bytes end that a mode counts, of an object of this size or of a subobject that ends there
abbrev pub end_in : Mode → ℕ → ℤ → ℤ
end_in M0 size end = pos size
end_in M1 size end = end
end_in M2 size end = pos size
end_in M3 size end = end

-- the bytes from an offset to there
abbrev pub rest_in : Mode → ℕ → ℤ → ℤ → ℕ
rest_in mode size offset end = at_least_none (end_in mode size end -ℤ offset)

-- the bytes of a place in an object of this size
abbrev pub rest_of : Mode → ℕ → Ptr → ℕ
rest_of mode size p = rest_in mode size p.offset p.end

-- the true bytes, which null and a pointer to an ended object don't have
abbrev pub true_size : List Object → Mode → PtrValue → Option ℕ
true_size objs mode (Null claim) = None
true_size objs mode (At p) = if is_live objs p.object then Some (rest_of mode (size_at objs p.object) p) else None

-- where nothing is known: -1 as a size for a maximum, 0 for a minimum
abbrev pub unknown_size : Mode → ℕ
unknown_size M0 = no_limit
unknown_size M1 = no_limit
unknown_size M2 = 0
unknown_size M3 = 0

-- where at most these bytes were declared for a subobject
abbrev pub bound_size : Mode → ℤ → ℕ
bound_size M0 r = no_limit
bound_size M1 r = at_least_none r
bound_size M2 r = 0
bound_size M3 r = 0

abbrev pub tagged_size : Mode → ℕ → Ptr → Tag → ℕ
tagged_size mode size p Known = rest_of mode size p
tagged_size mode size p (Bound r) = bound_size mode r
tagged_size mode size p Unknown = unknown_size mode

-- the computed size, of a pointer that is null or to a live object
abbrev pub size_of : List Object → Mode → PtrValue → ℕ
size_of objs mode (Null (Some claim)) = claim
size_of objs mode (Null None) = unknown_size mode
size_of objs mode (At p) = tagged_size mode (size_at objs p.object) p p.tag

abbrev pub is_known : Tag → Bool
is_known Known = true
is_known (Bound r) = false
is_known Unknown = false

-- whether the rules resolve a pointer, so that its computed size is the true one
abbrev pub is_resolved : PtrValue → Bool
is_resolved (Null claim) = false
is_resolved (At p) = is_known p.tag
