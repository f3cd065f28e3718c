-- Pointers that are compared (C11 6.5.6p9, 6.5.8p5 and 6.5.9p6).
use Rattle.std.specs.Prelude.{ℕ, ◌==◌, Bool, true, false, not, ◌&&◌, ◌||◌, List, [], ◌∷◌, Result, Ok}
use Rattle.std.specs.Prelude.{ℤ, pos, ◌-ℤ◌, int_lt, int_div, int_rem}
use Rattle.std.specs.Ordering.{int_eq}
use Rattle.fc_base.specs.declared.undefined.UndefKind.{UndefKind}
use Rattle.fc_base.specs.declared.undefined.UndefKind.TheVariants as kind
use Rattle.object_meaning.specs.Objects.{Object}
use Rattle.object_meaning.specs.Touches.{test, tested, is_null, is_dead}
use Rattle.object_meaning.specs.declared.values.PtrValue.{PtrValue}
use Rattle.object_meaning.specs.declared.values.PtrValue.TheVariants.{Null, At}

-- equal are two nulls, and the same place of the same object, whatever is known of them
abbrev pub are_equal : PtrValue → PtrValue → Bool
are_equal (Null claim) (Null other) = true
are_equal (At p) (At q) = p.object == q.object && int_eq p.offset q.offset
are_equal _ _ = false

abbrev pub in_one_object : PtrValue → PtrValue → Bool
in_one_object (At p) (At q) = p.object == q.object
in_one_object _ _ = false

-- how far v is behind w, in bytes, where both are in one object
abbrev pub bytes_between : PtrValue → PtrValue → ℤ
bytes_between (At p) (At q) = p.offset -ℤ q.offset
bytes_between _ _ = pos 0

-- whether a pointer isn't null: the test of an `if` and its kin
abbrev pub is_given : List Object → PtrValue → Result Bool UndefKind
is_given objs v = tested (test (is_dead objs v) kind.DeadObject ∷ []) (Ok (not (is_null v)))

abbrev pub equal : List Object → PtrValue → PtrValue → Result Bool UndefKind
equal objs v w = tested (test (is_dead objs v || is_dead objs w) kind.DeadObject ∷ []) (Ok (are_equal v w))

abbrev pub less : List Object → PtrValue → PtrValue → Result Bool UndefKind
less objs v w =
    tested (test (is_dead objs v || is_dead objs w) kind.DeadObject
    ∷ test (not (in_one_object v w)) kind.BadCompare
    ∷ []) (Ok (int_lt (bytes_between v w) (pos 0)))

-- v - w in elements of so many bytes
abbrev pub difference : List Object → ℕ → PtrValue → PtrValue → Result ℤ UndefKind
difference objs size v w =
    tested (test (is_dead objs v || is_dead objs w) kind.DeadObject
    ∷ test (not (in_one_object v w && int_eq (int_rem (bytes_between v w) (pos size)) (pos 0))) kind.BadCompare
    ∷ []) (Ok (int_div (bytes_between v w) (pos size)))
