-- Pointers, sizes and calls that compute, each by the table of its definition.
use Rattle.std.proofs.Common.{◌≡◌, ℕ, Bool, true, false, List, [], ◌∷◌, length, map, replicate, Result, Ok, Err, None, Some, refl}
use Rattle.std.specs.Prelude.{pos, negsuc}
use Rattle.fc_base.specs.declared.levels.Mode.TheVariants.{M0, M1}
use Rattle.fc_base.specs.declared.undefined.UndefKind.TheVariants as kind
use Rattle.library_meaning.specs.OnBytes.{quiet}
use Rattle.library_meaning.specs.Prints as prints
use Rattle.library_meaning.specs.Rows.{Row, Count, Behind, Forgot, Answer, answer, run, request, showing}
use Rattle.library_meaning.specs.Table as table
use Rattle.object_meaning.specs.Objects.{Object, ended}
use Rattle.object_meaning.specs.OnObjects.{ObjectStop, Overflow, Undefined, on_objects, value_of}
use Rattle.object_meaning.specs.Memory.{named_place, part_place, move_by}
use Rattle.object_meaning.specs.Provenance.{place}
use Rattle.object_meaning.specs.Sizes.{size_of}
use Rattle.object_meaning.specs.declared.values.Cell.{Cell}
use Rattle.object_meaning.specs.declared.values.Cell.TheVariants.{Byte, Uninit}
use Rattle.object_meaning.specs.declared.values.PtrValue.TheVariants.{Null, At}
use Rattle.object_meaning.specs.declared.values.Tag.TheVariants.{Known, Bound, Unknown}
use Rattle.object_meaning.specs.declared.values.Value.{Value}
use Rattle.object_meaning.specs.declared.values.Value.TheVariants.{Int, Pointer}

abbrev blank : ℕ → Object
blank n = record { size = n; alive = true; writable = true; cells = replicate n Uninit }

abbrev full : List Cell → Object
full cs = record { size = length cs; alive = true; writable = true; cells = cs }

abbrev to : ℕ → ℕ → Value
to o k = Pointer (At (place o (pos k) (pos 0) Known))

abbrev literal : List Cell → Object
literal cs = record (full cs) { writable = false }

abbrev nowhere : Value
nowhere = Pointer (Null None)

abbrev call : Row → List Value → List Object → Result (Answer (List Object)) ObjectStop
call row args objs = run (on_objects args) row objs quiet

abbrev asks : Row → List Value → List Object → Result Bool ObjectStop
asks row args objs = request (on_objects args) row objs quiet

-- struct V { char buf1[10]; int b; char buf2[10]; } of 28 bytes: p = &var.buf1[1]
buf : named_place (blank 28 ∷ []) 0 10 (At (place 0 (pos 0) (pos 28) Known)) ≡ Ok (At (place 0 (pos 0) (pos 10) Known))
buf = refl

moved_1 : move_by (blank 28 ∷ []) (At (place 0 (pos 0) (pos 10) Known)) (pos 1) ≡ Ok (At (place 0 (pos 1) (pos 10) Known))
moved_1 = refl

size_0 : size_of (blank 28 ∷ []) M0 (At (place 0 (pos 1) (pos 10) Known)) ≡ 27
size_0 = refl

size_1 : size_of (blank 28 ∷ []) M1 (At (place 0 (pos 1) (pos 10) Known)) ≡ 9
size_1 = refl

past : size_of (blank 28 ∷ []) M1 (At (place 0 (pos 12) (pos 10) Known)) ≡ 0
past = refl

-- member of 6 bytes behind an unknown pointer, modes 0 to 3, and moved by 2 and 7
tag : part_place (blank 12 ∷ []) 0 6 (At (place 0 (pos 0) (pos 12) Unknown)) ≡ Ok (At (place 0 (pos 0) (pos 6) (Bound (pos 6))))
tag = refl

tag_1 : size_of (blank 12 ∷ []) M1 (At (place 0 (pos 2) (pos 6) (Bound (pos 4)))) ≡ 4
tag_1 = refl

tag_moved : move_by (blank 12 ∷ []) (At (place 0 (pos 0) (pos 6) (Bound (pos 6)))) (pos 7) ≡ Ok (At (place 0 (pos 7) (pos 6) (Bound (negsuc 0))))
tag_moved = refl

tag_neg : size_of (blank 12 ∷ []) M1 (At (place 0 (pos 7) (pos 6) (Bound (negsuc 0)))) ≡ 0
tag_neg = refl

null_by_one : move_by [] (Null (Some 9)) (pos 1) ≡ Err kind.NullPointer
null_by_one = refl

null_by_none : move_by [] (Null (Some 9)) (pos 0) ≡ Ok (Null (Some 9))
null_by_none = refl

far : move_by (blank 4 ∷ []) (At (place 0 (pos 4) (pos 4) Known)) (pos 1) ≡ Err kind.BadArithmetic
far = refl

gone : move_by (ended ∷ []) (At (place 0 (pos 4) (pos 4) Known)) (pos 0) ≡ Err kind.DeadObject
gone = refl

-- strcpy with no size and an uninitialised source comes before the null destination; with size 0 it exceeds unread
null_last : call (table.strcpy table.no_limit) (nowhere ∷ to 0 0 ∷ []) (blank 2 ∷ []) ≡ Err (Undefined kind.Uninitialised)
null_last = refl

unread : call (table.strcpy 0) (nowhere ∷ to 3 0 ∷ []) (blank 2 ∷ []) ≡ Err Overflow
unread = refl

dead_nothing : call (table.memcpy 5) (to 0 0 ∷ to 3 0 ∷ Int 0 ∷ []) (blank 2 ∷ []) ≡ Err (Undefined kind.DeadObject)
dead_nothing = refl

overlaps : call (table.memcpy 5) (to 0 0 ∷ to 0 0 ∷ Int 1 ∷ []) (blank 2 ∷ []) ≡ Err (Undefined kind.Overlap)
overlaps = refl

none_appended : call (table.strncat table.no_limit) (to 0 0 ∷ nowhere ∷ Int 0 ∷ []) (full (Byte 97 ∷ Byte 0 ∷ []) ∷ []) ≡ Ok (answer (full (Byte 97 ∷ Byte 0 ∷ []) ∷ []) quiet (Behind 0 0))
none_appended = refl

compared : call table.memcmp (to 0 0 ∷ to 1 0 ∷ Int 4 ∷ []) (full (Byte 97 ∷ Byte 98 ∷ Byte 0 ∷ []) ∷ full (Byte 120 ∷ Byte 121 ∷ Byte 0 ∷ []) ∷ []) ≡ Err (Undefined kind.OutOfObject)
compared = refl

-- what is asked of a call that has no checked form is nothing, whatever is undefined about it
no_request : asks table.strlen (nowhere ∷ []) [] ≡ Ok false
no_request = refl

-- strcat of size 1 exceeds on its destination alone, and strncat of nothing looks at its source behind the check
first_alone : asks (table.strcat 1) (to 0 0 ∷ to 3 0 ∷ []) (full (Byte 97 ∷ Byte 0 ∷ []) ∷ []) ≡ Ok true
first_alone = refl

none_asked : asks (table.strncat 2) (to 0 0 ∷ to 3 0 ∷ Int 0 ∷ []) (full (Byte 97 ∷ Byte 0 ∷ []) ∷ []) ≡ Ok false
none_asked = refl

none_looked_at : call (table.strncat 2) (to 0 0 ∷ to 3 0 ∷ Int 0 ∷ []) (full (Byte 97 ∷ Byte 0 ∷ []) ∷ []) ≡ Err (Undefined kind.DeadObject)
none_looked_at = refl

-- behind the check of strncpy, which reads nothing for it, a dead pointer and then null come before the cells
dead_before_null : call (table.strncpy 1) (nowhere ∷ to 3 0 ∷ Int 1 ∷ []) (blank 2 ∷ []) ≡ Err (Undefined kind.DeadObject)
dead_before_null = refl

null_before_cells : call (table.strncpy 1) (nowhere ∷ to 0 0 ∷ Int 1 ∷ []) (blank 2 ∷ []) ≡ Err (Undefined kind.NullPointer)
null_before_cells = refl

cells_before_places : call (table.strncpy 2) (to 1 0 ∷ to 0 0 ∷ Int 2 ∷ []) (blank 2 ∷ literal [] ∷ []) ≡ Err (Undefined kind.Uninitialised)
cells_before_places = refl

-- strcat of a text to itself, and of nothing to a literal
to_itself : call (table.strcat 8) (to 0 0 ∷ to 0 0 ∷ []) (full (Byte 97 ∷ Byte 0 ∷ Byte 0 ∷ Byte 0 ∷ []) ∷ []) ≡ Err (Undefined kind.Overlap)
to_itself = refl

to_literal : call (table.strncat 8) (to 0 0 ∷ nowhere ∷ Int 0 ∷ []) (literal (Byte 97 ∷ Byte 0 ∷ []) ∷ []) ≡ Err (Undefined kind.ReadOnly)
to_literal = refl

-- strcpy gives its first argument's value, with its claim or its tag; of what mempcpy gives nothing is known
first_given : value_of (to 0 1 ∷ []) (Behind 0 0) ≡ to 0 1
first_given = refl

claim_given : value_of (Pointer (Null (Some 9)) ∷ []) (Behind 0 0) ≡ Pointer (Null (Some 9))
claim_given = refl

place_given : value_of (to 0 1 ∷ []) (Forgot 0 2) ≡ Pointer (At (place 0 (pos 3) (pos 0) Unknown))
place_given = refl

-- another descriptor gives -1, and touches nothing; a dead pointer is used all the same
elsewhere : call table.write (Int 5 ∷ nowhere ∷ Int 9 ∷ []) [] ≡ Ok (answer [] quiet table.minus_one)
elsewhere = refl

elsewhere_dead : call table.write (Int 5 ∷ to 3 0 ∷ Int 0 ∷ []) [] ≡ Err (Undefined kind.DeadObject)
elsewhere_dead = refl

-- read into a literal is undefined whatever the input has
into_literal : call (table.read 4) (Int 0 ∷ to 0 0 ∷ Int 1 ∷ []) (literal (Byte 0 ∷ []) ∷ []) ≡ Err (Undefined kind.ReadOnly)
into_literal = refl

-- ---- prints, whose format is object 0

abbrev format_none : Object
format_none = literal (map Byte (37 ∷ 46 ∷ 48 ∷ 115 ∷ 0 ∷ []))

abbrev format_two : Object
format_two = literal (map Byte (37 ∷ 115 ∷ 37 ∷ 115 ∷ 0 ∷ []))

abbrev format_cut : Object
format_cut = literal (map Byte (37 ∷ 46 ∷ 50 ∷ 115 ∷ 124 ∷ 37 ∷ 46 ∷ 115 ∷ 124 ∷ 0 ∷ []))

-- sprintf(d, "%.0s", s) with s dead: no cell of s is read for the request, and s is used behind the check
none_read : asks (prints.sprintf 1 0) (to 1 0 ∷ to 0 0 ∷ to 3 0 ∷ []) (format_none ∷ blank 1 ∷ []) ≡ Ok true
none_read = refl

none_printed : call (prints.sprintf 1 1) (to 1 0 ∷ to 0 0 ∷ to 3 0 ∷ []) (format_none ∷ blank 1 ∷ []) ≡ Err (Undefined kind.DeadObject)
none_printed = refl

-- printf("%s%s", s, t) with s uninitialised and t dead
strings_at_once : call (prints.printf 2) (to 0 0 ∷ to 1 0 ∷ to 3 0 ∷ []) (format_two ∷ blank 2 ∷ []) ≡ Err (Undefined kind.DeadObject)
strings_at_once = refl

-- printf("%.2s|%.s|", "abc", null)
cut_off : call (prints.printf 2) (to 0 0 ∷ to 1 0 ∷ nowhere ∷ []) (format_cut ∷ literal (Byte 97 ∷ Byte 98 ∷ Byte 99 ∷ Byte 0 ∷ []) ∷ [])
    ≡ Ok (answer (format_cut ∷ literal (Byte 97 ∷ Byte 98 ∷ Byte 99 ∷ Byte 0 ∷ []) ∷ []) (showing quiet 1 (97 ∷ 98 ∷ 124 ∷ 124 ∷ [])) (Count 4))
cut_off = refl
