-- What is stored behind a pointer, and when that is undefined, as code does it.
use Rattle.std.specs.Prelude.{ℕ, ◌+◌, true, false, List, [], ◌∷◌, ◌++◌, replicate, Result, Ok}
use Rattle.fc_base.specs.declared.undefined.UndefKind.{UndefKind}
use Rattle.library_meaning.specs.Scan.{and_then}
use Rattle.object_meaning.specs.Memory.{copy}
use Rattle.object_meaning.specs.Objects.{Object}
use Rattle.object_meaning.specs.Touches.{reads, tested, touch_tests, cells_at, put_at}
use Rattle.object_meaning.specs.declared.values.Cell.TheVariants.{Byte}
use Rattle.object_meaning.specs.declared.values.PtrValue.{PtrValue}
use Rattle.src_lib.specs.Reaches.{reach_of, apart_tests}
use Rattle.src_lib.specs.Texts.{cells_of}
use Rattle.src_lib.specs.declared.reaches.Reach.{Reach}
use Rattle.src_lib.specs.declared.texts.Text.{Text}

abbrev pub written_at : PtrValue → ℕ → ℕ → Reach
written_at v offset count = record { written = true; pointer = v; offset = offset; count = count }

abbrev pub read_at : PtrValue → ℕ → Reach
read_at v count = record { written = false; pointer = v; offset = 0; count = count }

-- so many of one byte
abbrev pub filled : List Object → PtrValue → ℕ → ℕ → Result (List Object) UndefKind
filled objs to byte count =
    tested (touch_tests objs (reach_of (written_at to 0 count) ∷ [])) (Ok (put_at objs to 0 (replicate count (Byte byte))))

-- cells as they are, which may not overlap
abbrev pub copied_apart : List Object → PtrValue → PtrValue → ℕ → Result (List Object) UndefKind
copied_apart objs to from count =
    and_then (tested (apart_tests objs (written_at to 0 count) (read_at from count)) (Ok (tt {0}))) (λ done. copy objs to from count)

-- the bytes of a text and so many zero bytes, apart from what was read of it
abbrev pub text_put : List Object → PtrValue → ℕ → PtrValue → Text → ℕ → Result (List Object) UndefKind
text_put objs to offset from t zeros =
    tested (apart_tests objs (written_at to offset (t.len + zeros)) (read_at from (cells_of t)))
    (Ok (put_at objs to offset (cells_at objs (reads from t.len) ++ replicate zeros (Byte 0))))
