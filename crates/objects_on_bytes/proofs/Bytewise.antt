-- Each row of the table stores bytes where it reads bytes.
use Rattle.std.proofs.Common.{ℕ, zero, suc, ◌%◌, ◌<◌, Bool, List, [], ◌∷◌, ◌++◌, take, replicate, arith}
use Rattle.std.specs.Prelude.{if◌then◌else◌}
use Rattle.run_meaning.specs.Worlds.{AreBytes}
use Rattle.library_meaning.specs.Rows.{Row}
use Rattle.library_meaning.specs.Scan.{Found}
use Rattle.library_meaning.specs.Table.{ended}
use Rattle.library_meaning.proofs.Ended.{ended_keeps}
use Rattle.library_meaning.proofs.Printed.{if_keeps}
use Rattle.objects_on_bytes.specs.Rows.{IsBytewise}

pub bytes_append : (xs ys : List ℕ) → AreBytes xs → AreBytes ys → AreBytes (xs ++ ys)
bytes_append [] ys h k = k
bytes_append (x ∷ xs) ys h k = (h.0, bytes_append xs ys h.1 k)

pub bytes_replicate : (n b : ℕ) → b < 256 → AreBytes (replicate n b)
bytes_replicate zero b l = tt
bytes_replicate (suc n) b l = (l, bytes_replicate n b l)

pub bytes_take : (n : ℕ) (xs : List ℕ) → AreBytes xs → AreBytes (take n xs)
bytes_take zero xs h = tt
bytes_take (suc n) [] h = tt
bytes_take (suc n) (x ∷ xs) h = (h.0, bytes_take n xs h.1)

nul_byte : AreBytes (0 ∷ [])
nul_byte = (omega arith, tt)

pub if_bytewise : (t : Bool) (a b : Row) → IsBytewise a → IsBytewise b → IsBytewise (if t then a else b)
if_bytewise = if_keeps IsBytewise

pub ended_bytewise : (f : Found) (next : Row) → IsBytewise next → IsBytewise (ended f next)
ended_bytewise f next h = ended_keeps IsBytewise f next tt h

pub memset_bytewise : (c n : ℕ) → AreBytes (replicate n (c % 256))
memset_bytewise c n = bytes_replicate n (c % 256) (omega arith)

pub zeros_bytewise : (n : ℕ) → AreBytes (replicate n 0)
zeros_bytewise n = bytes_replicate n 0 (omega arith)

pub text_bytewise : (xs : List ℕ) → AreBytes xs → AreBytes (xs ++ 0 ∷ [])
text_bytewise xs h = bytes_append xs (0 ∷ []) h nul_byte

pub padded_bytewise : (xs : List ℕ) (n : ℕ) → AreBytes xs → AreBytes (xs ++ replicate n 0)
padded_bytewise xs n h = bytes_append xs (replicate n 0) h (zeros_bytewise n)
