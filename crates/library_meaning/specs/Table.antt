-- The library's rows that move bytes, each beside its function (C11 7.24, POSIX, glibc). `size` is the destination's size for a
-- checked form (glibc's `__memcpy_chk` and its kin), and 2^64 - 1 for the plain form, which no request exceeds. Operands are
-- numbered from 0. What is read to learn the request comes first, then the check, then the rest. The row of a function without a
-- checked form begins with a check that never exceeds.
use Rattle.std.specs.Prelude.{ℕ, ◌+◌, ◌-◌, ◌^◌, ◌%◌, Bool, true, false, ◌||◌, List, [], ◌∷◌, ◌++◌, length, take, drop, replicate, min, Option, None, Some, eqb, ltb, if◌then◌else◌}
use Rattle.library_meaning.specs.Scan.{Found, Pair}
use Rattle.library_meaning.specs.Rows.{Row, Gives, Check, Ask, Text, Bytes, Both, Point, Touch, Apart, Store, Show, Take, Stretch, stretch, Touched, These, Cells, Given, Count, Behind, Forgot, Nowhere}

-- no limit, as an operand has no larger number. As a result it is -1
abbrev pub no_limit : ℕ
no_limit = 18446744073709551615

abbrev pub minus_one : Given
minus_one = Count no_limit

abbrev pub writes : ℕ → ℕ → ℕ → Touched
writes i k n = record { written = true; at = stretch i k n }

abbrev pub nul : ℕ → Bool
nul byte = eqb byte 0

-- the request against the size
abbrev pub within : ℕ → ℕ → Row → Row
within size request next = Check (ltb size request) next

-- a scan that found no byte that stops it within the destination's size exceeds
abbrev pub ended : Found → Row → Row
ended f next = elim f.stop [ None ↦ Check true (Gives Nowhere) | Some byte ↦ next ]

-- how many cells a scan has read
abbrev pub cells_read : Found → ℕ
cells_read f = elim f.stop [ None ↦ length f.before | Some byte ↦ length f.before + 1 ]

-- the pointers of a call that copies, and those of them that it touches: both, both where a count is not 0, or the second where
-- it is not 0
abbrev pub pointers : List ℕ
pointers = 0 ∷ 1 ∷ []

abbrev pub both_for : ℕ → List ℕ
both_for n = if eqb n 0 then [] else pointers

abbrev pub second_for : ℕ → List ℕ
second_for n = if eqb n 0 then 0 ∷ [] else pointers

-- bytes that were made from what was read are stored behind operand 0; `strict` is for prints
abbrev pub putting : Bool → ℕ → List ℕ → List Stretch → Row → Row
putting strict k bytes from next = Apart strict (stretch 0 k (length bytes)) from (Store 0 k (These bytes) next)

-- memcpy(d, s, n): C11 7.24.2.1, `__memcpy_chk`
abbrev pub memcpy : ℕ → Row
memcpy size =
    Ask 2 (λ n. within size n
    (Apart false (stretch 0 0 n) (stretch 1 0 n ∷ []) (Store 0 0 (Cells (stretch 1 0 n)) (Gives (Behind 0 0)))))

-- memmove(d, s, n): C11 7.24.2.2, `__memmove_chk`; overlap is allowed
abbrev pub memmove : ℕ → Row
memmove size = Ask 2 (λ n. within size n (Store 0 0 (Cells (stretch 1 0 n)) (Gives (Behind 0 0))))

-- mempcpy(d, s, n): glibc, `__mempcpy_chk`
abbrev pub mempcpy : ℕ → Row
mempcpy size =
    Ask 2 (λ n. within size n
    (Apart false (stretch 0 0 n) (stretch 1 0 n ∷ []) (Store 0 0 (Cells (stretch 1 0 n)) (Gives (Forgot 0 n)))))

-- memset(d, c, n): C11 7.24.6.1, `__memset_chk`
abbrev pub memset : ℕ → Row
memset size = Ask 1 (λ c. Ask 2 (λ n. within size n (Store 0 0 (These (replicate n (c % 256))) (Gives (Behind 0 0)))))

-- bzero(d, n), explicit_bzero(d, n): glibc, `__explicit_bzero_chk`
abbrev pub bzero : ℕ → Row
bzero size = Ask 1 (λ n. within size n (Store 0 0 (These (replicate n 0)) (Gives (Count 0))))

-- -1, 0 or 1 by the first unequal bytes, as unsigned characters (C11 7.24.4)
abbrev pub order : ℕ → ℕ → ℕ
order a b = if ltb a b then no_limit else (if ltb b a then 1 else 0)

abbrev pub order_of : List ℕ → List ℕ → ℕ
order_of [] ys = 0
order_of (x ∷ xs) [] = 0
order_of (x ∷ xs) (y ∷ ys) = if eqb x y then order_of xs ys else order x y

-- memcmp(a, b, n): C11 7.24.4.1
abbrev pub memcmp : Row
memcmp =
    Check false (Ask 2 (λ n. Bytes (stretch 0 0 n ∷ stretch 1 0 n ∷ []) (λ bytes.
    Gives (Count (order_of (take n bytes) (drop n bytes))))))

-- the place of a byte that a scan looked for
abbrev pub place_of : ℕ → Found → Given
place_of wanted f = elim f.stop [ None ↦ Nowhere | Some byte ↦ (if eqb byte wanted then Forgot 0 (length f.before) else Nowhere) ]

-- strchr(s, c): C11 7.24.5.2
abbrev pub strchr : Row
strchr =
    Check false (Ask 1 (λ c. Text (λ byte. eqb byte 0 || eqb byte (c % 256)) (stretch 0 0 no_limit) (λ f.
    Gives (place_of (c % 256) f))))

-- strlen(s): C11 7.24.6.3
abbrev pub strlen : Row
strlen = Check false (Text nul (stretch 0 0 no_limit) (λ f. Gives (Count (length f.before))))

-- strcmp(a, b): C11 7.24.4.2
abbrev pub strcmp : Row
strcmp = Check false (Both 0 1 (λ p. Gives (Count (order p.left p.right))))

-- strcpy(d, s): C11 7.24.2.3, `__strcpy_chk`; stpcpy(d, s): POSIX, `__stpcpy_chk`
abbrev pub strcpy_giving : (ℕ → Given) → ℕ → Row
strcpy_giving given size =
    Text nul (stretch 1 0 size) (λ s. ended s (Check false (Point pointers pointers
    (putting false 0 (s.before ++ 0 ∷ []) (stretch 1 0 (cells_read s) ∷ []) (Gives (given (length s.before)))))))

abbrev pub strcpy : ℕ → Row
strcpy size = strcpy_giving (λ k. Behind 0 0) size

abbrev pub stpcpy : ℕ → Row
stpcpy size = strcpy_giving (λ k. Forgot 0 k) size

-- strncpy(d, s, n): C11 7.24.2.4, `__strncpy_chk`
abbrev pub strncpy : ℕ → Row
strncpy size =
    Ask 2 (λ n. within size n (Point pointers (both_for n) (Text nul (stretch 1 0 n) (λ s.
    putting false 0 (s.before ++ replicate (n - length s.before) 0) (stretch 1 0 (cells_read s) ∷ []) (Gives (Behind 0 0))))))

-- s behind the first k bytes of d, at most `most` bytes of it, and a NUL
abbrev pub appended : List ℕ → ℕ → ℕ → ℕ → Row
appended touched size k most =
    Text nul (stretch 1 0 most) (λ s. within size (k + length s.before + 1) (Point pointers touched
    (putting false k (s.before ++ 0 ∷ []) (stretch 1 0 (cells_read s) ∷ []) (Gives (Behind 0 0)))))

-- strcat(d, s): C11 7.24.3.1, `__strcat_chk`; strncat(d, s, n): C11 7.24.3.2, `__strncat_chk`. What is read of d doesn't count
-- for overlap
abbrev pub strcat : ℕ → Row
strcat size = Text nul (stretch 0 0 size) (λ d. ended d (appended pointers size (length d.before) (size - length d.before)))

abbrev pub strncat : ℕ → Row
strncat size =
    Ask 2 (λ n. Text nul (stretch 0 0 size) (λ d.
    ended d (appended (second_for n) size (length d.before) (min n (size - length d.before)))))

-- an argument or a result of type int: its low 32 bits
abbrev pub int_of : ℕ → ℕ
int_of n = n % 2 ^ 32

-- puts(s): C11 7.21.7.9
abbrev pub puts : Row
puts =
    Check false (Text nul (stretch 0 0 no_limit) (λ s.
    Show 1 (s.before ++ 10 ∷ []) (Gives (Count (int_of (length s.before + 1))))))

-- putchar(c): C11 7.21.7.8
abbrev pub putchar : Row
putchar = Check false (Ask 0 (λ c. Show 1 (c % 256 ∷ []) (Gives (Count (c % 256)))))

-- the byte that was got, or -1 at the end
abbrev pub got : List ℕ → Given
got [] = minus_one
got (byte ∷ rest) = Count byte

-- getchar(): C11 7.21.7.6
abbrev pub getchar : Row
getchar = Check false (Take 1 (λ bytes. Gives (got bytes)))

-- read(fd, d, n): POSIX, `__read_chk`. All n bytes must be there before any is taken. Another descriptor gives -1
abbrev pub read_from_input : ℕ → Row
read_from_input n = Touch (writes 1 0 n ∷ []) (Take n (λ bytes. Store 1 0 (These bytes) (Gives (Count (length bytes)))))

abbrev pub read : ℕ → Row
read size =
    Ask 2 (λ n. within size n (Ask 0 (λ fd. if eqb (int_of fd) 0
    then read_from_input n
    else Point (1 ∷ []) [] (Gives minus_one))))

-- write(fd, s, n): POSIX. Another descriptor than 1 and 2 gives -1
abbrev pub write_on : ℕ → Row
write_on descriptor = Ask 2 (λ n. Bytes (stretch 1 0 n ∷ []) (λ bytes. Show descriptor bytes (Gives (Count n))))

abbrev pub write : Row
write =
    Check false (Ask 0 (λ fd. if eqb (int_of fd) 1 || eqb (int_of fd) 2
    then write_on (int_of fd)
    else Point (1 ∷ []) [] (Gives minus_one)))
