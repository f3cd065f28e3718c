-- What rows are made of, whatever memory they run over: checks, the order of what is read, results. And what holds of each row of the
-- library, a line a row.
use Rattle.std.specs.Prelude.{◌≡◌, ℕ, Bool, false, List, [], ◌∷◌, ⊤}
use Rattle.library_meaning.specs.Prints as prints
use Rattle.library_meaning.specs.Prints.{operands}
use Rattle.library_meaning.specs.Rows.{Row, Gives, Malformed, Check, Ask, Text, Bytes, Both, Point, Touch, Apart, Store, Show, Take, Given, Count, Behind, Forgot, Nowhere}
use Rattle.library_meaning.specs.Scan.{Found, Pair}
use Rattle.library_meaning.specs.Table as table
use Rattle.library_meaning.specs.Table.{pointers}

-- whatever the destination's size, and however many arguments a print is passed
pub record OfEachRow (P : Row → Type 0) : Type 0 where
  pub memcpy : (size : ℕ) → P (table.memcpy size)
  pub memmove : (size : ℕ) → P (table.memmove size)
  pub mempcpy : (size : ℕ) → P (table.mempcpy size)
  pub memset : (size : ℕ) → P (table.memset size)
  pub bzero : (size : ℕ) → P (table.bzero size)
  pub memcmp : P table.memcmp
  pub strcpy : (size : ℕ) → P (table.strcpy size)
  pub stpcpy : (size : ℕ) → P (table.stpcpy size)
  pub strncpy : (size : ℕ) → P (table.strncpy size)
  pub strcat : (size : ℕ) → P (table.strcat size)
  pub strncat : (size : ℕ) → P (table.strncat size)
  pub strlen : P table.strlen
  pub strcmp : P table.strcmp
  pub strchr : P table.strchr
  pub printf : (passed : ℕ) → P (prints.printf passed)
  pub puts : P table.puts
  pub putchar : P table.putchar
  pub dprintf : (passed : ℕ) → P (prints.dprintf passed)
  pub sprintf : (passed size : ℕ) → P (prints.sprintf passed size)
  pub snprintf : (passed size : ℕ) → P (prints.snprintf passed size)
  pub read : (size : ℕ) → P (table.read size)
  pub write : P table.write
  pub getchar : P table.getchar

-- ---- checks

-- what is given where a row comes to no check, and what its check goes on with
abbrev pub Through : (Given → Type 0) → (Bool → Row → Type 0) → Row → Type 0
Through P C (Gives given) = P given
Through P C Malformed = ⊤
Through P C (Check exceeds next) = C exceeds next
Through P C (Ask i next) = (n : ℕ) → Through P C (next n)
Through P C (Text stops from next) = (f : Found) → Through P C (next f)
Through P C (Bytes from next) = (bytes : List ℕ) → Through P C (next bytes)
Through P C (Both a b next) = (p : Pair) → Through P C (next p)
Through P C (Point pointers touched next) = Through P C next
Through P C (Touch all next) = Through P C next
Through P C (Apart strict to from next) = Through P C next
Through P C (Store i k what next) = Through P C next
Through P C (Show descriptor bytes next) = Through P C next
Through P C (Take n next) = (bytes : List ℕ) → Through P C (next bytes)

abbrev pub NeverChecks : Row → Type 0
NeverChecks row = Through (λ given. ⊤) (λ exceeds next. ⊥) row

-- a row that comes to exactly one check unless it stops before, and does nothing before it but read
abbrev pub ChecksOnce : Row → Type 0
ChecksOnce (Gives given) = ⊥
ChecksOnce Malformed = ⊤
ChecksOnce (Check exceeds next) = NeverChecks next
ChecksOnce (Ask i next) = (n : ℕ) → ChecksOnce (next n)
ChecksOnce (Text stops from next) = (f : Found) → ChecksOnce (next f)
ChecksOnce (Bytes from next) = (bytes : List ℕ) → ChecksOnce (next bytes)
ChecksOnce (Both a b next) = (p : Pair) → ChecksOnce (next p)
ChecksOnce (Point pointers touched next) = ChecksOnce next
ChecksOnce (Touch all next) = ⊥
ChecksOnce (Apart strict to from next) = ⊥
ChecksOnce (Store i k what next) = ⊥
ChecksOnce (Show descriptor bytes next) = ⊥
ChecksOnce (Take n next) = ⊥

-- a call that requests nothing does not exceed, whatever it is handed
abbrev pub RequestsNothing : Row → Type 0
RequestsNothing (Check exceeds next) = exceeds ≡ false
RequestsNothing _ = ⊥

pub record NothingRequested : Type 0 where
  pub memcmp : RequestsNothing table.memcmp
  pub strlen : RequestsNothing table.strlen
  pub strcmp : RequestsNothing table.strcmp
  pub strchr : RequestsNothing table.strchr
  pub printf : (passed : ℕ) → RequestsNothing (prints.printf passed)
  pub puts : RequestsNothing table.puts
  pub putchar : RequestsNothing table.putchar
  pub dprintf : (passed : ℕ) → RequestsNothing (prints.dprintf passed)
  pub write : RequestsNothing table.write
  pub getchar : RequestsNothing table.getchar

-- ---- the order behind the check

-- the first act but for operands' numbers is a look at all of these pointers
abbrev pub Points : List ℕ → Row → Type 0
Points all (Ask i next) = (n : ℕ) → Points all (next n)
Points all (Point pointers touched next) = pointers ≡ all
Points all _ = ⊥

-- and that act comes first behind the check
abbrev pub PointsFirst : List ℕ → Row → Type 0
PointsFirst all row = Through (λ given. ⊥) (λ exceeds next. exceeds ≡ false → Points all next) row

-- the rows that read text for a second pointer
pub record PointersFirst : Type 0 where
  pub strcpy : (size : ℕ) → PointsFirst pointers (table.strcpy size)
  pub stpcpy : (size : ℕ) → PointsFirst pointers (table.stpcpy size)
  pub strncpy : (size : ℕ) → PointsFirst pointers (table.strncpy size)
  pub strcat : (size : ℕ) → PointsFirst pointers (table.strcat size)
  pub strncat : (size : ℕ) → PointsFirst pointers (table.strncat size)
  pub sprintf : (passed size : ℕ) → PointsFirst (0 ∷ operands 2 passed) (prints.sprintf passed size)

-- ---- results (C11 7.24, POSIX, glibc)

-- whatever a row gives behind its check is such
abbrev pub EndsGiving : (Given → Type 0) → Row → Type 0
EndsGiving P row = Through (λ given. ⊥) (λ exceeds next. exceeds ≡ false → Through P (λ again more. ⊥) next) row

-- the first argument, with what is known of it
abbrev pub GivesFirst : Row → Type 0
GivesFirst row = EndsGiving (λ given. given ≡ Behind 0 0) row

-- a place behind the first argument of which nothing is known, or null
abbrev pub IsForgotten : Given → Type 0
IsForgotten (Forgot i k) = i ≡ 0
IsForgotten Nowhere = ⊤
IsForgotten (Behind i k) = ⊥
IsForgotten (Count n) = ⊥

abbrev pub GivesForgotten : Row → Type 0
GivesForgotten row = EndsGiving IsForgotten row

pub record PointersGiven : Type 0 where
  pub memcpy : (size : ℕ) → GivesFirst (table.memcpy size)
  pub memmove : (size : ℕ) → GivesFirst (table.memmove size)
  pub memset : (size : ℕ) → GivesFirst (table.memset size)
  pub strcpy : (size : ℕ) → GivesFirst (table.strcpy size)
  pub strncpy : (size : ℕ) → GivesFirst (table.strncpy size)
  pub strcat : (size : ℕ) → GivesFirst (table.strcat size)
  pub strncat : (size : ℕ) → GivesFirst (table.strncat size)
  pub mempcpy : (size : ℕ) → GivesForgotten (table.mempcpy size)
  pub stpcpy : (size : ℕ) → GivesForgotten (table.stpcpy size)
  pub strchr : GivesForgotten table.strchr
