-- What holds of each row of the library, a line a row.
use Rattle.std.proofs.Common.{◌≡◌, ℕ, Bool, true, false, ◌||◌, eqb, List, [], ◌∷◌, length, Option, None, Some, refl}
use Rattle.std.specs.Prelude.{◌==◌, if◌then◌else◌}
use Rattle.library_meaning.specs.Rows.{Row, Check, Gives, Stretch, Given, Count, Behind, Forgot, Nowhere}
use Rattle.library_meaning.specs.Prints.{cut_into, operands, printed}
use Rattle.library_meaning.specs.Properties.{OfEachRow, NeverChecks, ChecksOnce, NothingRequested, PointsFirst, PointersFirst, EndsGiving, IsForgotten, PointersGiven}
use Rattle.library_meaning.specs.Scan.{Found}
use Rattle.library_meaning.specs.Table.{ended, int_of, place_of}
use Rattle.library_meaning.proofs.Ended.{ended_keeps}
use Rattle.library_meaning.proofs.Printed.{if_keeps, printed_keeps}

-- ---- checks

ended_once : (f : Found) (next : Row) → ChecksOnce next → ChecksOnce (ended f next)
ended_once f next h = ended_keeps ChecksOnce f next tt h

never_printed : (next : List ℕ → List Stretch → Row) → ((text : List ℕ) (from : List Stretch) → NeverChecks (next text from))
    → (passed i : ℕ) (also : List ℕ × List ℕ) → NeverChecks (printed passed i also next)
never_printed = printed_keeps NeverChecks tt (λ i next h. h) (λ stops from next h. h) (λ pointers touched next h. h)

pub checks_once : OfEachRow ChecksOnce
checks_once = record {
  memcpy = λ size n. tt;
  memmove = λ size n. tt;
  mempcpy = λ size n. tt;
  memset = λ size c n. tt;
  bzero = λ size n. tt;
  memcmp = λ n bs. tt;
  strcpy = λ size f. ended_once f _ tt;
  stpcpy = λ size f. ended_once f _ tt;
  strncpy = λ size n f. tt;
  strcat = λ size d. ended_once d _ (λ f. tt);
  strncat = λ size n d. ended_once d _ (λ f. tt);
  strlen = λ f. tt;
  strcmp = λ p. tt;
  strchr = λ c f. tt;
  printf = λ passed. never_printed _ (λ text from. tt) passed 0 _;
  puts = λ f. tt;
  putchar = λ c. tt;
  dprintf = λ passed fd. if_keeps NeverChecks ((int_of fd == 1) || (int_of fd == 2)) _ _ (never_printed _ (λ text from. tt) passed 1 _) tt;
  sprintf = λ passed size.
      printed_keeps ChecksOnce tt (λ i next h. h) (λ stops from next h. h) (λ pointers touched next h. h) _ (λ text from. tt) passed 1 _;
  snprintf = λ passed size n. never_printed (cut_into n) (λ text from. if_keeps NeverChecks (n == 0) _ _ tt tt) passed 2 _;
  read = λ size n fd. if_keeps NeverChecks (eqb (int_of fd) 0) _ _ (λ bs. tt) tt;
  write = λ fd. if_keeps NeverChecks (eqb (int_of fd) 1 || eqb (int_of fd) 2) _ _ (λ n bs. tt) tt;
  getchar = λ bs. tt;
}

pub nothing_requested : NothingRequested
nothing_requested = record {
  memcmp = refl;
  strlen = refl;
  strcmp = refl;
  strchr = refl;
  printf = λ passed. refl;
  puts = refl;
  putchar = refl;
  dprintf = λ passed. refl;
  write = refl;
  getchar = refl;
}

-- ---- the order behind the check

ended_first : (all : List ℕ) (f : Found) (next : Row) → PointsFirst all next → PointsFirst all (ended f next)
ended_first all f next h = ended_keeps (PointsFirst all) f next (λ e. absurd (cc)) h

pub pointers_first : PointersFirst
pointers_first = record {
  strcpy = λ size f. ended_first _ f _ (λ e. refl);
  stpcpy = λ size f. ended_first _ f _ (λ e. refl);
  strncpy = λ size n e. refl;
  strcat = λ size d. ended_first _ d _ (λ f e. refl);
  strncat = λ size n d. ended_first _ d _ (λ f e. refl);
  sprintf = λ passed size.
      printed_keeps (PointsFirst (0 ∷ operands 2 passed)) tt (λ i next h. h) (λ stops from next h. h) (λ pointers touched next h. h) _
      (λ text from e. refl) passed 1 _;
}

-- ---- results

ended_gives : (P : Given → Type 0) (f : Found) (next : Row) → EndsGiving P next → EndsGiving P (ended f next)
ended_gives P f next h = ended_keeps (EndsGiving P) f next (λ e. absurd (cc)) h

found_forgotten : (wanted : ℕ) (f : Found) → IsForgotten (place_of wanted f)
found_forgotten wanted f = go f.stop
  where
    test : (t : Bool) (k : ℕ) → IsForgotten (if t then Forgot 0 k else Nowhere)
    test true k = refl
    test false k = tt

    go : (o : Option ℕ) → IsForgotten (elim o [ None ↦ Nowhere | Some b ↦ (if eqb b wanted then Forgot 0 (length f.before) else Nowhere) ])
    go None = tt
    go (Some b) = test (eqb b wanted) (length f.before)

pub pointers_given : PointersGiven
pointers_given = record {
  memcpy = λ size n e. refl;
  memmove = λ size n e. refl;
  memset = λ size c n e. refl;
  strcpy = λ size f. ended_gives _ f _ (λ e. refl);
  strncpy = λ size n e f. refl;
  strcat = λ size d. ended_gives _ d _ (λ f e. refl);
  strncat = λ size n d. ended_gives _ d _ (λ f e. refl);
  mempcpy = λ size n e. refl;
  stpcpy = λ size f. ended_gives _ f _ (λ e. refl);
  strchr = λ e c f. found_forgotten _ f;
}
