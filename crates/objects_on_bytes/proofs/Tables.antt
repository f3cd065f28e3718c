-- Each row of the library stores bytes where it reads bytes.
use Rattle.std.proofs.Common.{ℕ, ◌-◌, ◌||◌, eqb, length}
use Rattle.std.specs.Prelude.{◌==◌}
use Rattle.library_meaning.specs.Rows.{Row}
use Rattle.library_meaning.specs.Prints.{cut_into}
use Rattle.library_meaning.specs.Properties.{OfEachRow}
use Rattle.library_meaning.specs.Table.{int_of}
use Rattle.objects_on_bytes.specs.Rows.{IsBytewise}
use Rattle.objects_on_bytes.proofs.Bytewise.{ended_bytewise, memset_bytewise, zeros_bytewise, text_bytewise, padded_bytewise, if_bytewise}
use Rattle.objects_on_bytes.proofs.Printing.{printed_bytewise, cut_bytewise}

pub bytewise : OfEachRow IsBytewise
bytewise = record {
  memcpy = λ size n. (tt, tt);
  memmove = λ size n. (tt, tt);
  mempcpy = λ size n. (tt, tt);
  memset = λ size c n. (memset_bytewise c n, tt);
  bzero = λ size n. (zeros_bytewise n, tt);
  memcmp = λ n bs h. tt;
  strcpy = λ size f h. ended_bytewise f _ (text_bytewise f.before h, tt);
  stpcpy = λ size f h. ended_bytewise f _ (text_bytewise f.before h, tt);
  strncpy = λ size n f h. (padded_bytewise f.before (n - length f.before) h, tt);
  strcat = λ size d g. ended_bytewise d _ (λ f h. (text_bytewise f.before h, tt));
  strncat = λ size n d g. ended_bytewise d _ (λ f h. (text_bytewise f.before h, tt));
  strlen = λ f h. tt;
  strcmp = λ p. tt;
  strchr = λ c f h. tt;
  printf = λ passed. printed_bytewise _ (λ text from h. tt) passed 0 _;
  puts = λ f h. tt;
  putchar = λ c. tt;
  dprintf = λ passed fd. if_bytewise ((int_of fd == 1) || (int_of fd == 2)) _ _ (printed_bytewise _ (λ text from h. tt) passed 1 _) tt;
  sprintf = λ passed size. printed_bytewise _ (λ text from h. (text_bytewise text h, tt)) passed 1 _;
  snprintf = λ passed size n. printed_bytewise (cut_into n) (cut_bytewise n) passed 2 _;
  read = λ size n fd. if_bytewise (eqb (int_of fd) 0) _ _ (λ bs h. (h, tt)) tt;
  write = λ fd. if_bytewise (eqb (int_of fd) 1 || eqb (int_of fd) 2) _ _ (λ n bs h. tt) tt;
  getchar = λ bs h. tt;
}

-- what follows from it
pub each_row : (P Q : Row → Type 0) → ((row : Row) → P row → Q row) → OfEachRow P → OfEachRow Q
each_row P Q f all = record {
  memcpy = λ size. f _ (all.memcpy size);
  memmove = λ size. f _ (all.memmove size);
  mempcpy = λ size. f _ (all.mempcpy size);
  memset = λ size. f _ (all.memset size);
  bzero = λ size. f _ (all.bzero size);
  memcmp = f _ all.memcmp;
  strcpy = λ size. f _ (all.strcpy size);
  stpcpy = λ size. f _ (all.stpcpy size);
  strncpy = λ size. f _ (all.strncpy size);
  strcat = λ size. f _ (all.strcat size);
  strncat = λ size. f _ (all.strncat size);
  strlen = f _ all.strlen;
  strcmp = f _ all.strcmp;
  strchr = f _ all.strchr;
  printf = λ passed. f _ (all.printf passed);
  puts = f _ all.puts;
  putchar = f _ all.putchar;
  dprintf = λ passed. f _ (all.dprintf passed);
  sprintf = λ passed size. f _ (all.sprintf passed size);
  snprintf = λ passed size. f _ (all.snprintf passed size);
  read = λ size. f _ (all.read size);
  write = f _ all.write;
  getchar = f _ all.getchar;
}
