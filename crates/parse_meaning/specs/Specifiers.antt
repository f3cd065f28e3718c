-- Which specifiers may stand together in one list (C11 6.7.1, 6.7.2 and 6.7.4).
use Rattle.std.specs.Prelude.{ℕ, ◌+◌, Bool, true, ◌&&◌, ◌||◌, ◌==◌, nat_le}

-- where a list of specifiers stands: in an external declaration or a member of its structures; in a parameter or a
-- type name; in a declaration of a block or of a `for`
pub data Context : Type 0 where
  outer inner block : Context

-- how often each kind of specifier stands in a list; `whole` counts the names of types, structures, unions and
-- enumerations
pub record Tally : Type 0 where
  pub typedef : ℕ
  pub extern : ℕ
  pub static : ℕ
  pub inline : ℕ
  pub whole : ℕ
  pub void : ℕ
  pub char : ℕ
  pub short : ℕ
  pub int : ℕ
  pub long : ℕ
  pub signed : ℕ
  pub unsigned : ℕ

abbrev pub nothing : Tally
nothing = record {
  typedef = 0;
  extern = 0;
  static = 0;
  inline = 0;
  whole = 0;
  void = 0;
  char = 0;
  short = 0;
  int = 0;
  long = 0;
  signed = 0;
  unsigned = 0;
}

abbrev pub whole_type : Tally
whole_type = record nothing { whole = 1 }

abbrev pub together : Tally → Tally → Tally
together a b = record {
  typedef = a.typedef + b.typedef;
  extern = a.extern + b.extern;
  static = a.static + b.static;
  inline = a.inline + b.inline;
  whole = a.whole + b.whole;
  void = a.void + b.void;
  char = a.char + b.char;
  short = a.short + b.short;
  int = a.int + b.int;
  long = a.long + b.long;
  signed = a.signed + b.signed;
  unsigned = a.unsigned + b.unsigned;
}

-- the words of basic types, in any order, that name a type (C11 6.7.2, paragraph 2, without the floating types):
-- `void`; `char`, with a sign or not; `short`, with `int` or a sign or not; `int`, `long`, `long long` or a sign alone,
-- with the others or not
abbrev pub has_sign : Tally → Bool
has_sign a = nat_le (a.signed + a.unsigned) 1

abbrev pub is_void : Tally → Bool
is_void a = (a.void == 1) && (a.char + a.short + a.int + a.long + a.signed + a.unsigned == 0)

abbrev pub is_char : Tally → Bool
is_char a = (a.char == 1) && (a.void + a.short + a.int + a.long == 0) && has_sign a

abbrev pub is_short : Tally → Bool
is_short a = (a.short == 1) && (a.void + a.char + a.long == 0) && nat_le a.int 1 && has_sign a

abbrev pub is_int : Tally → Bool
is_int a =
    (a.void + a.char + a.short == 0) && nat_le 1 (a.int + a.long + a.signed + a.unsigned)
    && nat_le a.int 1 && nat_le a.long 2 && has_sign a

abbrev pub is_combination : Tally → Bool
is_combination a = is_void a || is_char a || is_short a || is_int a

abbrev pub has_no_words : Tally → Bool
has_no_words a = a.void + a.char + a.short + a.int + a.long + a.signed + a.unsigned == 0

-- exactly one type (C11 6.7.2, paragraph 2)
abbrev pub has_one_type : Tally → Bool
has_one_type a = ((a.whole == 0) && is_combination a) || ((a.whole == 1) && has_no_words a)

-- at most one storage class (C11 6.7.1, paragraph 2)
abbrev pub has_one_class : Tally → Bool
has_one_class a = nat_le (a.typedef + a.extern + a.static) 1

-- what else is left out, by the place of the list: this project's own
abbrev pub may_stand_in : Context → Tally → Bool
may_stand_in outer a = true
may_stand_in inner a = a.typedef == 0
may_stand_in block a = a.typedef + a.extern + a.inline == 0

abbrev pub may_stand : Context → Tally → Bool
may_stand c a = has_one_type a && has_one_class a && may_stand_in c a
