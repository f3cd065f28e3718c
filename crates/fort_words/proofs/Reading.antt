-- The command of some words is the one whose words they are; and how the code reads it, where it is served.
use Rattle.std.proofs.Common.{◌≡◌, ◌≢◌, ℕ, ◌<◌, ◌≤◌, ◌^◌, ◌+◌, ◌&&◌, Bool, true, false, not, nat_le, cond, IsTrue, is_none, List, [], ◌∷◌}
use Rattle.std.proofs.Common.{◌++◌, length, drop, slice_get, append_assoc, Option, None, Some, unwrap_or, ◌⊎◌, inl, inr, codes, decimal}
use Rattle.std.proofs.Common.{refl, sym, ◌∙◌, ap, subst, arith}
use Rattle.std.specs.Bool.{⊤}
use Rattle.std.specs.Option.{option_map}
use Rattle.std.specs.Str.{bytes_eq}
use Rattle.std.specs.Str.Parse.{digits_value}
use Rattle.std.proofs.lemmas.Bool.{and_parts, and_from, leb-true, le-leb, false_from_ne_true, not_from_false, not-true}
use Rattle.std.proofs.lemmas.List.{drop_more}
use Rattle.std.proofs.lemmas.List.Sums.{sum_by-cons}
use Rattle.std.proofs.lemmas.Option.{slice_get_within, unwrap_or-slice_get}
use Rattle.std.proofs.lemmas.Fmt.{digits_decimal, digits_value-decimal}
use Rattle.std.proofs.lemmas.Slice.Eq.{bytes_eq-Decides}
use Rattle.std.proofs.lemmas.Str.Parse.{IsNumeralModel}
use Rattle.std.specs.Str.Parse.{AllDigits}
use Rattle.fc_base.specs.declared.levels.Level.{Level}
use Rattle.fc_base.specs.declared.levels.Level.TheVariants as levels
use Rattle.run_meaning.specs.Worlds.{arguments_size, most_arguments}
use Rattle.fort_words.specs.Commands.{Options, Command, Build, Exec, Run, Sites, Mean, Gen, level_words, sizes_words, steps_words}
use Rattle.fort_words.specs.Commands.{options_words, args_words, run_words, words_of, is_name, most_steps, last_source, StepsFit, ArgsFit}
use Rattle.fort_words.specs.Commands.{StepsAlone, IsCommand, Means, number_of, level_of_word, optional, option_read, flag_read}
use Rattle.fort_words.specs.Commands.{level_read, sizes_read, steps_read, options_read, steps_alone, name_read, names_read, args_read}
use Rattle.fort_words.specs.Commands.{end_read, number_read, build_read, exec_read, run_read, sites_read, mean_read, gen_read, command_of}
use Rattle.fort_words.specs.Commands.{CommandIsItsWords, is_built, if_built, served, only_steps}

-- ---- words and names

same : (a b : List ℕ) → bytes_eq a b ≡ true → a ≡ b
same a b = (bytes_eq-Decides a b).0

equal : (a : List ℕ) → bytes_eq a a ≡ true
equal a = (bytes_eq-Decides a a).1 refl

differ : (a b : List ℕ) → a ≢ b → bytes_eq a b ≡ false
differ a b ne = false_from_ne_true (bytes_eq a b) (λ e. ne (same a b e))

-- a name is no option
no_option : (name rest : List ℕ) → is_name name ≡ true → bytes_eq name (45 ∷ rest) ≡ false
no_option [] rest e = absurd (cc)
no_option (byte ∷ bytes) rest e = differ (byte ∷ bytes) (45 ∷ rest) (λ is. grind arith)

-- ---- numbers

numerals : IsNumeralModel (AllDigits 10) (digits_value 10)
numerals = record { to = λ ds all. all; from = λ ds all. all; same = λ ds all. refl }

number_sound : (low high : ℕ) (word : List ℕ) (n : ℕ) → number_of low high word ≡ Some n → (word ≡ decimal n) × (low ≤ n) × (n ≤ high)
number_sound low high word n e = go (digits_value 10 word) _ refl e where
  go : (m : ℕ) (t : Bool) → (bytes_eq word (decimal m) && (nat_le low m && nat_le m high)) ≡ t → cond t (Some m) None ≡ Some n
      → (word ≡ decimal n) × (low ≤ n) × (n ≤ high)
  go m false test e = absurd (cc)
  go m true test e =
      let is : m ≡ n = cc in
      let p = and_parts _ _ test in
      let q = and_parts _ _ p.1 in
      subst (λ k. (word ≡ decimal k) × (low ≤ k) × (k ≤ high)) is (same word (decimal m) p.0, leb-true low m q.0, leb-true m high q.1)

number_there : (low high n : ℕ) → n < 2 ^ 64 → low ≤ n → n ≤ high → number_of low high (decimal n) ≡ Some n
number_there low high n small least most =
    let value : digits_value 10 (decimal n) ≡ n = digits_value-decimal numerals n small in
    let test = and_from _ _ (equal (decimal n)) (and_from _ _ (le-leb low n least) (le-leb n high most)) in
    ap (λ m. cond (bytes_eq (decimal n) (decimal m) && (nat_le low m && nat_le m high)) (Some m) None) value
    ∙ ap (λ t. cond t (Some n) None) test

-- ---- options, with the spelling of their values

abbrev option_words : {A : Type 0} → List ℕ → (A → List ℕ) → Option A → List (List ℕ)
option_words name spell None = []
option_words name spell (Some value) = name ∷ spell value ∷ []

-- the words don't begin with this one
abbrev OtherThan : List ℕ → List (List ℕ) → Type 0
OtherThan name [] = ⊤
OtherThan name (word ∷ words) = bytes_eq word name ≡ false

module _ {A : Type 0} (name : List ℕ) (read : List ℕ → Option A) (spell : A → List ℕ) where
  option_sound : ((word : List ℕ) (value : A) → read word ≡ Some value → word ≡ spell value) → (words : List (List ℕ))
      → words ≡ option_words name spell (option_read name read words).0 ++ (option_read name read words).1
  option_sound spells [] = refl
  option_sound spells (word ∷ []) = refl
  option_sound spells (word ∷ given ∷ rest) = go (bytes_eq word name) refl (read given) refl where
    go : (t : Bool) → bytes_eq word name ≡ t → (o : Option A) → read given ≡ o
        → word ∷ given ∷ rest ≡ option_words name spell (cond t (optional (word ∷ given ∷ rest) rest o) (None, word ∷ given ∷ rest)).0
        ++ (cond t (optional (word ∷ given ∷ rest) rest o) (None, word ∷ given ∷ rest)).1
    go false test o is = refl
    go true test None is = refl
    go true test (Some value) is = ap (λ w. w ∷ given ∷ rest) (same word name test) ∙ ap (λ w. name ∷ w ∷ rest) (spells given value is)

  option_keeps : (P : A → Type 0) → ((word : List ℕ) (value : A) → read word ≡ Some value → P value) → (words : List (List ℕ)) (value : A)
      → (option_read name read words).0 ≡ Some value → P value
  option_keeps P keeps [] value e = absurd (cc)
  option_keeps P keeps (word ∷ []) value e = absurd (cc)
  option_keeps P keeps (word ∷ given ∷ rest) value e = go (bytes_eq word name) (read given) refl e where
    go : (t : Bool) (o : Option A) → read given ≡ o
        → (cond t (optional (word ∷ given ∷ rest) rest o) (None, word ∷ given ∷ rest)).0 ≡ Some value → P value
    go false o is e = absurd (cc)
    go true None is e = absurd (cc)
    go true (Some other) is e = let one : other ≡ value = cc in keeps given value (is ∙ ap Some one)

  option_there : (o : Option A) (rest : List (List ℕ)) → ((value : A) → o ≡ Some value → read (spell value) ≡ Some value)
      → (o ≡ None → OtherThan name rest)
      → option_read name read (option_words name spell o ++ rest) ≡ (o, rest)
  option_there None [] reads other = refl
  option_there None (word ∷ []) reads other = refl
  option_there None (word ∷ given ∷ rest) reads other = rw (other refl) refl
  option_there (Some value) rest reads other = rw (equal name, reads value refl) refl

abbrev flag_words : List ℕ → Bool → List (List ℕ)
flag_words name false = []
flag_words name true = name ∷ []

abbrev flag_cut : Bool → List ℕ → List (List ℕ) → Bool × List (List ℕ)
flag_cut t word rest = cond t (true, rest) (false, word ∷ rest)

flag_sound : (name : List ℕ) (words : List (List ℕ)) → words ≡ flag_words name (flag_read name words).0 ++ (flag_read name words).1
flag_sound name [] = refl
flag_sound name (word ∷ rest) = go (bytes_eq word name) refl where
  go : (t : Bool) → bytes_eq word name ≡ t → word ∷ rest ≡ flag_words name (flag_cut t word rest).0 ++ (flag_cut t word rest).1
  go false test = refl
  go true test = ap (λ w. w ∷ rest) (same word name test)

flag_there : (name : List ℕ) (t : Bool) (rest : List (List ℕ)) → (t ≡ false → OtherThan name rest)
    → flag_read name (flag_words name t ++ rest) ≡ (t, rest)
flag_there name true rest other = rw (equal name) refl
flag_there name false [] other = refl
flag_there name false (word ∷ rest) other = rw (other refl) refl

-- ---- the options of the command line

abbrev level_spelled : Level → List ℕ
level_spelled levels.Zero = codes "0"
level_spelled levels.Three = codes "3"

level_as : (o : Option Level) → option_words (codes "--level") level_spelled o ≡ level_words o
level_as None = refl
level_as (Some levels.Zero) = refl
level_as (Some levels.Three) = refl

steps_as : (o : Option ℕ) → option_words (codes "--steps") decimal o ≡ steps_words o
steps_as None = refl
steps_as (Some n) = refl

sizes_as : (t : Bool) → flag_words (codes "--sizes") t ≡ sizes_words t
sizes_as false = refl
sizes_as true = refl

run_as : (t : Bool) → flag_words (codes "--run") t ≡ run_words t
run_as false = refl
run_as true = refl

level_spells : (word : List ℕ) (value : Level) → level_of_word word ≡ Some value → word ≡ level_spelled value
level_spells word value e = go (bytes_eq word (codes "0")) (bytes_eq word (codes "3")) refl refl e where
  go : (s t : Bool) → bytes_eq word (codes "0") ≡ s → bytes_eq word (codes "3") ≡ t
      → cond s (Some levels.Zero) (cond t (Some levels.Three) None) ≡ Some value
      → word ≡ level_spelled value
  go true t zero three e = let is : levels.Zero ≡ value = cc in same word (codes "0") zero ∙ ap level_spelled is
  go false true zero three e = let is : levels.Three ≡ value = cc in same word (codes "3") three ∙ ap level_spelled is
  go false false zero three e = absurd (cc)

level_reads : (value : Level) → level_of_word (level_spelled value) ≡ Some value
level_reads levels.Zero = refl
level_reads levels.Three = refl

level_sound : (words : List (List ℕ)) → words ≡ level_words (level_read words).0 ++ (level_read words).1
level_sound words =
    option_sound (codes "--level") level_of_word level_spelled level_spells words
    ∙ ap (λ w. w ++ (level_read words).1) (level_as (level_read words).0)

steps_sound : (words : List (List ℕ)) → words ≡ steps_words (steps_read words).0 ++ (steps_read words).1
steps_sound words =
    option_sound (codes "--steps") (number_of 1 most_steps) decimal (λ word n e. (number_sound 1 most_steps word n e).0) words
    ∙ ap (λ w. w ++ (steps_read words).1) (steps_as (steps_read words).0)

steps_keep : (words : List (List ℕ)) → StepsFit (steps_read words).0
steps_keep words = go (steps_read words).0 refl where
  go : (o : Option ℕ) → (steps_read words).0 ≡ o → StepsFit o
  go None is = tt
  go (Some n) is =
      option_keeps (codes "--steps") (number_of 1 most_steps) decimal (λ k. (1 ≤ k) × (k ≤ most_steps))
      (λ word k e. let found = number_sound 1 most_steps word k e in (found.1, found.2)) words n is

sizes_sound : (words : List (List ℕ)) → words ≡ sizes_words (sizes_read words).0 ++ (sizes_read words).1
sizes_sound words = flag_sound (codes "--sizes") words ∙ ap (λ w. w ++ (sizes_read words).1) (sizes_as (sizes_read words).0)

level_there : (o : Option Level) (rest : List (List ℕ)) → OtherThan (codes "--level") rest → level_read (level_words o ++ rest) ≡ (o, rest)
level_there o rest other =
    ap (λ w. level_read (w ++ rest)) (sym (level_as o))
    ∙ option_there (codes "--level") level_of_word level_spelled o rest (λ value _. level_reads value) (λ _. other)

steps_there : (o : Option ℕ) (rest : List (List ℕ)) → StepsFit o → OtherThan (codes "--steps") rest
    → steps_read (steps_words o ++ rest) ≡ (o, rest)
steps_there o rest fit other =
    ap (λ w. steps_read (w ++ rest)) (sym (steps_as o))
    ∙ option_there (codes "--steps") (number_of 1 most_steps) decimal o rest
    (λ n is. let fits = subst StepsFit is fit in number_there 1 most_steps n (omega arith) fits.0 fits.1) (λ _. other)

sizes_there : (t : Bool) (rest : List (List ℕ)) → OtherThan (codes "--sizes") rest → sizes_read (sizes_words t ++ rest) ≡ (t, rest)
sizes_there t rest other = ap (λ w. sizes_read (w ++ rest)) (sym (sizes_as t)) ∙ flag_there (codes "--sizes") t rest (λ _. other)

joined : (a b c rest : List (List ℕ)) → (a ++ (b ++ c)) ++ rest ≡ a ++ (b ++ (c ++ rest))
joined a b c rest = simp append_assoc

options_sound : (words : List (List ℕ)) → words ≡ options_words (options_read words).0 ++ (options_read words).1
options_sound words =
    let level = level_read words in
    let sizes = sizes_read level.1 in
    let steps = steps_read sizes.1 in
    level_sound words
    ∙ (ap (λ w. level_words level.0 ++ w) (sizes_sound level.1 ∙ ap (λ w. sizes_words sizes.0 ++ w) (steps_sound sizes.1))
    ∙ sym (joined (level_words level.0) (sizes_words sizes.0) (steps_words steps.0) steps.1))

options_keep : (words : List (List ℕ)) → StepsFit (options_read words).0.steps
options_keep words = steps_keep (sizes_read (level_read words).1).1

abbrev given : Option Level → Bool → Option ℕ × List (List ℕ) → Options × List (List ℕ)
given level sizes steps = (record { level = level; sizes = sizes; steps = steps.0 }, steps.1)

-- a name stands behind them
options_there : (options : Options) (name : List ℕ) (more : List (List ℕ)) → StepsFit options.steps → IsTrue (is_name name)
    → options_read (options_words options ++ name ∷ more) ≡ (options, name ∷ more)
options_there options name more fit ok =
    let rest = name ∷ more in
    ap options_read (joined (level_words options.level) (sizes_words options.sizes) (steps_words options.steps) rest)
    ∙ (ap (λ l. let z = sizes_read l.1 in given l.0 z.0 (steps_read z.1))
    (level_there options.level (sizes_words options.sizes ++ (steps_words options.steps ++ rest)) (by_sizes options.sizes options.steps))
    ∙ (ap (λ z. given options.level z.0 (steps_read z.1))
    (sizes_there options.sizes (steps_words options.steps ++ rest) (by_steps options.steps))
    ∙ ap (given options.level options.sizes) (steps_there options.steps rest fit (no_option name _ ok)))) where
      by_steps : (o : Option ℕ) → OtherThan (codes "--sizes") (steps_words o ++ name ∷ more)
      by_steps None = no_option name _ ok
      by_steps (Some n) = refl

      by_sizes : (t : Bool) (o : Option ℕ) → OtherThan (codes "--level") (sizes_words t ++ (steps_words o ++ name ∷ more))
      by_sizes true o = refl
      by_sizes false None = no_option name _ ok
      by_sizes false (Some n) = refl

-- which of them a command takes
none_there : {A : Type 0} (o : Option A) → is_none o ≡ true → o ≡ None
none_there None is = refl
none_there (Some value) is = absurd (cc)

none_is : {A : Type 0} (o : Option A) → o ≡ None → is_none o ≡ true
none_is o is = ap is_none is

steps_alone_sound : (options : Options) → steps_alone options ≡ true → StepsAlone options
steps_alone_sound options test = let p = and_parts _ _ test in (none_there options.level p.0, not-true options.sizes p.1)

steps_alone_there : (options : Options) → StepsAlone options → steps_alone options ≡ true
steps_alone_there options alone = and_from _ _ (none_is options.level alone.0) (not_from_false options.sizes alone.1)

-- a test that was passed
passed : (t : Bool) (o : Option Command) (command : Command) → cond t o None ≡ Some command → (t ≡ true) × (o ≡ Some command)
passed false o command e = absurd (cc)
passed true o command e = (refl, e)

-- ---- what stands behind them

args_sound : (made : Option (List (List ℕ)) → Command) (words : List (List ℕ)) (command : Command) → args_read made words ≡ Some command
    → (args : Option (List (List ℕ))) × (words ≡ args_words args) × (made args ≡ command) × ArgsFit args
args_sound made [] command e = (None, refl, cc, tt)
args_sound made (word ∷ args) command e = go (bytes_eq word (codes "--") && nat_le (arguments_size args) most_arguments) refl e where
  go : (t : Bool) → (bytes_eq word (codes "--") && nat_le (arguments_size args) most_arguments) ≡ t
      → cond t (Some (made (Some args))) None ≡ Some command
      → (some : Option (List (List ℕ))) × (word ∷ args ≡ args_words some) × (made some ≡ command) × ArgsFit some
  go false test e = absurd (cc)
  go true test e =
      let p = and_parts _ _ test in
      (Some args, ap (λ w. w ∷ args) (same word (codes "--") p.0), cc, leb-true (arguments_size args) most_arguments p.1)

args_there : (made : Option (List (List ℕ)) → Command) (args : Option (List (List ℕ))) → ArgsFit args
    → args_read made (args_words args) ≡ Some (made args)
args_there made None fit = refl
args_there made (Some args) fit = rw (le-leb (arguments_size args) most_arguments fit) refl

end_sound : (made command : Command) (words : List (List ℕ)) → end_read made words ≡ Some command → (words ≡ []) × (made ≡ command)
end_sound made command [] e = (refl, cc)
end_sound made command (word ∷ words) e = absurd (cc)

name_sound : (next : List ℕ → List (List ℕ) → Option Command) (words : List (List ℕ)) (command : Command)
    → name_read next words ≡ Some command
    → (name : List ℕ) × (rest : List (List ℕ)) × (words ≡ name ∷ rest) × IsTrue (is_name name) × (next name rest ≡ Some command)
name_sound next [] command e = absurd (cc)
name_sound next (name ∷ rest) command e = go (is_name name) refl e where
  go : (t : Bool) → is_name name ≡ t → cond t (next name rest) None ≡ Some command
      → (one : List ℕ) × (more : List (List ℕ)) × (name ∷ rest ≡ one ∷ more) × IsTrue (is_name one) × (next one more ≡ Some command)
  go false test e = absurd (cc)
  go true test e = (name, rest, refl, test, e)

names_sound : (next : List ℕ → List ℕ → List (List ℕ) → Option Command) (words : List (List ℕ)) (command : Command)
    → names_read next words ≡ Some command
    → (file image : List ℕ) × (rest : List (List ℕ)) × (words ≡ file ∷ image ∷ rest)
    × (IsTrue (is_name file) × IsTrue (is_name image) × (file ≢ image)) × (next file image rest ≡ Some command)
names_sound next [] command e = absurd (cc)
names_sound next (file ∷ []) command e = absurd (cc)
names_sound next (file ∷ image ∷ rest) command e = go (is_name file && (is_name image && not (bytes_eq file image))) refl e where
  go : (t : Bool) → (is_name file && (is_name image && not (bytes_eq file image))) ≡ t → cond t (next file image rest) None ≡ Some command
      → (one two : List ℕ) × (more : List (List ℕ)) × (file ∷ image ∷ rest ≡ one ∷ two ∷ more)
      × (IsTrue (is_name one) × IsTrue (is_name two) × (one ≢ two)) × (next one two more ≡ Some command)
  go false test e = absurd (cc)
  go true test e =
      let p = and_parts _ _ test in
      let q = and_parts _ _ p.1 in
      let other : bytes_eq file image ≡ false = not-true (bytes_eq file image) q.1 in
      (file, image, rest, refl, (p.0, q.0, λ is. let yes = (bytes_eq-Decides file image).1 is in absurd (cc)), e)

names_there : (next : List ℕ → List ℕ → List (List ℕ) → Option Command) (file image : List ℕ) (rest : List (List ℕ))
    → IsTrue (is_name file) → IsTrue (is_name image) → file ≢ image → names_read next (file ∷ image ∷ rest) ≡ next file image rest
names_there next file image rest one two other = rw (and_from _ _ one (and_from _ _ two (not_from_false _ (differ file image other)))) refl

-- ---- each verb

run_there : (options : Options) (file image : List ℕ) (args : Option (List (List ℕ))) → IsCommand (Run options file image args)
    → run_read (options_words options ++ file ∷ image ∷ args_words args) ≡ Some (Run options file image args)
run_there options file image args ok =
    ap (λ o. names_read (λ f i. args_read (Run o.0 f i)) o.1) (options_there options file (image ∷ args_words args) ok.0 ok.1)
    ∙ (names_there (λ f i. args_read (Run options f i)) file image (args_words args) ok.1 ok.2 ok.3
    ∙ args_there (Run options file image) args ok.4)

build_there : (options : Options) (file image : List ℕ) → IsCommand (Build options file image)
    → build_read (options_words options ++ file ∷ image ∷ []) ≡ Some (Build options file image)
build_there options file image ok =
    ap (λ o. cond (is_none o.0.steps) (names_read (λ f i. end_read (Build o.0 f i)) o.1) None)
    (options_there options file (image ∷ []) (subst StepsFit (sym ok.0) tt) ok.1)
    ∙ (ap (λ t. cond t (names_read (λ f i. end_read (Build options f i)) (file ∷ image ∷ [])) None) (none_is options.steps ok.0)
    ∙ names_there (λ f i. end_read (Build options f i)) file image [] ok.1 ok.2 ok.3)

named_there : (made : Options → List ℕ → Option (List (List ℕ)) → Command) (options : Options) (name : List ℕ)
    (args : Option (List (List ℕ)))
    → StepsAlone options → StepsFit options.steps → IsTrue (is_name name) → ArgsFit args
    → (let o = options_read (options_words options ++ name ∷ args_words args) in cond (steps_alone o.0)
    (name_read (λ n. args_read (made o.0 n)) o.1) None)
    ≡ Some (made options name args)
named_there made options name args alone fit ok all =
    ap (λ o. cond (steps_alone o.0) (name_read (λ n. args_read (made o.0 n)) o.1) None)
    (options_there options name (args_words args) fit ok)
    ∙ (ap (λ t. cond t (name_read (λ n. args_read (made options n)) (name ∷ args_words args)) None) (steps_alone_there options alone)
    ∙ (ap (λ t. cond t (args_read (made options name) (args_words args)) None) ok ∙ args_there (made options name) args all))

dashes : AllDigits 10 (codes "--run") → ⊥
dashes all = omega arith

gen_there : (run : Bool) (number : ℕ) → IsCommand (Gen run number) → gen_read (run_words run ++ decimal number ∷ []) ≡ Some (Gen run number)
gen_there run number ok =
    let read : flag_read (codes "--run") (run_words run ++ decimal number ∷ []) ≡ (run, decimal number ∷ []) =
    ap (λ w. flag_read (codes "--run") (w ++ decimal number ∷ [])) (sym (run_as run))
    ∙ flag_there (codes "--run") run (decimal number ∷ []) (λ _. no_digits number ok) in
    ap (λ r. number_read (Gen r.0) r.1) read ∙ ap (option_map (Gen run)) (number_there 1 last_source number (omega arith) ok.0 ok.1) where
      no_digits : (n : ℕ) → (1 ≤ n) × (n ≤ last_source) → bytes_eq (decimal n) (codes "--run") ≡ false
      no_digits n in_bounds =
          differ (decimal n) (codes "--run") (λ is. dashes (subst (AllDigits 10) is (digits_decimal numerals n (omega arith))))

-- ---- and only then

build_sound : (words : List (List ℕ)) (command : Command) → build_read words ≡ Some command → Means (codes "build" ∷ words) command
build_sound words command e =
    let options = options_read words in
    let takes = passed (is_none options.0.steps) _ command e in
    let named = names_sound (λ f i. end_read (Build options.0 f i)) options.1 command takes.1 in
    let file = named.0 in
    let image = named.1 in
    let ended = end_sound (Build options.0 file image) command named.2 named.5 in
    let last : options.1 ≡ file ∷ image ∷ [] = named.3 ∙ ap (λ rest. file ∷ image ∷ rest) ended.0 in
    subst (Means (codes "build" ∷ words)) ended.1 (record {
      kept = (none_there options.0.steps takes.0, named.4.0, named.4.1, named.4.2);
      spelled = ap (λ w. codes "build" ∷ w) (options_sound words ∙ ap (λ w. options_words options.0 ++ w) last);
    })

run_sound : (words : List (List ℕ)) (command : Command) → run_read words ≡ Some command → Means (codes "run" ∷ words) command
run_sound words command e =
    let options = options_read words in
    let named = names_sound (λ f i. args_read (Run options.0 f i)) options.1 command e in
    let file = named.0 in
    let image = named.1 in
    let given = args_sound (Run options.0 file image) named.2 command named.5 in
    let last : options.1 ≡ file ∷ image ∷ args_words given.0 = named.3 ∙ ap (λ rest. file ∷ image ∷ rest) given.1 in
    subst (Means (codes "run" ∷ words)) given.2 (record {
      kept = (options_keep words, named.4.0, named.4.1, named.4.2, given.3);
      spelled = ap (λ w. codes "run" ∷ w) (options_sound words ∙ ap (λ w. options_words options.0 ++ w) last);
    })

named_sound : (made : Options → List ℕ → Option (List (List ℕ)) → Command) (words : List (List ℕ)) (command : Command)
    → (let o = options_read words in cond (steps_alone o.0) (name_read (λ n. args_read (made o.0 n)) o.1) None) ≡ Some command
    → (options : Options) × (name : List ℕ) × (args : Option (List (List ℕ))) × (words ≡ options_words options ++ name ∷ args_words args)
    × (made options name args ≡ command) × StepsAlone options × StepsFit options.steps × IsTrue (is_name name) × ArgsFit args
named_sound made words command e =
    let options = options_read words in
    let takes = passed (steps_alone options.0) _ command e in
    let named = name_sound (λ n. args_read (made options.0 n)) options.1 command takes.1 in
    let given = args_sound (made options.0 named.0) named.1 command named.4 in
    let last : options.1 ≡ named.0 ∷ args_words given.0 = named.2 ∙ ap (λ rest. named.0 ∷ rest) given.1 in (
      options.0,
      named.0,
      given.0,
      options_sound words
          ∙ ap (λ w. options_words options.0 ++ w) last,
      given.2,
      steps_alone_sound options.0 takes.0,
      options_keep words,
      named.3,
      given.3,
    )

exec_sound : (words : List (List ℕ)) (command : Command) → exec_read words ≡ Some command → Means (codes "exec" ∷ words) command
exec_sound words command e =
    let parts = named_sound Exec words command e in
    subst (Means (codes "exec" ∷ words)) parts.4
    (record { kept = (parts.5, parts.6, parts.7, parts.8); spelled = ap (λ w. codes "exec" ∷ w) parts.3 })

mean_sound : (words : List (List ℕ)) (command : Command) → mean_read words ≡ Some command → Means (codes "mean" ∷ words) command
mean_sound words command e =
    let parts = named_sound Mean words command e in
    subst (Means (codes "mean" ∷ words)) parts.4
    (record { kept = (parts.5, parts.6, parts.7, parts.8); spelled = ap (λ w. codes "mean" ∷ w) parts.3 })

sites_sound : (words : List (List ℕ)) (command : Command) → sites_read words ≡ Some command → Means (codes "sites" ∷ words) command
sites_sound words command e =
    let named = name_sound (λ f. end_read (Sites f)) words command e in
    let ended = end_sound (Sites named.0) command named.1 named.4 in
    subst (Means (codes "sites" ∷ words)) ended.1
    (record { kept = named.3; spelled = ap (λ w. codes "sites" ∷ w) (named.2 ∙ ap (λ rest. named.0 ∷ rest) ended.0) })

gen_sound : (words : List (List ℕ)) (command : Command) → gen_read words ≡ Some command → Means (codes "gen" ∷ words) command
gen_sound words command e = go (flag_read (codes "--run") words) (flag_sound (codes "--run") words) e where
  go : (r : Bool × List (List ℕ)) → words ≡ flag_words (codes "--run") r.0 ++ r.1 → number_read (Gen r.0) r.1 ≡ Some command
      → Means (codes "gen" ∷ words) command
  go (run, []) is e = absurd (cc)
  go (run, word ∷ []) is e = numbered (number_of 1 last_source word) refl e where
    numbered : (o : Option ℕ) → number_of 1 last_source word ≡ o → option_map (Gen run) o ≡ Some command
        → Means (codes "gen" ∷ words) command
    numbered None found e = absurd (cc)
    numbered (Some n) found e =
        let made : Gen run n ≡ command = cc in
        let parts = number_sound 1 last_source word n found in
        subst (Means (codes "gen" ∷ words)) made (record {
          kept = (parts.1, parts.2);
          spelled = ap (λ w. codes "gen" ∷ w) (is ∙ (ap (λ f. f ++ word ∷ []) (run_as run) ∙ ap (λ w. run_words run ++ w ∷ []) parts.0));
        })
  go (run, word ∷ more ∷ rest) is e = absurd (cc)

-- ---- the law

there : (command : Command) → IsCommand command → command_of (words_of command) ≡ Some command
there (Build options file image) ok = build_there options file image ok
there (Exec options image args) ok = named_there Exec options image args ok.0 ok.1 ok.2 ok.3
there (Run options file image args) ok = run_there options file image args ok
there (Sites file) ok = ap (λ t. cond t (Some (Sites file)) None) ok
there (Mean options file args) ok = named_there Mean options file args ok.0 ok.1 ok.2 ok.3
there (Gen run number) ok = gen_there run number ok

verbed : {verb known : List ℕ} (rest : List (List ℕ)) (command : Command) → bytes_eq verb known ≡ true → Means (known ∷ rest) command
    → Means (verb ∷ rest) command
verbed {verb = verb} {known = known} rest command test means = subst (λ v. Means (v ∷ rest) command) (sym (same verb known test)) means

sound : (words : List (List ℕ)) (command : Command) → command_of words ≡ Some command → Means words command
sound [] command e = absurd (cc)
sound (verb ∷ rest) command e =
    go (bytes_eq verb (codes "build")) (bytes_eq verb (codes "exec")) (bytes_eq verb (codes "run")) (bytes_eq verb (codes "sites"))
    (bytes_eq verb (codes "mean"))
    (bytes_eq verb (codes "gen")) refl refl refl refl refl refl e where
      go : (b x r s m g : Bool) → bytes_eq verb (codes "build") ≡ b → bytes_eq verb (codes "exec") ≡ x → bytes_eq verb (codes "run") ≡ r
          → bytes_eq verb (codes "sites") ≡ s → bytes_eq verb (codes "mean") ≡ m → bytes_eq verb (codes "gen") ≡ g
          → cond b (build_read rest)
          (cond x (exec_read rest)
          (cond r (run_read rest) (cond s (sites_read rest) (cond m (mean_read rest) (cond g (gen_read rest) None)))))
          ≡ Some command → Means (verb ∷ rest) command
      go true x r s m g b' x' r' s' m' g' e = verbed rest command b' (build_sound rest command e)
      go false true r s m g b' x' r' s' m' g' e = verbed rest command x' (exec_sound rest command e)
      go false false true s m g b' x' r' s' m' g' e = verbed rest command r' (run_sound rest command e)
      go false false false true m g b' x' r' s' m' g' e = verbed rest command s' (sites_sound rest command e)
      go false false false false true g b' x' r' s' m' g' e = verbed rest command m' (mean_sound rest command e)
      go false false false false false true b' x' r' s' m' g' e = verbed rest command g' (gen_sound rest command e)
      go false false false false false false b' x' r' s' m' g' e = absurd (cc)

pub is_its_words : CommandIsItsWords
is_its_words words command =
    (λ e. sound words command e, λ means. ap command_of means.spelled ∙ there command means.kept)

-- ---- the command that is served

-- the options that the words begin with are a bound on steps alone
abbrev StepsOnly : List (List ℕ) → Type 0
StepsOnly words = options_read words ≡ (only_steps (steps_read words).0, (steps_read words).1)

-- another option stands there, which is no bound on steps and no name
record OtherOption (words : List (List ℕ)) : Type 0 where
  pub other : steps_alone (options_read words).0 ≡ false
  pub no_steps : steps_read words ≡ (None, words)
  pub word : List ℕ
  pub rest : List (List ℕ)
  pub stands : words ≡ word ∷ rest
  pub no_name : is_name word ≡ false

no_steps_behind : (word : List ℕ) (rest : List (List ℕ)) → bytes_eq word (codes "--steps") ≡ false
    → steps_read (word ∷ rest) ≡ (None, word ∷ rest)
no_steps_behind word [] other = refl
no_steps_behind word (value ∷ rest) other = rw other refl

by_options : (words : List (List ℕ)) → StepsOnly words ⊎ OtherOption words
by_options words = by_level (level_read words).0 refl where
  by_sizes : (t : Bool) → (sizes_read (level_read words).1).0 ≡ t → (level_read words).0 ≡ None → words ≡ (level_read words).1
      → StepsOnly words ⊎ OtherOption words
  by_sizes true is none same =
      let rest = (sizes_read (level_read words).1).1 in
      let stands : words ≡ codes "--sizes" ∷ rest = same ∙ (sizes_sound (level_read words).1 ∙ ap (λ t. sizes_words t ++ rest) is) in
      inr (record {
        other = ap (λ t. is_none (level_read words).0 && not t) is ∙ ap (λ o. is_none o && false) none;
        no_steps = subst (λ w. steps_read w ≡ (None, w)) (sym stands) (no_steps_behind (codes "--sizes") rest refl);
        word = codes "--sizes";
        rest = rest;
        stands = stands;
        no_name = refl;
      })
  by_sizes false is none same =
      let sizes = sizes_read (level_read words).1 in
      let rest : sizes.1 ≡ words = sym (same ∙ (sizes_sound (level_read words).1 ∙ ap (λ t. sizes_words t ++ sizes.1) is)) in
      inl
      (ap (λ l. given l sizes.0 (steps_read sizes.1)) none
      ∙ (ap (λ z. given None z (steps_read sizes.1)) is ∙ ap (λ w. given None false (steps_read w)) rest))

  by_level : (o : Option Level) → (level_read words).0 ≡ o → StepsOnly words ⊎ OtherOption words
  by_level None is =
      by_sizes (sizes_read (level_read words).1).0 refl is (level_sound words ∙ ap (λ o. level_words o ++ (level_read words).1) is)
  by_level (Some level) is =
      let rest = level_spelled level ∷ (level_read words).1 in
      let stands : words ≡ codes "--level" ∷ rest =
      level_sound words
      ∙ (ap (λ o. level_words o ++ (level_read words).1) is ∙ ap (λ w. w ++ (level_read words).1) (sym (level_as (Some level)))) in
      inr (record {
        other = ap (λ o. is_none o && not (options_read words).0.sizes) is;
        no_steps = subst (λ w. steps_read w ≡ (None, w)) (sym stands) (no_steps_behind (codes "--level") rest refl);
        word = codes "--level";
        rest = rest;
        stands = stands;
        no_name = refl;
      })

-- a command is kept or not by one test, wherever it is read
either_way : (t : Bool) (o : Option Command) → o ≡ cond t o o
either_way true o = refl
either_way false o = refl

built_args : (made : Option (List (List ℕ)) → Command) (t : Bool) → ((args : Option (List (List ℕ))) → is_built (made args) ≡ t)
    → (words : List (List ℕ))
    → if_built (args_read made words) ≡ cond t (args_read made words) None
built_args made t is [] = ap (λ b. cond b (Some (made None)) None) (is None)
built_args made t is (word ∷ args) = go (bytes_eq word (codes "--") && nat_le (arguments_size args) most_arguments) where
  go : (b : Bool) → if_built (cond b (Some (made (Some args))) None) ≡ cond t (cond b (Some (made (Some args))) None) None
  go false = either_way t None
  go true = ap (λ b. cond b (Some (made (Some args))) None) (is (Some args))

built_name : (next : List ℕ → List (List ℕ) → Option Command) (t : Bool)
    → ((name : List ℕ) (rest : List (List ℕ)) → if_built (next name rest) ≡ cond t (next name rest) None)
    → (words : List (List ℕ)) → if_built (name_read next words) ≡ cond t (name_read next words) None
built_name next t is [] = either_way t None
built_name next t is (name ∷ rest) = go (is_name name) where
  go : (b : Bool) → if_built (cond b (next name rest) None) ≡ cond t (cond b (next name rest) None) None
  go false = either_way t None
  go true = is name rest

built_names : (next : List ℕ → List ℕ → List (List ℕ) → Option Command) (t : Bool)
    → ((file image : List ℕ) (rest : List (List ℕ)) → if_built (next file image rest) ≡ cond t (next file image rest) None)
    → (words : List (List ℕ)) → if_built (names_read next words) ≡ cond t (names_read next words) None
built_names next t is [] = either_way t None
built_names next t is (file ∷ []) = either_way t None
built_names next t is (file ∷ image ∷ rest) = go (is_name file && (is_name image && not (bytes_eq file image))) where
  go : (b : Bool) → if_built (cond b (next file image rest) None) ≡ cond t (cond b (next file image rest) None) None
  go false = either_way t None
  go true = is file image rest

-- `exec` and `run` as they are read with a bound on steps alone
abbrev exec_behind : Option ℕ → List (List ℕ) → Option Command
exec_behind steps rest = name_read (λ image. args_read (Exec (only_steps steps) image)) rest

abbrev run_behind : Option ℕ → List (List ℕ) → Option Command
run_behind steps rest = names_read (λ file image. args_read (Run (only_steps steps) file image)) rest

exec_by_steps : (words : List (List ℕ)) → if_built (exec_read words) ≡ exec_behind (steps_read words).0 (steps_read words).1
exec_by_steps words = go (by_options words) where
  go : StepsOnly words ⊎ OtherOption words → if_built (exec_read words) ≡ exec_behind (steps_read words).0 (steps_read words).1
  go (inl only) =
      let steps = (steps_read words).0 in
      ap (λ o. if_built (cond (steps_alone o.0) (name_read (λ image. args_read (Exec o.0 image)) o.1) None)) only
      ∙ built_name (λ image. args_read (Exec (only_steps steps) image)) true
      (λ image. built_args (Exec (only_steps steps) image) true (λ args. refl)) (steps_read words).1
  go (inr o) =
      ap (λ t. if_built (cond t (name_read (λ image. args_read (Exec (options_read words).0 image)) (options_read words).1) None)) o.other
      ∙ sym
      (ap (λ s. exec_behind s.0 s.1) o.no_steps
      ∙ (ap (exec_behind None) o.stands ∙ ap (λ t. cond t (args_read (Exec (only_steps None) o.word) o.rest) None) o.no_name))

run_by_steps : (words : List (List ℕ)) → if_built (run_read words) ≡ run_behind (steps_read words).0 (steps_read words).1
run_by_steps words = go (by_options words) where
  unnamed : (next : List ℕ → List ℕ → List (List ℕ) → Option Command) (word : List ℕ) (rest : List (List ℕ)) → is_name word ≡ false
      → names_read next (word ∷ rest) ≡ None
  unnamed next word [] test = refl
  unnamed next word (image ∷ rest) test = rw test refl

  go : StepsOnly words ⊎ OtherOption words → if_built (run_read words) ≡ run_behind (steps_read words).0 (steps_read words).1
  go (inl only) =
      let steps = (steps_read words).0 in
      ap (λ o. if_built (names_read (λ file image. args_read (Run o.0 file image)) o.1)) only
      ∙ built_names (λ file image. args_read (Run (only_steps steps) file image)) true
      (λ file image. built_args (Run (only_steps steps) file image) true (λ args. refl)) (steps_read words).1
  go (inr o) =
      let options = (options_read words).0 in
      built_names (λ file image. args_read (Run options file image)) false
      (λ file image. built_args (Run options file image) false (λ args. o.other)) (options_read words).1
      ∙ sym
      (ap (λ s. run_behind s.0 s.1) o.no_steps
      ∙ (ap (run_behind None) o.stands
      ∙ unnamed (λ file image. args_read (Run (only_steps None) file image)) o.word o.rest o.no_name))

-- what stands behind the bound, as the code finds it
pub exec_named : (words rest more : List (List ℕ)) (steps : Option ℕ) (image : List ℕ) → steps ≡ (steps_read words).0
    → rest ≡ (steps_read words).1
    → is_name image ≡ true → rest ≡ image ∷ more → args_read (Exec (only_steps steps) image) more ≡ if_built (exec_read words)
exec_named words rest more steps image same behind named stands =
    sym (exec_by_steps words ∙ (ap (λ s. exec_behind s (steps_read words).1) (sym same) ∙ (ap (exec_behind steps) (sym behind ∙ stands)
    ∙ ap (λ t. cond t (args_read (Exec (only_steps steps) image) more) None) named)))

pub exec_unnamed : (words rest : List (List ℕ)) → rest ≡ (steps_read words).1
    → ((next : List ℕ → List (List ℕ) → Option Command) → name_read next rest ≡ None)
    → None ≡ if_built (exec_read words)
exec_unnamed words rest behind none = sym (exec_by_steps words ∙ (ap (exec_behind (steps_read words).0) (sym behind) ∙ none _))

pub run_named : (words rest more : List (List ℕ)) (steps : Option ℕ) (file image : List ℕ) → steps ≡ (steps_read words).0
    → rest ≡ (steps_read words).1
    → ((next : List ℕ → List ℕ → List (List ℕ) → Option Command) → names_read next rest ≡ next file image more)
    → args_read (Run (only_steps steps) file image) more ≡ if_built (run_read words)
run_named words rest more steps file image same behind named =
    sym (run_by_steps words ∙ (ap (λ s. run_behind s (steps_read words).1) (sym same) ∙ (ap (run_behind steps) (sym behind) ∙ named _)))

pub run_unnamed : (words rest : List (List ℕ)) → rest ≡ (steps_read words).1
    → ((next : List ℕ → List ℕ → List (List ℕ) → Option Command) → names_read next rest ≡ None)
    → None ≡ if_built (run_read words)
run_unnamed words rest behind none = sym (run_by_steps words ∙ (ap (run_behind (steps_read words).0) (sym behind) ∙ none _))

-- no command of another verb is built
pub other_verb : (verb : List ℕ) (rest : List (List ℕ)) → verb ≢ codes "exec" → verb ≢ codes "run" → served (verb ∷ rest) ≡ None
other_verb verb rest no_exec no_run = go (command_of (verb ∷ rest)) refl where
  first : {a b : List ℕ} {xs ys : List (List ℕ)} → a ∷ xs ≡ b ∷ ys → a ≡ b
  first same = cc

  go : (o : Option Command) → command_of (verb ∷ rest) ≡ o → if_built o ≡ None
  go None is = refl
  go (Some (Exec options image args)) is = let means = sound (verb ∷ rest) _ is in absurd (no_exec (first means.spelled))
  go (Some (Run options file image args)) is = let means = sound (verb ∷ rest) _ is in absurd (no_run (first means.spelled))
  go (Some _) is = refl

-- ---- the words, as the code looks at them

-- one word more counts its room
pub room_more : (words : List (List ℕ)) (at : ℕ) (word : List ℕ) → drop at words ≡ word ∷ drop (at + 1) words
    → arguments_size (drop at words) ≡ (length word + 32) + arguments_size (drop (at + 1) words)
room_more words at word stands = ap arguments_size stands ∙ sum_by-cons (λ w. length w + 32) word (drop (at + 1) words)

-- the word at a place stands before those behind it
pub at_place : (words : List (List ℕ)) (at : ℕ) (word : List ℕ) → slice_get words at ≡ Some word
    → drop at words ≡ word ∷ drop (at + 1) words
at_place words at word is =
    drop_more words at word (slice_get_within words at word is)
    ∙ ap (λ w. w ∷ drop (at + 1) words) (sym (unwrap_or-slice_get words at word) ∙ ap (λ o. unwrap_or o word) is)

-- what a test of two texts says
pub texts_are : (a b : List ℕ) (t : Bool) → t ≡ not (bytes_eq a b) → t ≡ false → a ≡ b
texts_are a b t is test = go (bytes_eq a b) refl where
  go : (u : Bool) → bytes_eq a b ≡ u → a ≡ b
  go true u = same a b u
  go false u = absurd (cc)

pub texts_differ : (a b : List ℕ) (t : Bool) → t ≡ not (bytes_eq a b) → t ≡ true → a ≢ b
texts_differ a b t is test e = let u = equal_of a b e in absurd (cc) where
  equal_of : (a b : List ℕ) → a ≡ b → bytes_eq a b ≡ true
  equal_of a b = (bytes_eq-Decides a b).1

-- a number is read where its digits stand there, and only there
pub number_none : (low high : ℕ) (word : List ℕ) → ((n : ℕ) → low ≤ n → n ≤ high → word ≡ decimal n → ⊥) → None ≡ number_of low high word
number_none low high word other = go (number_of low high word) refl where
  go : (o : Option ℕ) → number_of low high word ≡ o → None ≡ o
  go None is = refl
  go (Some n) is = let found = number_sound low high word n is in absurd (other n found.1 found.2 found.0)

pub number_some : (low high n : ℕ) (word : List ℕ) → n < 2 ^ 64 → word ≡ decimal n → low ≤ n → n ≤ high → Some n ≡ number_of low high word
number_some low high n word small is least most = sym (ap (number_of low high) is ∙ number_there low high n small least most)

-- a bound on steps, at its place
pub no_steps_here : (words : List (List ℕ)) → words ≡ [] → None ≡ (steps_read words).0
no_steps_here words is = ap (λ w. (steps_read w).0) (sym is)

pub other_here : (words rest : List (List ℕ)) (word : List ℕ) → words ≡ word ∷ rest → word ≢ codes "--steps" → None ≡ (steps_read words).0
other_here words rest word is other =
    sym (ap (λ w. (steps_read w).0) is ∙ ap (λ s. s.0) (no_steps_behind word rest (differ word (codes "--steps") other)))

pub steps_alone_here : (words rest : List (List ℕ)) (word : List ℕ) → words ≡ word ∷ rest → word ≡ codes "--steps" → rest ≡ []
    → None ≡ (steps_read words).0
steps_alone_here words rest word is named last = rw (is, named, last) refl

pub steps_here : (words rest behind : List (List ℕ)) (word value : List ℕ) → words ≡ word ∷ rest → word ≡ codes "--steps"
    → rest ≡ value ∷ behind
    → number_of 1 most_steps value ≡ (steps_read words).0
steps_here words rest behind word value is named stands = rw (is, named, stands) (go (number_of 1 most_steps value)) where
  go : (o : Option ℕ) → o ≡ (optional (codes "--steps" ∷ value ∷ behind) behind o).0
  go None = refl
  go (Some n) = refl

-- what is left behind it
pub steps_left : (words : List (List ℕ)) (n : ℕ) → Some n ≡ (steps_read words).0 → drop 2 words ≡ (steps_read words).1
steps_left words n is = rw (ap (drop 2) (steps_sound words)) (rw (← is) refl)

pub nothing_left_out : (words : List (List ℕ)) → None ≡ (steps_read words).0 → words ≡ (steps_read words).1
nothing_left_out words is = steps_sound words ∙ ap (λ o. steps_words o ++ (steps_read words).1) (sym is)

-- a name at its place, and two
pub name_here : (words rest : List (List ℕ)) (word : List ℕ) → words ≡ word ∷ rest → false ≡ is_name word
    → (next : List ℕ → List (List ℕ) → Option Command) → name_read next words ≡ None
name_here words rest word is test next = ap (name_read next) is ∙ ap (λ t. cond t (next word rest) None) (sym test)

pub names_here : (words : List (List ℕ)) → ((next : List ℕ → List (List ℕ) → Option Command) → name_read next words ≡ None)
    → (next : List ℕ → List ℕ → List (List ℕ) → Option Command) → names_read next words ≡ None
names_here [] none next = refl
names_here (file ∷ []) none next = refl
names_here (file ∷ image ∷ rest) none next = go (is_name file) (none (λ name more. Some (Sites name))) where
  go : (t : Bool) → cond t (Some (Sites file)) None ≡ None
      → cond (t && (is_name image && not (bytes_eq file image))) (next file image rest) None ≡ None
  go true e = absurd (cc)
  go false e = refl

pub second_here : (words more : List (List ℕ)) (file : List ℕ) → words ≡ file ∷ more
    → ((next : List ℕ → List (List ℕ) → Option Command) → name_read next more ≡ None)
    → (next : List ℕ → List ℕ → List (List ℕ) → Option Command) → names_read next words ≡ None
second_here words more file is none next = ap (names_read next) is ∙ second more none where
  second : (more : List (List ℕ)) → ((next : List ℕ → List (List ℕ) → Option Command) → name_read next more ≡ None)
      → names_read next (file ∷ more) ≡ None
  second [] none = refl
  second (image ∷ rest) none = go (is_name image) (is_name file) (none (λ name more. Some (Sites name))) where
    go : (t u : Bool) → cond t (Some (Sites image)) None ≡ None
        → cond (u && (t && not (bytes_eq file image))) (next file image rest) None ≡ None
    go true u e = absurd (cc)
    go false true e = refl
    go false false e = refl

pub same_names : (words more rest : List (List ℕ)) (file image : List ℕ) → words ≡ file ∷ more → more ≡ image ∷ rest → file ≡ image
    → (next : List ℕ → List ℕ → List (List ℕ) → Option Command) → names_read next words ≡ None
same_names words more rest file image is then same next =
    ap (names_read next) (is ∙ ap (λ m. file ∷ m) then)
    ∙ go (is_name file) (is_name image) (bytes_eq file image) ((bytes_eq-Decides file image).1 same) where
      go : (t u v : Bool) → v ≡ true → cond (t && (u && not v)) (next file image rest) None ≡ None
      go true true true e = refl
      go false u v e = refl
      go true false v e = refl
      go true true false e = absurd (cc)

pub two_names : (words more rest : List (List ℕ)) (file image : List ℕ) → words ≡ file ∷ more → more ≡ image ∷ rest
    → IsTrue (is_name file) → IsTrue (is_name image)
    → file ≢ image → (next : List ℕ → List ℕ → List (List ℕ) → Option Command) → names_read next words ≡ next file image rest
two_names words more rest file image is then one two other next =
    ap (names_read next) (is ∙ ap (λ m. file ∷ m) then) ∙ names_there next file image rest one two other

-- arguments at their place
pub args_here : (words rest : List (List ℕ)) (word : List ℕ) (made : Option (List (List ℕ)) → Command) → words ≡ word ∷ rest
    → word ≡ codes "--"
    → true ≡ nat_le (arguments_size rest) most_arguments → args_read made words ≡ Some (made (Some rest))
args_here words rest word made is named fit = rw (is, named, ← fit) refl

pub args_over : (words rest : List (List ℕ)) (word : List ℕ) (made : Option (List (List ℕ)) → Command) → words ≡ word ∷ rest
    → false ≡ nat_le (arguments_size rest) most_arguments → args_read made words ≡ None
args_over words rest word made is over =
    ap (args_read made) is ∙ go (bytes_eq word (codes "--")) (nat_le (arguments_size rest) most_arguments) (sym over) where
      go : (t u : Bool) → u ≡ false → cond (t && u) (Some (made (Some rest))) None ≡ None
      go true true e = absurd (cc)
      go true false e = refl
      go false u e = refl

pub no_args_here : (words rest : List (List ℕ)) (word : List ℕ) (made : Option (List (List ℕ)) → Command) → words ≡ word ∷ rest
    → word ≢ codes "--"
    → args_read made words ≡ None
no_args_here words rest word made is other = rw (is, differ word (codes "--") other) refl
