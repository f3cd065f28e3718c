-- The forms of the command line: the command that the words behind the program's name are. This project's own.
use Rattle.std.specs.Prelude.{◌≡◌, ◌≢◌, ◌↔◌, ℕ, ◌≤◌, ◌==◌, List, [], ◌∷◌, ◌++◌, Bool, true, false, not, ◌&&◌, nat_le, cond, is_none, IsTrue}
use Rattle.std.specs.Prelude.{Option, None, Some, unwrap_or, ⊤, drop, codes, decimal}
use Rattle.std.specs.Option.{option_map}
use Rattle.std.specs.Str.{bytes_eq}
use Rattle.std.specs.Str.Parse.{digits_value}
use Rattle.fc_base.specs.declared.levels.Level.{Level}
use Rattle.fc_base.specs.declared.levels.Level.TheVariants as levels
use Rattle.run_meaning.specs.Worlds.{ArgumentsFit, arguments_size, most_arguments}
use Rattle.fort_words.specs.declared.commands.Arguments.{Arguments}
use Rattle.fort_words.specs.declared.commands.ExecCommand.{ExecCommand}
use Rattle.fort_words.specs.declared.commands.RunCommand.{RunCommand}
use Rattle.fort_words.specs.declared.commands.Command.{Command as Given}
use Rattle.fort_words.specs.declared.commands.Command.TheVariants as given

-- the options of a command as they are written: none where one is left out
pub record Options : Type 0 where
  pub level : Option Level
  pub sizes : Bool
  pub steps : Option ℕ

abbrev pub no_options : Options
no_options = record { level = None; sizes = false; steps = None }

-- a command as it is written: none stands for program arguments without their `--`
pub data Command : Type 0 where
  Build : (options : Options) → (file image : List ℕ) → Command
  Exec : (options : Options) → (image : List ℕ) → (args : Option (List (List ℕ))) → Command
  Run : (options : Options) → (file image : List ℕ) → (args : Option (List (List ℕ))) → Command
  Sites : (file : List ℕ) → Command
  Mean : (options : Options) → (file : List ℕ) → (args : Option (List (List ℕ))) → Command
  Gen : (run : Bool) → (number : ℕ) → Command

-- ---- the words of a command

abbrev pub level_words : Option Level → List (List ℕ)
level_words None = []
level_words (Some levels.Zero) = codes "--level" ∷ codes "0" ∷ []
level_words (Some levels.Three) = codes "--level" ∷ codes "3" ∷ []

abbrev pub sizes_words : Bool → List (List ℕ)
sizes_words false = []
sizes_words true = codes "--sizes" ∷ []

abbrev pub steps_words : Option ℕ → List (List ℕ)
steps_words None = []
steps_words (Some n) = codes "--steps" ∷ decimal n ∷ []

-- the options before the names, in their fixed order
abbrev pub options_words : Options → List (List ℕ)
options_words options = level_words options.level ++ (sizes_words options.sizes ++ steps_words options.steps)

abbrev pub args_words : Option (List (List ℕ)) → List (List ℕ)
args_words None = []
args_words (Some args) = codes "--" ∷ args

abbrev pub run_words : Bool → List (List ℕ)
run_words false = []
run_words true = codes "--run" ∷ []

-- the words of a command, in their fixed order
abbrev pub words_of : Command → List (List ℕ)
words_of (Build options file image) = codes "build" ∷ (options_words options ++ file ∷ image ∷ [])
words_of (Exec options image args) = codes "exec" ∷ (options_words options ++ image ∷ args_words args)
words_of (Run options file image args) = codes "run" ∷ (options_words options ++ file ∷ image ∷ args_words args)
words_of (Sites file) = codes "sites" ∷ file ∷ []
words_of (Mean options file args) = codes "mean" ∷ (options_words options ++ file ∷ args_words args)
words_of (Gen run number) = codes "gen" ∷ (run_words run ++ decimal number ∷ [])

-- ---- what the parts of a command keep

-- a name of a file isn't empty and doesn't begin with `-`
abbrev pub is_name : List ℕ → Bool
is_name [] = false
is_name (byte ∷ bytes) = not (byte == 45)

-- the most steps that may be written, and the last large source
abbrev pub most_steps : ℕ
most_steps = 1099511627776

abbrev pub last_source : ℕ
last_source = 500

-- a bound on steps is within its limits, where it is written
abbrev pub StepsFit : Option ℕ → Type 0
StepsFit None = ⊤
StepsFit (Some n) = (1 ≤ n) × (n ≤ most_steps)

abbrev pub ArgsFit : Option (List (List ℕ)) → Type 0
ArgsFit None = ⊤
ArgsFit (Some args) = ArgumentsFit args

-- `build` takes no bound on steps; `exec` and `mean` take nothing else
abbrev pub BuildTakes : Options → Type 0
BuildTakes options = options.steps ≡ None

abbrev pub StepsAlone : Options → Type 0
StepsAlone options = (options.level ≡ None) × (options.sizes ≡ false)

abbrev pub IsCommand : Command → Type 0
IsCommand (Build options file image) = BuildTakes options × IsTrue (is_name file) × IsTrue (is_name image) × (file ≢ image)
IsCommand (Exec options image args) = StepsAlone options × StepsFit options.steps × IsTrue (is_name image) × ArgsFit args
IsCommand (Run options file image args) =
    StepsFit options.steps × IsTrue (is_name file) × IsTrue (is_name image) × (file ≢ image) × ArgsFit args
IsCommand (Sites file) = IsTrue (is_name file)
IsCommand (Mean options file args) = StepsAlone options × StepsFit options.steps × IsTrue (is_name file) × ArgsFit args
IsCommand (Gen run number) = (1 ≤ number) × (number ≤ last_source)

-- the words are the command
pub record Means (words : List (List ℕ)) (command : Command) : Type 0 where
  pub kept : IsCommand command
  pub spelled : words ≡ words_of command

-- ---- the command of some words

-- a number of these bounds, in decimal digits without a leading zero
abbrev pub number_of : (low high : ℕ) → List ℕ → Option ℕ
number_of low high word =
    let n = digits_value 10 word in
    cond (bytes_eq word (decimal n) && (nat_le low n && nat_le n high)) (Some n) None

abbrev pub level_of_word : List ℕ → Option Level
level_of_word word = cond (bytes_eq word (codes "0")) (Some levels.Zero) (cond (bytes_eq word (codes "3")) (Some levels.Three) None)

-- a value where it is there, and the words behind it
abbrev pub optional : {A : Type 0} → (words rest : List (List ℕ)) → Option A → Option A × List (List ℕ)
optional words rest None = (None, words)
optional words rest (Some value) = (Some value, rest)

-- an option with its value, where the words begin with them, and the words behind it
abbrev pub option_read : {A : Type 0} → (name : List ℕ) → (List ℕ → Option A) → List (List ℕ) → Option A × List (List ℕ)
option_read name read (word ∷ value ∷ rest) =
    cond (bytes_eq word name) (optional (word ∷ value ∷ rest) rest (read value)) (None, word ∷ value ∷ rest)
option_read name read words = (None, words)

-- an option without a value
abbrev pub flag_read : (name : List ℕ) → List (List ℕ) → Bool × List (List ℕ)
flag_read name (word ∷ rest) = cond (bytes_eq word name) (true, rest) (false, word ∷ rest)
flag_read name [] = (false, [])

abbrev pub level_read : List (List ℕ) → Option Level × List (List ℕ)
level_read = option_read (codes "--level") level_of_word

abbrev pub sizes_read : List (List ℕ) → Bool × List (List ℕ)
sizes_read = flag_read (codes "--sizes")

abbrev pub steps_read : List (List ℕ) → Option ℕ × List (List ℕ)
steps_read = option_read (codes "--steps") (number_of 1 most_steps)

-- the options that the words begin with, in their fixed order, and the words behind them
abbrev pub options_read : List (List ℕ) → Options × List (List ℕ)
options_read words =
    let level = level_read words in
    let sizes = sizes_read level.1 in
    let steps = steps_read sizes.1 in
    (record { level = level.0; sizes = sizes.0; steps = steps.0 }, steps.1)

-- whether they are some that `build` takes, and some that `exec` and `mean` take
abbrev pub build_takes : Options → Bool
build_takes options = is_none options.steps

abbrev pub steps_alone : Options → Bool
steps_alone options = is_none options.level && not options.sizes

-- a name, and what the words behind it come to
abbrev pub name_read : (List ℕ → List (List ℕ) → Option Command) → List (List ℕ) → Option Command
name_read next (name ∷ rest) = cond (is_name name) (next name rest) None
name_read next [] = None

-- two names that differ, and what the words behind them come to
abbrev pub names_read : (List ℕ → List ℕ → List (List ℕ) → Option Command) → List (List ℕ) → Option Command
names_read next (file ∷ image ∷ rest) =
    cond (is_name file && (is_name image && not (bytes_eq file image))) (next file image rest) None
names_read next words = None

-- the program's arguments behind `--`, or no more words
abbrev pub args_read : (Option (List (List ℕ)) → Command) → List (List ℕ) → Option Command
args_read made [] = Some (made None)
args_read made (word ∷ args) =
    cond (bytes_eq word (codes "--") && nat_le (arguments_size args) most_arguments) (Some (made (Some args))) None

-- no more words
abbrev pub end_read : Command → List (List ℕ) → Option Command
end_read command [] = Some command
end_read command (word ∷ words) = None

-- one more word, the number of a large source
abbrev pub number_read : (ℕ → Command) → List (List ℕ) → Option Command
number_read made (word ∷ []) = option_map made (number_of 1 last_source word)
number_read made words = None

-- the words behind each verb
abbrev pub build_read : List (List ℕ) → Option Command
build_read words =
    let options = options_read words in
    cond (build_takes options.0) (names_read (λ file image. end_read (Build options.0 file image)) options.1) None

abbrev pub exec_read : List (List ℕ) → Option Command
exec_read words =
    let options = options_read words in
    cond (steps_alone options.0) (name_read (λ image. args_read (Exec options.0 image)) options.1) None

abbrev pub run_read : List (List ℕ) → Option Command
run_read words = let options = options_read words in names_read (λ file image. args_read (Run options.0 file image)) options.1

abbrev pub sites_read : List (List ℕ) → Option Command
sites_read words = name_read (λ file. end_read (Sites file)) words

abbrev pub mean_read : List (List ℕ) → Option Command
mean_read words =
    let options = options_read words in
    cond (steps_alone options.0) (name_read (λ file. args_read (Mean options.0 file)) options.1) None

abbrev pub gen_read : List (List ℕ) → Option Command
gen_read words = let run = flag_read (codes "--run") words in number_read (Gen run.0) run.1

-- the command that the words are, or none
abbrev pub command_of : List (List ℕ) → Option Command
command_of [] = None
command_of (verb ∷ words) =
    cond (bytes_eq verb (codes "build")) (build_read words)
    (cond (bytes_eq verb (codes "exec")) (exec_read words)
    (cond (bytes_eq verb (codes "run")) (run_read words)
    (cond (bytes_eq verb (codes "sites")) (sites_read words)
    (cond (bytes_eq verb (codes "mean")) (mean_read words)
    (cond (bytes_eq verb (codes "gen")) (gen_read words) None)))))

-- the words are a command exactly where they are its words, and its parts keep what they must
abbrev pub CommandIsItsWords : Type 0
CommandIsItsWords = (words : List (List ℕ)) (command : Command) → command_of words ≡ Some command ↔ Means words command

-- ---- what a command asks for

-- the source, the image, the level, whether sizes are printed, the bound on steps, and the program's arguments. A command that
-- has no such part gives what is written where the part is left out, and the empty list for a name
abbrev pub file_of : Command → List ℕ
file_of (Build options file image) = file
file_of (Exec options image args) = []
file_of (Run options file image args) = file
file_of (Sites file) = file
file_of (Mean options file args) = file
file_of (Gen run number) = []

abbrev pub image_of : Command → List ℕ
image_of (Build options file image) = image
image_of (Exec options image args) = image
image_of (Run options file image args) = image
image_of (Sites file) = []
image_of (Mean options file args) = []
image_of (Gen run number) = []

abbrev pub options_of : Command → Options
options_of (Build options file image) = options
options_of (Exec options image args) = options
options_of (Run options file image args) = options
options_of (Sites file) = no_options
options_of (Mean options file args) = options
options_of (Gen run number) = no_options

abbrev pub args_of : Command → List (List ℕ)
args_of (Build options file image) = []
args_of (Exec options image args) = unwrap_or args []
args_of (Run options file image args) = unwrap_or args []
args_of (Sites file) = []
args_of (Mean options file args) = unwrap_or args []
args_of (Gen run number) = []

abbrev pub level_of : Command → Level
level_of command = unwrap_or (options_of command).level levels.Three

-- `mean` prints sizes always
abbrev pub sizes_of : Command → Bool
sizes_of (Build options file image) = options.sizes
sizes_of (Exec options image args) = options.sizes
sizes_of (Run options file image args) = options.sizes
sizes_of (Sites file) = false
sizes_of (Mean options file args) = true
sizes_of (Gen run number) = false

-- how many steps a run may take where no bound is written
abbrev pub default_steps : ℕ
default_steps = 100000000

abbrev pub steps_of : Command → ℕ
steps_of command = unwrap_or (options_of command).steps default_steps

-- ---- what a command fetches

-- the longest source and the longest image, in bytes
abbrev pub longest_source : ℕ
longest_source = 1048576

abbrev pub longest_image : ℕ
longest_image = 134217728

-- the name of what a command fetches: FILE, and IMAGE of `exec`. `gen` fetches nothing
abbrev pub fetched_of : Command → List ℕ
fetched_of (Build options file image) = file
fetched_of (Exec options image args) = image
fetched_of (Run options file image args) = file
fetched_of (Sites file) = file
fetched_of (Mean options file args) = file
fetched_of (Gen run number) = []

-- how many bytes of it are taken at most
abbrev pub longest_of : Command → ℕ
longest_of (Build options file image) = longest_source
longest_of (Exec options image args) = longest_image
longest_of (Run options file image args) = longest_source
longest_of (Sites file) = longest_source
longest_of (Mean options file args) = longest_source
longest_of (Gen run number) = 0

-- ---- the commands that are built so far

-- `exec` whole, and `run` with a bound on steps and arguments
abbrev pub is_built : Command → Bool
is_built (Exec options image args) = true
is_built (Run options file image args) = steps_alone options
is_built _ = false

abbrev pub if_built : Option Command → Option Command
if_built None = None
if_built (Some command) = cond (is_built command) (Some command) None

-- the command of the words, where it is built
abbrev pub served : List (List ℕ) → Option Command
served words = if_built (command_of words)

-- ---- a command that the code has read

-- options of which the bound on steps alone may be written
abbrev pub only_steps : Option ℕ → Options
only_steps steps = record { level = None; sizes = false; steps = steps }

-- the words from a place on
abbrev pub plain_args : Option Arguments → Option (List (List ℕ))
plain_args None = None
plain_args (Some args) = Some (drop args.first args.words.now)

abbrev pub plain_exec : ExecCommand → Command
plain_exec exec = Exec (only_steps exec.steps) exec.image.now (plain_args exec.args)

abbrev pub plain_run : RunCommand → Command
plain_run run = Run (only_steps run.steps) run.file.now run.image.now (plain_args run.args)

abbrev pub plain_command : Given → Command
plain_command (given.Exec exec) = plain_exec exec
plain_command (given.Run run) = plain_run run
