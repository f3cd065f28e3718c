-- What a list begins with, and the entries of macros, as plain data.
use Rattle.std.specs.Prelude.{◌≡◌, ℕ, ◌+◌, ◌≤◌, List, ◌∷◌, length, map, take, drop}
use Rattle.std.specs.Borrow.{Bor}
use Rattle.c_tokens.specs.declared.Token.{Token}
use Rattle.macro_meaning.specs.Macros.{Name, Meaning}
use Rattle.macro_meaning.specs.Lines.{part_of, nothing, text, directive}
use Rattle.macro_items.specs.declared.Macro.{Macro}
use Rattle.macro_items.specs.Views.{meaning_view}
use Rattle.macro_lines.specs.declared.lines.GroupPart.{GroupPart}
use Rattle.macro_lines.specs.declared.lines.GroupPart.TheVariants.{Nothing, Text, Line}

-- how many tokens a text has, or a directive with its line
abbrev pub PartIs : List Token → GroupPart → Type 0
PartIs ts Nothing = part_of ts ≡ nothing
PartIs ts (Text n) = (part_of ts ≡ text (take n ts) (drop n ts)) × (1 ≤ n) × (n ≤ length ts)
PartIs ts (Line n) = (t : Token) × (part_of ts ≡ directive t (take n (drop 1 ts)) (drop (n + 1) ts)) × (ts ≡ t ∷ drop 1 ts)
    × (n + 1 ≤ length ts)

-- a name with what it stands for
abbrev pub entry_view : Bor (List ℕ) × Macro → Name × Meaning
entry_view e = (e.0.now, meaning_view e.1)

abbrev pub entry_views : List (Bor (List ℕ) × Macro) → List (Name × Meaning)
entry_views = map entry_view
