-- What a list of tokens does first: the directives, groups and conditions of C11 6.10.1 to 6.10.3.
use Rattle.std.specs.Prelude.{Bool, true, false, not, if◌then◌else◌, List, [], ◌∷◌, ◌++◌, Option, Some, None, option_and_then, is_some, find}
use Rattle.std.specs.List.{list_any}
use Rattle.fc_base.specs.declared.Place.{Place}
use Rattle.fc_base.specs.declared.Rule.{Rule}
use Rattle.fc_base.specs.declared.Rule.TheVariants as rule
use Rattle.fc_base.specs.declared.Refusal.{Refusal}
use Rattle.fc_base.specs.declared.Level.{Level}
use Rattle.c_headers.specs.declared.headers.HeaderId.{HeaderId}
use Rattle.c_headers.specs.Headers.{header_named}
use Rattle.c_tokens.specs.declared.TokenKind.{TokenKind}
use Rattle.c_tokens.specs.declared.TokenKind.TheVariants as kind
use Rattle.c_tokens.specs.declared.Token.{Token}
use Rattle.macro_meaning.specs.declared.words.Group.{Group}
use Rattle.macro_meaning.specs.declared.words.GroupState.{GroupState}
use Rattle.macro_meaning.specs.declared.words.GroupState.TheVariants.{Taken, Waits, Over}
use Rattle.macro_meaning.specs.declared.words.Word.{Word}
use Rattle.macro_meaning.specs.declared.words.Word.TheVariants as word
use Rattle.macro_meaning.specs.Macros.{Name, Meaning, Macros, no_macros, with_macro}
use Rattle.macro_meaning.specs.Sameness.{same_header, same_meaning}
use Rattle.macro_meaning.specs.Definitions.{name_of, Definition, definition, meaning, is_operator, header_macros, fortify_source}
use Rattle.macro_meaning.specs.Lines.{Part, part_of, nothing, text, directive, directive_word}

-- ---- the state between two directives

-- The macros, the open conditionals from the inside out, and the headers so far. The types `Group`, `GroupState` and `Word` are shared with
-- the code (src/words.rt).
pub record State : Type 0 where
  pub macros : Macros
  pub groups : List Group
  pub headers : List HeaderId

abbrev pub start : Level → State
start level = record { macros = with_macro (fortify_source level).0 (Some (fortify_source level).1) no_macros; groups = []; headers = [] }

abbrev pub is_taken : GroupState → Bool
is_taken Taken = true
is_taken _ = false

abbrev pub waits : GroupState → Bool
waits Waits = true
waits _ = false

-- a conditional in a skipped group has no taken group, so the innermost one tells
abbrev pub takes : List Group → Bool
takes [] = true
takes (g ∷ gs) = is_taken g.state

-- ---- moves

-- a refusal, or: the state afterwards, and the tokens that are given
pub data Next : Type 0 where
  refuses : Refusal → Next
  goes : State → List Token → Next

pub data Move : Type 0 where
  -- the list is over
  over : Move
  moves : Next → Move
  -- this text is expanded
  expands : List Token → Move
  -- the condition of this line is expanded and decided, at this place, for this conditional within the others
  decides : Place → List Token → Group → List Group → Move

abbrev pub refused : Rule → Place → Next
refused rule place = refuses (record { rule = rule; place = place })

-- ---- definitions

abbrev pub known_or_new : Macros → Name → Meaning → Option Meaning → Option Macros
known_or_new ms name m None = Some (with_macro name (Some m) ms)
known_or_new ms name m (Some old) = if same_meaning old m then Some ms else None

-- one macro more: none where the name has another meaning
abbrev pub with_definition : Name → Meaning → Macros → Option Macros
with_definition name m ms = known_or_new ms name m (ms name)

abbrev pub with_definitions : List (Name × Meaning) → Macros → Option Macros
with_definitions [] ms = Some ms
with_definitions (d ∷ ds) ms = option_and_then (with_definitions ds) (with_definition d.0 d.1 ms)

-- by the macros with the definition, and the first operator of its replacement list
abbrev pub defines : State → Place → Option Macros → Option Token → Next
defines st place None operator = refused rule.Redefined place
defines st place (Some ms) (Some t) = refused rule.LeftOutOperator t.place
defines st place (Some ms) None = goes (record st { macros = ms }) []

abbrev pub on_define : State → Place → Option Definition → Next
on_define st place None = refused rule.BadDefine place
on_define st place (Some d) = defines st place (with_definition d.name (meaning d.parameters d.body) st.macros)
    (find (λ t. is_operator t.kind) d.body)

-- the one name of a line
abbrev pub only_name : List Token → Option Name
only_name (t ∷ []) = name_of t.kind
only_name _ = None

abbrev pub on_undef : State → Place → Option Name → Next
on_undef st place None = refused rule.BadDefine place
on_undef st place (Some name) = goes (record st { macros = with_macro name None st.macros }) []

-- ---- inclusions

abbrev pub header_of : TokenKind → Option HeaderId
header_of (kind.HeaderName name) = header_named name
header_of _ = None

abbrev pub only_header : List Token → Option HeaderId
only_header (t ∷ []) = header_of t.kind
only_header _ = None

-- the inclusion stands where its `#` stood
abbrev pub header_token : Token → HeaderId → Token
header_token hash h = record { kind = kind.Header h; place = hash.place; starts_line = hash.starts_line; spaced = hash.spaced }

-- by the macros with those of the header
abbrev pub includes : State → Token → HeaderId → Option Macros → Next
includes st hash h None = refused rule.Redefined hash.place
includes st hash h (Some ms) = goes (record st { macros = ms; headers = st.headers ++ h ∷ [] }) (header_token hash h ∷ [])

-- a further inclusion of a header does nothing
abbrev pub on_include : State → Token → Option HeaderId → Next
on_include st hash None = refused rule.UnknownHeader hash.place
on_include st hash (Some h) =
    if list_any (same_header h) st.headers then goes st [] else includes st hash h (with_definitions (header_macros h) st.macros)

-- ---- conditionals

abbrev pub with_groups : State → List Group → Next
with_groups st gs = goes (record st { groups = gs }) []

-- a group whose condition holds is taken, and else the next one waits for its own
abbrev pub by_condition : Bool → GroupState
by_condition holds = if holds then Taken else Waits

-- a conditional at its `if`
abbrev pub group : Place → GroupState → Group
group place s = record { place = place; state = s; had_else = false }

abbrev pub opened : State → Place → GroupState → Next
opened st place s = with_groups st (group place s ∷ st.groups)

-- where a condition is decided, or is none
abbrev pub decided : State → Place → Group → List Group → Option Bool → Next
decided st place g gs None = refused rule.BadCondition place
decided st place g gs (Some holds) = with_groups st (record g { state = by_condition holds } ∷ gs)

abbrev pub on_ifdef : State → Place → Option Name → Next
on_ifdef st place None = refused rule.BadDefine place
on_ifdef st place (Some name) = opened st place (by_condition (is_some (st.macros name)))

abbrev pub on_ifndef : State → Place → Option Name → Next
on_ifndef st place None = refused rule.BadDefine place
on_ifndef st place (Some name) = opened st place (by_condition (not (is_some (st.macros name))))

-- behind a taken group, and in a skipped one, the condition is not looked at
abbrev pub on_elif : State → Place → List Token → List Group → Move
on_elif st place line [] = moves (refused rule.OpenConditional place)
on_elif st place line (g ∷ gs) =
    if g.had_else then moves (refused rule.OpenConditional place) else (
    if waits g.state then decides place line g gs else moves (with_groups st (record g { state = Over } ∷ gs)))

abbrev pub on_else : State → Place → List Group → Next
on_else st place [] = refused rule.OpenConditional place
on_else st place (g ∷ gs) =
    if g.had_else then refused rule.OpenConditional place
    else with_groups st (record g { state = if waits g.state then Taken else Over; had_else = true } ∷ gs)

abbrev pub on_endif : State → Place → List Group → Next
on_endif st place [] = refused rule.OpenConditional place
on_endif st place (g ∷ gs) = with_groups st gs

-- ---- directives

-- a directive in a taken group, which is no conditional or opens one
abbrev pub taken_directive : State → Token → List Token → Word → Move
taken_directive st hash line word.If = decides hash.place line (group hash.place Waits) st.groups
taken_directive st hash line word.Ifdef = moves (on_ifdef st hash.place (only_name line))
taken_directive st hash line word.Ifndef = moves (on_ifndef st hash.place (only_name line))
taken_directive st hash line word.Include = moves (on_include st hash (only_header line))
taken_directive st hash line word.Define = moves (on_define st hash.place (definition line))
taken_directive st hash line word.Undef = moves (on_undef st hash.place (only_name line))
taken_directive st hash line _ = moves (refused rule.UnknownDirective hash.place)

-- in a skipped group only conditionals are looked at, of which no group is taken
abbrev pub skipped_directive : State → Token → Word → Move
skipped_directive st hash word.If = moves (opened st hash.place Over)
skipped_directive st hash word.Ifdef = moves (opened st hash.place Over)
skipped_directive st hash word.Ifndef = moves (opened st hash.place Over)
skipped_directive st hash _ = moves (goes st [])

abbrev pub by_word : State → Token → List Token → Word → Move
by_word st hash line word.Elif = on_elif st hash.place line st.groups
by_word st hash line word.Else = moves (on_else st hash.place st.groups)
by_word st hash line word.Endif = moves (on_endif st hash.place st.groups)
by_word st hash line w = if takes st.groups then taken_directive st hash line w else skipped_directive st hash w

-- `#` alone does nothing
abbrev pub on_directive : State → Token → List Token → Move
on_directive st hash [] = moves (goes st [])
on_directive st hash (t ∷ ts) = by_word st hash ts (directive_word t.kind)

-- the conditional that the text opens first
abbrev pub outermost : Group → List Group → Group
outermost g [] = g
outermost g (h ∷ hs) = outermost h hs

abbrev pub at_end : List Group → Move
at_end [] = over
at_end (g ∷ gs) = moves (refused rule.OpenConditional (outermost g gs).place)

abbrev pub on_part : State → Part → Move
on_part st nothing = at_end st.groups
on_part st (text now rest) = if takes st.groups then expands now else moves (goes st [])
on_part st (directive hash line rest) = on_directive st hash line

abbrev pub move : State → List Token → Move
move st ts = on_part st (part_of ts)
