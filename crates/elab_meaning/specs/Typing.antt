-- How the parts of a file are typed one behind another, and the first rule that one breaks. This project's own.
--
-- A part is typed in a state, and gives what typing makes of it and the state behind it, or a refusal: `Typing A`. Parts follow each other
-- in text order by `◌>>=◌`, that is in `do` blocks: behind a refusal nothing is looked at, and the refusal is the answer of the whole.
-- Only `judged` refuses: at a place, by the first of its checks that is broken, which stand in the order of the rules. So a node is a
-- `do` block of its parts in text order, then `first place checks`, and then what the node is: a function that no longer asks whether a
-- rule is broken, and that gives anything at all where one is. Of an operator (Nodes.antt) the last two are one word, `judged`.
use Rattle.std.specs.Prelude.{ℕ, Bool, if◌then◌else◌, ⊤, List, [], ◌∷◌, ◌++◌, length, Option, None, Some, Result, Ok, Err}
use Rattle.fc_base.specs.declared.refusals.Place.{Place}
use Rattle.fc_base.specs.declared.refusals.Refusal.{Refusal}
use Rattle.fc_base.specs.declared.rules.Rule.{Rule}
use Rattle.c_headers.specs.declared.headers.HeaderId.{HeaderId}
use Rattle.c_layout.specs.declared.types.CType.{CType}
use Rattle.c_layout.specs.declared.tags.TagDef.{TagDef}
use Rattle.c_tree.specs.declared.programs.DataDef.{DataDef}
use Rattle.c_tree.specs.declared.typed.TypedStmt.{TypedStmt}
use Rattle.elab_meaning.specs.Scope.{Name, Scope, add_tag, add_object}

infixl 20 ◌>>=◌
infixl 20 ◌>>◌
-- ---- the state

-- What the declarations of a function so far say of it: the place of its first declarator, whether its body has been read, whether one of
-- them says inline, and the numbers of its alloc_size attribute, from 1 (GCC manual, "Common Function Attributes").
pub record Declared : Type 0 where
  pub name : Name
  pub place : Place
  pub has_body : Bool
  pub inlined : Bool
  pub alloc_size : Option (ℕ × Option ℕ)

-- a function's body as it was read, with its locals: the parameters, then the variables of its blocks that aren't static
pub record Body : Type 0 where
  pub name : Name
  pub params : List CType
  pub result : CType
  pub locals : List (Name × CType)
  pub body : TypedStmt

-- What the file has besides a scope. An expression reads none of it.
pub record Beside : Type 0 where
  -- the functions with a body by their number: read off the written file before typing begins
  pub numbered : List Name
  pub included : List HeaderId
  pub functions : List Declared
  -- in text order
  pub bodies : List Body
  -- the numbers of the objects that have an initialiser
  pub initialised : List ℕ
  -- the numbers of the structures and unions whose body is being read
  pub open_tags : List ℕ
  -- the locals so far of the function that is being read
  pub locals : List (Name × CType)
  -- what the string literals that initialise arrays take of the sum of data
  pub literals : ℕ

pub record State : Type 0 where
  pub scope : Scope
  pub beside : Beside

-- what a file has besides its scope at the start, by the names of its functions with a body
abbrev pub nothing_beside : List Name → Beside
nothing_beside numbered = record {
  numbered = numbered;
  included = [];
  functions = [];
  bodies = [];
  initialised = [];
  open_tags = [];
  locals = [];
  literals = 0;
}

-- ---- typing one part behind another

abbrev pub Typing : Type 0 → Type 0
Typing A = State → Result (A × State) Refusal

abbrev pub pure : {A : Type 0} → A → Typing A
pure a s = Ok (a, s)

abbrev pub goes_on : {A B : Type 0} → Result (A × State) Refusal → (A → Typing B) → Result (B × State) Refusal
goes_on (Ok (a, s)) rest = rest a s
goes_on (Err refusal) rest = Err refusal

abbrev pub ◌>>=◌ : {A B : Type 0} → Typing A → (A → Typing B) → Typing B
◌>>=◌ part rest s = goes_on (part s) rest

abbrev pub ◌>>◌ : {A B : Type 0} → Typing A → Typing B → Typing B
◌>>◌ part rest = part >>= (λ _. rest)

-- parts in their order
abbrev pub each : {A : Type 0} → List (Typing A) → Typing (List A)
each [] = pure []
each (part ∷ parts) = do
  a ← part
  more ← each parts
  pure (a ∷ more)

-- a part, if there is one
abbrev pub if_any : {A : Type 0} → Option (Typing A) → Typing (Option A)
if_any None = pure None
if_any (Some part) = do
  a ← part
  pure (Some a)

-- ---- refusing

-- a rule, and whether it is broken
abbrev pub Check : Type 0
Check = Rule × Bool

abbrev pub first_broken : List Check → Option Rule
first_broken [] = None
first_broken (check ∷ checks) = if check.1 then Some check.0 else first_broken checks

abbrev pub by_rule : {A : Type 0} → Place → Option Rule → A → Result A Refusal
by_rule place None a = Ok a
by_rule place (Some rule) a = Err (record { rule = rule; place = place })

-- the first of these that is broken refuses, at this place; else the answer is the last
abbrev pub judged : {A : Type 0} → Place → List Check → A → Result A Refusal
judged place checks a = by_rule place (first_broken checks) a

-- an answer that leaves the state as it is
abbrev pub answered : {A : Type 0} → Result A Refusal → Typing A
answered (Ok a) s = Ok (a, s)
answered (Err refusal) s = Err refusal

abbrev pub first : Place → List Check → Typing ⊤
first place checks s = answered (judged place checks tt) s

-- ---- reading and changing the state

abbrev pub look : {A : Type 0} → (Scope → A) → Typing A
look what s = Ok (what s.scope, s)

-- an answer by the structures and unions so far
abbrev pub by_tags : {A : Type 0} → (List TagDef → Result A Refusal) → Typing A
by_tags what s = answered (what s.scope.tags) s

abbrev pub change : (Scope → Scope) → Typing ⊤
change what s = Ok (tt, record s { scope = what s.scope })

abbrev pub recall : {A : Type 0} → (Beside → A) → Typing A
recall what s = Ok (what s.beside, s)

abbrev pub note : (Beside → Beside) → Typing ⊤
note what s = Ok (tt, record s { beside = what s.beside })

-- a new data object or tag, and its number
abbrev pub new_object : DataDef → Typing ℕ
new_object def = do
  number ← look (λ s. length s.objects)
  change (add_object def)
  pure number

abbrev pub new_tag : TagDef → Typing ℕ
new_tag def = do
  number ← look (λ s. length s.tags)
  change (add_tag def)
  pure number

-- a new local of the function that is being read, and its number
abbrev pub new_local : Name → CType → Typing ℕ
new_local name ctype = do
  number ← recall (λ b. length b.locals)
  note (λ b. record b { locals = b.locals ++ (name, ctype) ∷ [] })
  pure number
