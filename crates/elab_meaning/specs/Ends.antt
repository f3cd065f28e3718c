-- The end of a file: the sum of its data, calls without a body, inline calls that form a cycle, main, and the weights; and the whole file.
use Rattle.std.specs.Prelude.{ℕ, zero, suc, ◌+◌, ◌==◌, nat_lt, Bool, true, false, not, ◌&&◌, ◌||◌, if◌then◌else◌, is_none, List, [], ◌∷◌, ◌++◌, length, map, flat_map, filter, filter_map, find, position, sum_by, slice_get, codes, Option, Result, Ok, Err, unwrap_or, option_and_then}
use Rattle.std.specs.List.{list_any, range_with_len}
use Rattle.std.specs.Option.{option_map, option_map_or}
use Rattle.std.specs.Str.{bytes_eq}
use Rattle.fc_base.specs.declared.refusals.Place.{Place}
use Rattle.fc_base.specs.declared.refusals.Refusal.{Refusal}
use Rattle.fc_base.specs.declared.rules.Rule.TheVariants.{LimitObject, NoBody, InlineCycle, NoMain, LimitWeight}
use Rattle.c_layout.specs.declared.types.CType.{CType}
use Rattle.c_layout.specs.declared.types.CType.TheVariants.{Ptr}
use Rattle.c_layout.specs.declared.tags.TagDef.{TagDef}
use Rattle.c_layout.specs.Library.{char_pointer}
use Rattle.c_layout.specs.Types.{int, is_scalar, same_type}
use Rattle.c_tree.specs.declared.externals.External.{External}
use Rattle.c_tree.specs.declared.externals.External.TheVariants as external
use Rattle.c_tree.specs.declared.externals.FileTree.{FileTree}
use Rattle.c_tree.specs.declared.nodes.Declarator.{Declarator}
use Rattle.c_tree.specs.declared.programs.FnDef.{FnDef}
use Rattle.c_tree.specs.declared.programs.LocalDef.{LocalDef}
use Rattle.c_tree.specs.declared.programs.TypedTree.{TypedTree}
use Rattle.c_tree.specs.declared.typed.TypedDeclare.{TypedDeclare}
use Rattle.c_tree.specs.declared.typed.TypedExpr.{TypedExpr}
use Rattle.c_tree.specs.declared.typed.TypedForHead.{TypedForHead}
use Rattle.c_tree.specs.declared.typed.TypedForHead.TheVariants as head
use Rattle.c_tree.specs.declared.typed.TypedStmt.{TypedStmt, fold-TypedStmt}
use Rattle.c_tree.specs.declared.typed.TypedStmt.TheOpen.{TypedStmt-F}
use Rattle.c_tree.specs.Traversals.{calls, taken}
use Rattle.c_tree.specs.Weights.{function_counts, nothing}
use Rattle.c_tree.specs.WellFormed.{most_data, most_weight, data_room, own_weight}
use Rattle.elab_meaning.specs.Scope.{Name, scope_of}
use Rattle.elab_meaning.specs.Typing.{Declared, Body, Beside, State, nothing_beside, Typing, ◌>>=◌, ◌>>◌, pure, first, look, recall}
use Rattle.elab_meaning.specs.Trees.{read_declarator}
use Rattle.elab_meaning.specs.Initialisers.{leaves}
use Rattle.elab_meaning.specs.Calls.{CalledName, external_calls}
use Rattle.elab_meaning.specs.Externals.{has_number, is_among, header_function_names, declared_of, external_parts}

-- ---- the numbers of functions, read off the file before it is typed

abbrev pub name_in : Declarator → Name
name_in d = unwrap_or (read_declarator d).name []

-- the names that a file declares, in text order
abbrev pub names_in : External → List Name
names_in (external.Header id place) = []
names_in (external.Declaration specs ds place) = map (λ d. name_in d.declarator) ds
names_in (external.Function specs d body place) = name_in d ∷ []

-- those with a body
abbrev pub defined_in : External → List Name
defined_in (external.Function specs d body place) = name_in d ∷ []
defined_in _ = []

-- each once, where it stands first
abbrev pub once : List Name → List Name → List Name
once seen [] = []
once seen (name ∷ names) = if is_among seen name then once seen names else name ∷ once (name ∷ seen) names

-- the functions with a body, in the order of the first declarator of each
abbrev pub numbered : List External → List Name
numbered xs = filter (is_among (flat_map defined_in xs)) (once [] (flat_map names_in xs))

-- ---- what a typed body does

abbrev pub optional : {A B : Type 0} → (A → List B) → Option A → List B
optional f x = option_map_or f x []

-- what its expressions give, in their order
module _ (of : TypedExpr → List ℕ) where
  abbrev pub in_declare : TypedDeclare → List ℕ
  in_declare d = optional (λ i. flat_map (λ l. of l.value) (leaves i)) d.init

  abbrev pub in_head : TypedForHead → List ℕ
  in_head (head.Evaluate x) = optional of x
  in_head (head.Variables ds) = flat_map in_declare ds

  abbrev pub in_stmt : TypedStmt-F (List ℕ) → List ℕ
  in_stmt (TypedStmt-F.Block items place) = flat_map (λ ns. ns) items
  in_stmt (TypedStmt-F.Declare d) = in_declare d
  in_stmt (TypedStmt-F.Expr x place) = optional of x
  in_stmt (TypedStmt-F.If test then_part else_part place) = of test ++ then_part ++ optional (λ ns. ns) else_part
  in_stmt (TypedStmt-F.While test body place) = of test ++ body
  in_stmt (TypedStmt-F.Do body test place) = body ++ of test
  in_stmt (TypedStmt-F.For before test step body place) = in_head before ++ optional of test ++ optional of step ++ body
  in_stmt (TypedStmt-F.Switch subject items place) = of subject ++ flat_map (λ ns. ns) items
  in_stmt (TypedStmt-F.Return x place) = optional of x
  in_stmt (TypedStmt-F.Case x place) = of x
  in_stmt _ = []

  abbrev pub in_body : TypedStmt → List ℕ
  in_body = fold-TypedStmt (List ℕ) in_stmt

-- ---- the functions of the typed tree

-- a register variable is an integer or a pointer whose address is taken nowhere in the body
abbrev pub locals_from : List ℕ → ℕ → List (Name × CType) → List LocalDef
locals_from addressed number [] = []
locals_from addressed number (l ∷ ls) =
    record { name = l.0; ctype = l.1; in_register = is_scalar l.1 && not (has_number addressed number) }
    ∷ locals_from addressed (number + 1) ls

-- a function before its counts are known
abbrev pub function_of_body : List Declared → Body → FnDef
function_of_body fs b = record {
  name = b.name;
  params = b.params;
  result = b.result;
  inlined = option_map_or (λ d. d.inlined) (declared_of fs b.name) false;
  alloc_size = option_and_then (λ d. d.alloc_size) (declared_of fs b.name);
  locals = locals_from (in_body taken b.body) 0 b.locals;
  counts = nothing;
  body = b.body;
}

abbrev pub body_named : List Body → Name → Option Body
body_named bodies name = find (λ b. bytes_eq b.name name) bodies

-- in the order of their numbers
abbrev pub uncounted : Beside → List FnDef
uncounted b = filter_map (λ name. option_map (function_of_body b.functions) (body_named b.bodies name)) b.numbered

-- with its counts, where those of the functions that it calls inline are known
abbrev pub with_counts : List TagDef → List FnDef → FnDef → FnDef
with_counts tags fs f = record f { counts = function_counts tags fs f }

-- Counts with those of inline calls, so many calls deep: where they form no cycle, none is deeper than there are functions.
abbrev pub counted : List TagDef → ℕ → List FnDef → List FnDef
counted tags zero fs = fs
counted tags (suc n) fs = map (with_counts tags (counted tags n fs)) fs

abbrev pub functions_of : List TagDef → Beside → List FnDef
functions_of tags b = counted tags (length b.numbered) (uncounted b)

-- ---- inline calls that form a cycle

abbrev pub is_inline : List FnDef → ℕ → Bool
is_inline fs number = option_map_or (λ f. f.inlined) (slice_get fs number) false

abbrev pub inline_calls : List FnDef → ℕ → List ℕ
inline_calls fs number = option_map_or (λ f. filter (is_inline fs) (in_body calls f.body)) (slice_get fs number) []

-- from one function to another by one inline call or more, so many at most
abbrev pub reaches : List FnDef → ℕ → ℕ → ℕ → Bool
reaches fs zero from to = false
reaches fs (suc n) from to = list_any (λ next. next == to || reaches fs n next to) (inline_calls fs from)

-- the lowest number of a function on a cycle
abbrev pub on_cycle : List FnDef → Option ℕ
on_cycle fs = find (λ number. reaches fs (length fs) number number) (range_with_len 0 (length fs))

-- ---- main (5.1.2.2.1)

abbrev pub has_main_params : List CType → Bool
has_main_params [] = true
has_main_params (a ∷ b ∷ []) = same_type a int && same_type b (Ptr char_pointer)
has_main_params _ = false

abbrev pub is_main : FnDef → Bool
is_main f = bytes_eq f.name (codes "main") && same_type f.result int && has_main_params f.params && not f.inlined

-- ---- the rules at the end

abbrev pub start : Place
start = record { line = 1; col = 1 }

-- the functions that the included headers declare
abbrev pub library_names : Beside → List Name
library_names b = flat_map header_function_names b.included

abbrev pub lacks_body : Beside → CalledName → Bool
lacks_body b c = not (is_among b.numbered c.name) && not (is_among (library_names b) c.name)

abbrev pub first_place : Place → Beside → Option ℕ → Place
first_place otherwise b number =
    option_map_or (λ d. d.place) (option_and_then (declared_of b.functions) (option_and_then (slice_get b.numbered) number)) otherwise

abbrev pub end_part : List External → Typing TypedTree
end_part xs = do
  scope ← look (λ s. s)
  b ← recall (λ beside. beside)
  let without = find (lacks_body b) (flat_map external_calls xs)
  let fs = functions_of scope.tags b
  let main = position is_main fs
  first start ((LimitObject, nat_lt most_data (sum_by data_room scope.objects + b.literals)) ∷ [])
  first (option_map_or (λ c. c.place) without start) ((NoBody, not (is_none without)) ∷ [])
  first (first_place start b (on_cycle fs)) ((InlineCycle, not (is_none (on_cycle fs))) ∷ [])
  first start ((NoMain, is_none main) ∷ (LimitWeight, nat_lt most_weight (sum_by own_weight fs)) ∷ [])
  pure (record { tags = scope.tags; functions = fs; objects = scope.objects; main = unwrap_or main 0 })

-- ---- a whole file

abbrev pub file_part : List External → Typing TypedTree
file_part xs = do
  external_parts xs
  end_part xs

abbrev pub without_state : {A : Type 0} → Result (A × State) Refusal → Result A Refusal
without_state (Ok (a, s)) = Ok a
without_state (Err r) = Err r

-- The typed tree of a file, or the first rule that it breaks.
abbrev pub typed_file : FileTree → Result TypedTree Refusal
typed_file file = without_state (file_part file.externals
    (record { scope = scope_of []; beside = nothing_beside (numbered file.externals) }))
