-- How much work is left before a function is called or the run is over: each move has less behind it, so that the machine comes to an end.
use Rattle.std.specs.Prelude.{ℕ, zero, suc, ◌+◌, if◌then◌else◌, Bool, true, false, List, [], ◌∷◌, map}
use Rattle.c_layout.specs.declared.tags.TagDef.{TagDef}
use Rattle.c_tree.specs.declared.typed.TypedExpr.{TypedExpr, fold-TypedExpr}
use Rattle.c_tree.specs.declared.typed.TypedKind.TheOpen.{TypedKind-F, TypedExpr-F}
use Rattle.mean_steps.specs.Machine.{Pending, IndexRight, Right, AndRight, OrRight, Choose, Commas, Arguments, AssignFrom, CopyFrom, CombineFrom, Signal, Control, Eval, Designate, Tell, Config, Move, goes, eval, place_of, resume}

-- ---- trees

abbrev pub items_weight : List ℕ → ℕ
items_weight [] = 0
items_weight (w ∷ ws) = w + items_weight ws + 1

abbrev pub kind_weight : TypedKind-F ℕ ℕ → ℕ
kind_weight (TypedKind-F.Local n) = 1
kind_weight (TypedKind-F.Object n) = 1
kind_weight (TypedKind-F.Number n) = 1
kind_weight (TypedKind-F.Str text) = 1
kind_weight (TypedKind-F.Comma all) = items_weight all + 1
kind_weight (TypedKind-F.Assign o to from) = to + from + 3
kind_weight (TypedKind-F.Cond test a b) = test + a + b + 2
kind_weight (TypedKind-F.Binary o a b) = a + b + 3
kind_weight (TypedKind-F.Cast of added) = of + 2
kind_weight (TypedKind-F.Prefix o of) = of + 3
kind_weight (TypedKind-F.Postfix o of) = of + 2
kind_weight (TypedKind-F.SizeofExpr of) = 1
kind_weight (TypedKind-F.SizeofType of) = 1
kind_weight (TypedKind-F.Index a b) = a + b + 4
kind_weight (TypedKind-F.Call callee args) = items_weight args + 1
kind_weight (TypedKind-F.Member base arrow member) = base + 3
kind_weight (TypedKind-F.SizeCall pointer mode) = pointer + 2

abbrev pub expr_weight : TypedExpr-F ℕ ℕ → ℕ
expr_weight e = e.kind

abbrev pub tree_weight : TypedExpr → ℕ
tree_weight = fold-TypedExpr ℕ ℕ kind_weight expr_weight

abbrev pub trees_weight : List TypedExpr → ℕ
trees_weight es = items_weight (map tree_weight es)

-- ---- pending work

abbrev pub pending_weight : Pending → ℕ
pending_weight (IndexRight t b e) = tree_weight b + 2
pending_weight (Right o t b e) = tree_weight b + 2
pending_weight (AndRight b e) = tree_weight b + 2
pending_weight (OrRight b e) = tree_weight b + 2
pending_weight (Choose a b e) = tree_weight a + tree_weight b + 1
pending_weight (Commas more) = trees_weight more + 1
pending_weight (Arguments callee rest e) = trees_weight rest + 1
pending_weight (AssignFrom from e) = tree_weight from + 2
pending_weight (CopyFrom from e) = tree_weight from + 2
pending_weight (CombineFrom o from e) = tree_weight from + 2
pending_weight _ = 1

abbrev pub stack_weight : List Pending → ℕ
stack_weight [] = 0
stack_weight (p ∷ ps) = pending_weight p + stack_weight ps

-- ---- moves

abbrev pub control_weight : Control → ℕ
control_weight (Eval e) = tree_weight e
control_weight (Designate e) = tree_weight e
control_weight _ = 0

abbrev pub move_weight : Move → ℕ
move_weight m = control_weight m.control + stack_weight m.config.pending

abbrev pub waits_for : List Pending → Bool
waits_for [] = false
waits_for (p ∷ ps) = true

-- whether the machine goes on by itself
abbrev pub runs_on : Control → List Pending → Bool
runs_on (Eval e) ps = true
runs_on (Designate e) ps = true
runs_on (Tell signal) ps = waits_for ps
runs_on _ ps = false

abbrev pub is_running : Move → Bool
is_running m = runs_on m.control m.config.pending

abbrev pub one_if : Bool → ℕ
one_if true = 1
one_if false = 0

abbrev pub work : Move → ℕ
work m = move_weight m + one_if (is_running m)

-- ---- a run

abbrev pub handed : List TagDef → Signal → List Pending → Config → Move
handed tags signal [] c = goes (Tell signal) c
handed tags signal (p ∷ ps) c = resume tags p signal (record c { pending = ps })

-- the next move
abbrev pub advance_by : List TagDef → Control → Config → Move
advance_by tags (Eval e) c = eval tags e c
advance_by tags (Designate e) c = place_of tags e c
advance_by tags (Tell signal) c = handed tags signal c.pending c
advance_by tags k c = goes k c

abbrev pub advance : List TagDef → Move → Move
advance tags m = advance_by tags m.control m.config

-- at most n moves, as long as the machine goes on by itself
abbrev pub moved : List TagDef → ℕ → Move → Move
moved tags zero m = m
moved tags (suc n) m = if is_running m then moved tags n (advance tags m) else m
