-- Statements, declarations and initialisers (C11 6.7.9 and 6.8): a statement is left at its end, by a jump, or with a value that its
-- function returns. A turn of a loop takes one of the steps that are left, where its body is entered.
use Rattle.std.specs.Prelude.{ℕ, zero, suc, ◌==◌, Bool, true, false, ⊤, if◌then◌else◌, List, [], ◌∷◌, length, map, flat_map, replicate, Option, None, Some, pos, slice_get, option_and_then}
use Rattle.std.specs.Option.{option_map_or}
use Rattle.fc_base.specs.declared.refusals.Place.{Place}
use Rattle.c_layout.specs.declared.tags.TagDef.{TagDef}
use Rattle.c_layout.specs.declared.types.CType.{CType}
use Rattle.c_layout.specs.declared.types.CType.TheVariants.{Void}
use Rattle.c_layout.specs.Types.{is_array, is_structure}
use Rattle.c_tree.specs.declared.programs.LocalDef.{LocalDef}
use Rattle.c_tree.specs.declared.typed.TypedDeclare.{TypedDeclare}
use Rattle.c_tree.specs.declared.typed.TypedExpr.{TypedExpr}
use Rattle.c_tree.specs.declared.typed.TypedForHead.{TypedForHead}
use Rattle.c_tree.specs.declared.typed.TypedForHead.TheVariants as head
use Rattle.c_tree.specs.declared.typed.TypedInit.{TypedInit, fold-TypedInit}
use Rattle.c_tree.specs.declared.typed.TypedInit.TheOpen.{TypedInit-F}
use Rattle.c_tree.specs.declared.typed.TypedKind.{TypedKind, out-TypedKind}
use Rattle.c_tree.specs.declared.typed.TypedKind.TheOpen.{TypedKind-F}
use Rattle.c_tree.specs.declared.typed.TypedStmt.{TypedStmt, out-TypedStmt, roll-TypedStmt, fold-TypedStmt}
use Rattle.c_tree.specs.declared.typed.TypedStmt.TheFolds.{map-TypedStmt}
use Rattle.c_tree.specs.declared.typed.TypedStmt.TheOpen.{TypedStmt-F}
use Rattle.c_tree.specs.Constants.{constant_of}
use Rattle.c_tree.specs.Statements.{case_of, is_default, head_declares}
use Rattle.run_meaning.specs.Runs.{Going}
use Rattle.object_meaning.specs.LibraryCalls.{number_in}
use Rattle.object_meaning.specs.Memory.{store_cells}
use Rattle.object_meaning.specs.Objects.{begun, add, finish, fill, size_at}
use Rattle.object_meaning.specs.OnObjects.{as_pointer}
use Rattle.object_meaning.specs.Provenance.{moved}
use Rattle.object_meaning.specs.declared.values.Cell.TheVariants.{Byte}
use Rattle.object_meaning.specs.declared.values.Value.{Value}
use Rattle.object_meaning.specs.declared.values.Value.TheVariants.{Uninit, Nothing}
use Rattle.plain_meaning.specs.Actions.{Action, ◌>>=◌, ◌>>◌, pure, look, defined, objects, set_objects, step, stop, Variable, Register, InObject, variable_at, set_variable}
use Rattle.plain_meaning.specs.Expressions.{Calls, value_of}
use Rattle.plain_meaning.specs.Values.{uses, holds, size_in, Lvalue, InRegister, InMemory, variable, place_in, store, copy}

-- how a statement is left (6.8p3, 6.8.6)
pub data Flow : Type 0 where
  Next : Flow
  Broke : Flow
  Continued : Flow
  Returned : (value : Value) → Flow

abbrev pub Body : Type 0
Body = Action Flow

-- behind a statement comes the next, unless it was left by a jump
abbrev pub and_then : Body → Flow → Body
and_then rest Next = rest
and_then rest Broke = pure Broke
and_then rest Continued = pure Continued
and_then rest (Returned v) = pure (Returned v)

-- behind a loop's body comes the next turn (6.8.6.2, 6.8.6.3)
abbrev pub and_again : Body → Flow → Body
and_again rest Next = rest
and_again rest Broke = pure Next
and_again rest Continued = rest
and_again rest (Returned v) = pure (Returned v)

-- a `break` leaves the switch
abbrev pub and_out : Flow → Body
and_out Next = pure Next
and_out Broke = pure Next
and_out Continued = pure Continued
and_out (Returned v) = pure (Returned v)

-- ---- loops (6.8.5)

-- a turn, where the test of its loop holds
abbrev pub if_holds : Bool → Body → Body
if_holds true turn = turn
if_holds false turn = pure Next

-- Turns of a loop: its test, a step, its body, what comes behind a body, and so on. No more than d of them begin where fewer steps are
-- left
abbrev pub turns : ℕ → Action Bool → Body → Action ⊤ → Body
turns zero test body after = stop Going
turns (suc d) test body after = do
  t ← test
  if_holds t (step >> body >>= and_again (after >> turns d test body after))

-- a loop begins with as many turns as there are steps left, and the one that finds none
abbrev pub loop : Action Bool → Body → Action ⊤ → Body
loop test body after s left = turns (suc left) test body after s left

-- one whose first turn is not tested (6.8.5.2)
abbrev pub do_loop : Action Bool → Body → Body
do_loop test body = do
  step
  flow ← body
  and_again (loop test body (pure tt)) flow

-- ---- the variables of a block (6.2.4p5 and p6, 6.8p3)

module _ (tags : List TagDef) (locals : List LocalDef) where
  abbrev pub local_type : ℕ → CType
  local_type n = option_map_or (λ l. l.ctype) (slice_get locals n) Void

  -- each begins anew without a value where its block is entered: a register variable, or an object of its own
  abbrev pub begun_in : Bool → ℕ → Action ⊤
  begun_in true n = set_variable n (Register Uninit)
  begun_in false n = do
    objs ← objects
    set_objects (add objs (begun (size_in tags (local_type n)) true false))
    set_variable n (InObject (length objs))

  abbrev pub begin_one : ℕ → Action ⊤
  begin_one n = begun_in (option_map_or (λ l. l.in_register) (slice_get locals n) true) n

  abbrev pub begin_all : List ℕ → Action ⊤
  begin_all [] = pure tt
  begin_all (n ∷ ns) = begin_one n >> begin_all ns

  abbrev pub ended : Variable → Action ⊤
  ended (Register value) = pure tt
  ended (InObject o) = do
    objs ← objects
    set_objects (finish objs o)

  -- and its object ends where the block is left
  abbrev pub end_all : List ℕ → Action ⊤
  end_all [] = pure tt
  end_all (n ∷ ns) = do
    v ← look (variable_at n)
    ended v
    end_all ns

  abbrev pub in_block : List ℕ → Body → Body
  in_block variables body = do
    begin_all variables
    flow ← body
    end_all variables
    pure flow

-- ---- initialisers (6.7.9)

-- a value that is stored at an offset in its variable
pub record Leaf : Type 0 where
  pub at : ℕ
  pub value : TypedExpr

abbrev pub leaves_layer : TypedInit-F (List Leaf) → List Leaf
leaves_layer (TypedInit-F.Expr at value) = record { at = at; value = value } ∷ []
leaves_layer (TypedInit-F.List items place) = flat_map (λ leaves. leaves) items

-- the leaves of an initialiser in the order of the text
abbrev pub leaves_of : TypedInit → List Leaf
leaves_of = fold-TypedInit (List Leaf) leaves_layer

abbrev pub behind_lvalue : ℕ → Lvalue → Lvalue
behind_lvalue k (InRegister n) = InRegister n
behind_lvalue k (InMemory v) = InMemory (moved (pos k) v)

-- all bytes of an aggregate are zero before its leaves are stored (6.7.9p21)
abbrev pub zeroed : Variable → Action ⊤
zeroed (Register value) = pure tt
zeroed (InObject o) = do
  objs ← objects
  set_objects (fill objs o (replicate (size_at objs o) 0))

abbrev pub is_aggregate : CType → Bool
is_aggregate t = if is_array t then true else is_structure t

module _ (tags : List TagDef) (locals : List LocalDef) (call : Calls) where
  -- a string for an array of characters: its bytes, and zeros behind them (6.7.9p14)
  abbrev pub text_stored : Place → List ℕ → Lvalue → Action ⊤
  text_stored at text x = do
    objs ← objects
    new ← defined at (store_cells objs (place_in x) (map Byte text))
    set_objects new

  -- a structure or union (6.7.9p13)
  abbrev pub copied : TypedExpr → Lvalue → Action ⊤
  copied e x = do
    v ← value_of tags call e
    copy tags e.place e.ctype (place_in x) (as_pointer v)

  abbrev pub scalar_stored : TypedExpr → Lvalue → Action ⊤
  scalar_stored e x = do
    v ← value_of tags call e
    uses e.place (v ∷ [])
    store e.place e.ctype x v

  abbrev pub leaf_stored : TypedKind-F TypedKind TypedExpr → TypedExpr → Lvalue → Action ⊤
  leaf_stored (TypedKind-F.Str text) e x = text_stored e.place text x
  leaf_stored _ e x = if is_structure e.ctype then copied e x else scalar_stored e x

  abbrev pub all_stored : Lvalue → List Leaf → Action ⊤
  all_stored x [] = pure tt
  all_stored x (leaf ∷ more) = leaf_stored (out-TypedKind leaf.value.kind) leaf.value (behind_lvalue leaf.at x) >> all_stored x more

  -- the leaves one by one, each behind the stores of those before it (6.7.9p19 and p23)
  abbrev pub initialised : ℕ → List Leaf → Action ⊤
  initialised n leaves = do
    x ← variable n
    all_stored x leaves

  abbrev pub initialise : ℕ → TypedInit → Action ⊤
  initialise n init =
      if is_aggregate (local_type tags locals n)
      then (do
        v ← look (variable_at n)
        zeroed v
        initialised n (leaves_of init))
      else initialised n (leaves_of init)

  -- a declaration: its variable has begun with its block. One without an initialiser does nothing
  abbrev pub declaration : TypedDeclare → Action ⊤
  declaration d = option_map_or (initialise d.local) d.init (pure tt)

  abbrev pub declarations : List TypedDeclare → Action ⊤
  declarations [] = pure tt
  declarations (d ∷ ds) = declaration d >> declarations ds

-- ---- statements (6.8)

-- what a statement is to the statement around it: the tree itself, and what it does
pub record Part : Type 0 where
  pub whole : TypedStmt
  pub run : Body

abbrev pub declares_layer : TypedStmt-F TypedStmt → List ℕ
declares_layer (TypedStmt-F.Declare d) = d.local ∷ []
declares_layer _ = []

-- the variables that the declarations among some statements declare
abbrev pub declared_by : List Part → List ℕ
declared_by items = flat_map (λ p. declares_layer (out-TypedStmt p.whole)) items

-- statements in their order
abbrev pub in_order : List Part → Body
in_order [] = pure Next
in_order (p ∷ ps) = do
  flow ← p.run
  and_then (in_order ps) flow

-- whether a statement is the label of a value, or `default`
abbrev pub is_label_of : List TagDef → ℕ → Part → Bool
is_label_of tags v p =
    option_map_or (λ n. n == v) (option_and_then (constant_of tags) (case_of (out-TypedStmt p.whole))) false

abbrev pub is_default_label : Part → Bool
is_default_label p = is_default (out-TypedStmt p.whole)

-- from the first of these on
abbrev pub from_first : (Part → Bool) → List Part → List Part
from_first here [] = []
from_first here (p ∷ ps) = if here p then p ∷ ps else from_first here ps

abbrev pub or_default : List Part → List Part → List Part
or_default [] items = from_first is_default_label items
or_default (p ∷ ps) items = p ∷ ps

-- where a switch begins: at the label of the value, else at `default`, else behind its end (6.8.4.2p5)
abbrev pub from_label : List TagDef → ℕ → List Part → List Part
from_label tags v items = or_default (from_first (is_label_of tags v) items) items

module _ (tags : List TagDef) (locals : List LocalDef) (call : Calls) where
  -- a value that is discarded (6.8.3p2)
  abbrev pub discarded : TypedExpr → Action ⊤
  discarded e = do
    v ← value_of tags call e
    pure tt

  abbrev pub if_any : Option TypedExpr → Action ⊤
  if_any e = option_map_or discarded e (pure tt)

  -- the test of a statement that begins at this place
  abbrev pub tested : Place → TypedExpr → Action Bool
  tested at e = do
    v ← value_of tags call e
    holds at v

  -- a `for` without a test goes on (6.8.5.3p2)
  abbrev pub tested_if_any : Place → Option TypedExpr → Action Bool
  tested_if_any at e = option_map_or (tested at) e (pure true)

  abbrev pub head_run : TypedForHead → Action ⊤
  head_run (head.Evaluate e) = if_any e
  head_run (head.Variables variables) = declarations tags locals call variables

  -- 6.8.4.1p2
  abbrev pub selected : Place → TypedExpr → Body → Body → Body
  selected at test a b = do
    t ← tested at test
    if t then a else b

  -- 6.8.4.2
  abbrev pub switched : Place → TypedExpr → List Part → Body
  switched at subject items = do
    v ← value_of tags call subject
    uses at (v ∷ [])
    flow ← in_order (from_label tags (number_in v) items)
    and_out flow

  -- 6.8.6.4p3
  abbrev pub returned : Place → Option TypedExpr → Body
  returned at None = pure (Returned Nothing)
  returned at (Some e) = do
    v ← value_of tags call e
    uses at (v ∷ [])
    pure (Returned v)

  abbrev pub none_left : Option Part → Body
  none_left p = option_map_or (λ other. other.run) p (pure Next)

  abbrev pub stmt_run : TypedStmt-F Part → Body
  stmt_run (TypedStmt-F.Block items place) = in_block tags locals (declared_by items) (in_order items)
  stmt_run (TypedStmt-F.Declare d) = declaration tags locals call d >> pure Next
  stmt_run (TypedStmt-F.Expr e place) = if_any e >> pure Next
  stmt_run (TypedStmt-F.If test a b place) = selected place test a.run (none_left b)
  stmt_run (TypedStmt-F.While test body place) = loop (tested place test) body.run (pure tt)
  stmt_run (TypedStmt-F.Do body test place) = do_loop (tested place test) body.run
  stmt_run (TypedStmt-F.For head test after body place) =
      in_block tags locals (head_declares head) (head_run head >> loop (tested_if_any place test) body.run (if_any after))
  stmt_run (TypedStmt-F.Switch subject items place) = switched place subject items
  stmt_run (TypedStmt-F.Break place) = pure Broke
  stmt_run (TypedStmt-F.Continue place) = pure Continued
  stmt_run (TypedStmt-F.Return value place) = returned place value
  stmt_run (TypedStmt-F.Case value place) = pure Next
  stmt_run (TypedStmt-F.Default place) = pure Next

  abbrev pub stmt_layer : TypedStmt-F Part → Part
  stmt_layer s = record { whole = roll-TypedStmt (map-TypedStmt Part TypedStmt (λ p. p.whole) s); run = stmt_run s }

  -- a statement with the statements in it
  abbrev pub stmt_part : TypedStmt → Part
  stmt_part = fold-TypedStmt Part stmt_layer

  abbrev pub run_of : TypedStmt → Body
  run_of s = (stmt_part s).run
