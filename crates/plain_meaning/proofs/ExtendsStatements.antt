-- Initialisers and statements under two meanings of calls, where the second extends the first.
use Rattle.std.proofs.Common.{◌≡◌, ℕ, zero, suc, ◌-◌, ◌≤◌, List, [], ◌∷◌, ◌++◌, Bool, true, false, Option, Some, None, map, refl, sym, ap, ◌∙◌, subst, arith}
use Rattle.std.specs.Prelude.{⊤, if◌then◌else◌}
use Rattle.std.specs.Option.{option_map_or}
use Rattle.std.proofs.lemmas.Simd.{map-map}
use Rattle.c_layout.specs.declared.tags.TagDef.{TagDef}
use Rattle.c_layout.specs.Types.{is_structure}
use Rattle.c_tree.specs.declared.programs.LocalDef.{LocalDef}
use Rattle.c_tree.specs.declared.typed.TypedDeclare.{TypedDeclare}
use Rattle.c_tree.specs.declared.typed.TypedExpr.{TypedExpr}
use Rattle.c_tree.specs.declared.typed.TypedForHead.{TypedForHead}
use Rattle.c_tree.specs.declared.typed.TypedForHead.TheVariants as head
use Rattle.c_tree.specs.declared.typed.TypedInit.{TypedInit}
use Rattle.c_tree.specs.declared.typed.TypedKind.{TypedKind, out-TypedKind}
use Rattle.c_tree.specs.declared.typed.TypedKind.TheOpen.{TypedKind-F}
use Rattle.c_tree.specs.declared.typed.TypedStmt.{TypedStmt, out-TypedStmt, roll-TypedStmt}
use Rattle.c_tree.specs.declared.typed.TypedStmt.TheFolds.{map-TypedStmt, fold-roll-TypedStmt, ind-TypedStmt}
use Rattle.c_tree.specs.declared.typed.TypedStmt.TheOpen.{TypedStmt-F}
use Rattle.c_tree.specs.Statements.{head_declares}
use Rattle.fc_base.specs.declared.refusals.Place.{Place}
use Rattle.run_meaning.specs.Runs.{Going}
use Rattle.object_meaning.specs.LibraryCalls.{number_in}
use Rattle.object_meaning.specs.declared.values.Value.{Value}
use Rattle.plain_meaning.specs.Actions.{Action, ◌>>=◌, ◌>>◌, pure, step, Variable, Register, InObject}
use Rattle.plain_meaning.specs.Expressions.{Calls}
use Rattle.plain_meaning.specs.Statements.{Flow, Next, Broke, Continued, Returned, Body, and_then, and_again, and_out, if_holds, turns, loop, do_loop, begun_in, begin_all, ended, end_all, in_block, Leaf, behind_lvalue, zeroed, text_stored, copied, scalar_stored, leaf_stored, all_stored, initialised, leaves_of, initialise, declarations, Part, declares_layer, declared_by, in_order, from_first, or_default, from_label, discarded, if_any, tested, tested_if_any, head_run, selected, switched, returned, stmt_run, stmt_layer, stmt_part, run_of, is_label_of, is_default_label, is_aggregate, local_type}
use Rattle.plain_meaning.specs.Values.{Lvalue, variable}
use Rattle.plain_meaning.proofs.Extends.{Extends, extends_bind, extends_then, extends_pure, extends_look, extends_stop, extends_step, extends_step_bind, extends_below, extends_none, extends_same}
use Rattle.plain_meaning.proofs.ExtendsNodes.{operations, extends_if}
use Rattle.plain_meaning.proofs.ExtendsTrees.{extends_value}
use Rattle.plain_meaning.proofs.ExtendsValues.{extends_uses, extends_holds, extends_variable}

-- ---- what comes behind a statement

extends_and_then : {low high : ℕ} (a b : Body) (flow : Flow) → Extends low high a b → Extends low high (and_then a flow) (and_then b flow)
extends_and_then a b Next h = h
extends_and_then a b Broke h = extends_pure Broke
extends_and_then a b Continued h = extends_pure Continued
extends_and_then a b (Returned v) h = extends_pure (Returned v)

extends_and_again : {low high : ℕ} (a b : Body) (flow : Flow) → Extends low high a b
    → Extends low high (and_again a flow) (and_again b flow)
extends_and_again a b Next h = h
extends_and_again a b Broke h = extends_pure Next
extends_and_again a b Continued h = h
extends_and_again a b (Returned v) h = extends_pure (Returned v)

extends_and_out : {low high : ℕ} (flow : Flow) → Extends low high (and_out flow) (and_out flow)
extends_and_out Next = extends_pure Next
extends_and_out Broke = extends_pure Next
extends_and_out Continued = extends_pure Continued
extends_and_out (Returned v) = extends_pure (Returned v)

-- ---- loops

extends_if_holds : {low high : ℕ} (t : Bool) (a b : Body) → Extends low high a b → Extends low high (if_holds t a) (if_holds t b)
extends_if_holds true a b h = h
extends_if_holds false a b h = extends_pure Next

module _ {low high : ℕ} (test other_test : Action Bool) (body other_body : Body) (after other_after : Action ⊤)
    (tests : Extends low high test other_test) (bodies : Extends low high body other_body)
    (afters : Extends low high after other_after) where
  -- a turn, whatever comes behind it: its step is one of those that are left
  extends_turn : {near far : ℕ} → near ≤ low → far ≤ high → (a b : Body) → Extends (near - 1) (far - 1) a b
      → Extends near far (test >>= (λ t. if_holds t (step >> body >>= and_again (after >> a))))
      (other_test >>= (λ t. if_holds t (step >> other_body >>= and_again (other_after >> b))))
  extends_turn l h a b both =
      extends_bind test other_test _ _ (extends_below _ _ l h tests) (λ t. extends_if_holds t _ _
      (extends_step_bind body other_body _ _ (extends_below _ _ (omega (arith, l)) (omega (arith, h)) bodies) (λ flow.
      extends_and_again (after >> a) (other_after >> b) flow
      (extends_then after other_after a b (extends_below _ _ (omega (arith, l)) (omega (arith, h)) afters) both))))

  -- as many turns only add events
  same_turns : (n : ℕ) → Extends 0 0 (turns n test body after) (turns n other_test other_body other_after)
  same_turns zero = extends_stop Going
  same_turns (suc n) = extends_turn (omega arith) (omega arith) _ _ (extends_below _ _ (omega arith) (omega arith) (same_turns n))

  -- as many turns as the bounds
  extends_turns : (n m : ℕ) → n ≤ low → m ≤ high → Extends n m (turns n test body after) (turns m other_test other_body other_after)
  extends_turns zero m l h = extends_none _ _ (λ i j under over. omega (arith, under)) (same_turns m).grows
  extends_turns (suc n) zero l h = extends_none _ _ (λ i j under over. omega (arith, over)) (same_turns zero).grows
  extends_turns (suc n) (suc m) l h =
      extends_turn l h _ _ (extends_below _ _ (omega arith) (omega arith) (extends_turns n m (omega (arith, l)) (omega (arith, h))))

  extends_loop : Extends low high (loop test body after) (loop other_test other_body other_after)
  extends_loop = record {
    later = λ s n m le l h. (extends_turns (suc n) (suc m) l h).later s n m le (omega arith) (omega arith);
    grows = λ s m. (same_turns (suc m)).grows s m;
  }

-- a loop that begins anew behind each turn is the loop: its number of turns says nothing
module _ (test : Action Bool) (body : Body) (after : Action ⊤) (tests : (low high : ℕ) → Extends low high test test)
    (bodies : (low high : ℕ) → Extends low high body body) (afters : (low high : ℕ) → Extends low high after after) where
  more_turns : (n : ℕ) → Extends n n (turns n test body after) (loop test body after)
  more_turns n = record {
    later = λ s i j le l h.
        (extends_turns test test body body after after (tests n (suc j)) (bodies n (suc j)) (afters n (suc j)) n (suc j)
        (omega arith) (omega arith)).later
        s i j le l (omega arith);
    grows = (extends_loop test test body body after after (tests 0 0) (bodies 0 0) (afters 0 0)).grows;
  }

  pub loop_turns : loop test body after ≡ (test >>= (λ t. if_holds t (step >> body >>= and_again (after >> loop test body after))))
  loop_turns i s n =
      extends_same {low = suc n} {high = suc n} _ _ s n (omega arith) (omega arith)
      (extends_turn test test body body after after (tests (suc n) (suc n)) (bodies (suc n) (suc n)) (afters (suc n) (suc n))
      (omega arith) (omega arith) (turns n test body after) (loop test body after) (extends_below _ _ (omega arith) (omega arith) (more_turns n))) i

extends_do_loop : {low high : ℕ} (test other_test : Action Bool) (body other_body : Body) → Extends low high test other_test
    → Extends low high body other_body → Extends low high (do_loop test body) (do_loop other_test other_body)
extends_do_loop test other_test body other_body tests bodies =
    extends_step _ _ (extends_below _ _ (omega arith) (omega arith) (extends_bind body other_body _ _ bodies (λ flow.
    extends_and_again _ _ flow (extends_loop test other_test body other_body (pure tt) (pure tt) tests bodies (extends_pure tt)))))

-- ---- blocks

module _ {low high : ℕ} (tags : List TagDef) (locals : List LocalDef) where
  extends_begun_in : (in_register : Bool) (n : ℕ)
      → Extends low high (begun_in tags locals in_register n) (begun_in tags locals in_register n)
  extends_begun_in true n = search operations
  extends_begun_in false n = search operations

  pub extends_begin_all : (ns : List ℕ) → Extends low high (begin_all tags locals ns) (begin_all tags locals ns)
  extends_begin_all [] = extends_pure tt
  extends_begin_all (n ∷ ns) = extends_then _ _ _ _ (extends_begun_in _ n) (extends_begin_all ns)

  extends_ended : (v : Variable) → Extends low high (ended tags locals v) (ended tags locals v)
  extends_ended (Register value) = extends_pure tt
  extends_ended (InObject o) = search operations

  pub extends_end_all : (ns : List ℕ) → Extends low high (end_all tags locals ns) (end_all tags locals ns)
  extends_end_all [] = extends_pure tt
  extends_end_all (n ∷ ns) = extends_bind _ _ _ _ (extends_look _) (λ v. extends_then _ _ _ _ (extends_ended v) (extends_end_all ns))

  extends_block : (ns : List ℕ) (a b : Body) → Extends low high a b
      → Extends low high (in_block tags locals ns a) (in_block tags locals ns b)
  extends_block ns a b h =
      extends_then _ _ _ _ (extends_begin_all ns) (extends_bind a b _ _ h (λ flow.
      extends_then _ _ _ _ (extends_end_all ns) (extends_pure flow)))

-- ---- initialisers

extends_zeroed : {low high : ℕ} (v : Variable) → Extends low high (zeroed v) (zeroed v)
extends_zeroed (Register value) = extends_pure tt
extends_zeroed (InObject o) = search operations

module _ {low high : ℕ} (tags : List TagDef) (locals : List LocalDef) (c d : Calls)
    (calls : (n : ℕ) (at : Place) (vs : List Value) → Extends low high (c n at vs) (d n at vs)) where
  extends_text : (at : Place) (text : List ℕ) (x : Lvalue)
      → Extends low high (text_stored tags locals c at text x) (text_stored tags locals d at text x)
  extends_text at text x = search operations

  extends_copied : (e : TypedExpr) (x : Lvalue) → Extends low high (copied tags locals c e x) (copied tags locals d e x)
  extends_copied e x = search (operations, extends_value tags c d calls)

  extends_scalar : (e : TypedExpr) (x : Lvalue) → Extends low high (scalar_stored tags locals c e x) (scalar_stored tags locals d e x)
  extends_scalar e x = search (operations, extends_value tags c d calls)

  extends_whole : (e : TypedExpr) (x : Lvalue)
      → Extends low high (if is_structure e.ctype then copied tags locals c e x else scalar_stored tags locals c e x)
      (if is_structure e.ctype then copied tags locals d e x else scalar_stored tags locals d e x)
  extends_whole e x = extends_if (is_structure e.ctype) _ _ _ _ (extends_copied e x) (extends_scalar e x)

  extends_leaf : (k : TypedKind-F TypedKind TypedExpr) (e : TypedExpr) (x : Lvalue)
      → Extends low high (leaf_stored tags locals c k e x) (leaf_stored tags locals d k e x)
  extends_leaf (TypedKind-F.Str text) e x = extends_text e.place text x
  extends_leaf _ e x = extends_whole e x

  extends_all_stored : (x : Lvalue) (leaves : List Leaf)
      → Extends low high (all_stored tags locals c x leaves) (all_stored tags locals d x leaves)
  extends_all_stored x [] = extends_pure tt
  extends_all_stored x (leaf ∷ more) =
      extends_then _ _ _ _ (extends_leaf (out-TypedKind leaf.value.kind) leaf.value (behind_lvalue leaf.at x)) (extends_all_stored x more)

  extends_initialised : (n : ℕ) (leaves : List Leaf)
      → Extends low high (initialised tags locals c n leaves) (initialised tags locals d n leaves)
  extends_initialised n leaves = extends_bind (variable n) (variable n) _ _ (extends_variable n) (λ x. extends_all_stored x leaves)

  extends_initialise : (n : ℕ) (init : TypedInit) → Extends low high (initialise tags locals c n init) (initialise tags locals d n init)
  extends_initialise n init =
      extends_if (is_aggregate (local_type tags locals n)) _ _ _ _
      (extends_bind _ _ _ _ (extends_look _) (λ v. extends_then _ _ _ _ (extends_zeroed v) (extends_initialised n (leaves_of init))))
      (extends_initialised n (leaves_of init))

  extends_if_declared : (n : ℕ) (init : Option TypedInit)
      → Extends low high (option_map_or (initialise tags locals c n) init (pure tt)) (option_map_or (initialise tags locals d n) init (pure tt))
  extends_if_declared n None = extends_pure tt
  extends_if_declared n (Some init) = extends_initialise n init

  extends_declarations : (ds : List TypedDeclare) → Extends low high (declarations tags locals c ds) (declarations tags locals d ds)
  extends_declarations [] = extends_pure tt
  extends_declarations (v ∷ vs) = extends_then _ _ _ _ (extends_if_declared v.local v.init) (extends_declarations vs)

-- ---- statements

abbrev part : TypedStmt → Body → Part
part whole run = record { whole = whole; run = run }

pub data Alike (low high : ℕ) : Part → Part → Type 0 where
  alike : (whole : TypedStmt) (a b : Body) → Extends low high a b → Alike low high (part whole a) (part whole b)

pub data AllAlike (low high : ℕ) : List Part → List Part → Type 0 where
  none : AllAlike low high [] []
  more : (p q : Part) (ps qs : List Part) → Alike low high p q → AllAlike low high ps qs → AllAlike low high (p ∷ ps) (q ∷ qs)

extends_run : {low high : ℕ} (p q : Part) → Alike low high p q → Extends low high p.run q.run
extends_run _ _ (alike w a b h) = h

wholes : {low high : ℕ} (ps qs : List Part) → AllAlike low high ps qs → map (λ p. p.whole) ps ≡ map (λ p. p.whole) qs
wholes _ _ none = refl
wholes _ _ (more _ _ ps qs (alike w a b h) all) = ap (λ ss. w ∷ ss) (wholes ps qs all)

same_declared : {low high : ℕ} (ps qs : List Part) → AllAlike low high ps qs → declared_by ps ≡ declared_by qs
same_declared _ _ none = refl
same_declared _ _ (more _ _ ps qs (alike w a b h) all) = ap (λ ns. declares_layer (out-TypedStmt w) ++ ns) (same_declared ps qs all)

extends_in_order : {low high : ℕ} (ps qs : List Part) → AllAlike low high ps qs → Extends low high (in_order ps) (in_order qs)
extends_in_order _ _ none = extends_pure Next
extends_in_order _ _ (more _ _ ps qs (alike w a b h) all) =
    extends_bind a b _ _ h (λ flow. extends_and_then _ _ flow (extends_in_order ps qs all))

-- where a switch begins
alike_if : {low high : ℕ} (t : Bool) (ps qs rs ss : List Part) → AllAlike low high ps qs → AllAlike low high rs ss
    → AllAlike low high (if t then ps else rs) (if t then qs else ss)
alike_if true ps qs rs ss h k = h
alike_if false ps qs rs ss h k = k

from_alike : {low high : ℕ} (here : TypedStmt → Bool) (ps qs : List Part) → AllAlike low high ps qs
    → AllAlike low high (from_first (λ p. here p.whole) ps) (from_first (λ p. here p.whole) qs)
from_alike here _ _ none = none
from_alike here _ _ (more _ _ ps qs (alike w a b h) all) =
    alike_if (here w) _ _ _ _ (more _ _ ps qs (alike w a b h) all) (from_alike here ps qs all)

or_alike : {low high : ℕ} (ps qs rs ss : List Part) → AllAlike low high ps qs → AllAlike low high rs ss
    → AllAlike low high (or_default ps rs) (or_default qs ss)
or_alike _ _ rs ss none all = from_alike (λ w. is_default_label (part w (pure Next))) rs ss all
or_alike _ _ rs ss (more p q ps qs h found) all = more p q ps qs h found

label_alike : {low high : ℕ} (tags : List TagDef) (v : ℕ) (ps qs : List Part) → AllAlike low high ps qs
    → AllAlike low high (from_label tags v ps) (from_label tags v qs)
label_alike tags v ps qs all = or_alike _ _ ps qs (from_alike (λ w. is_label_of tags v (part w (pure Next))) ps qs all) all

same_whole : {low high : ℕ} (p q : Part) → Alike low high p q → p.whole ≡ q.whole
same_whole _ _ (alike w a b h) = refl

-- parts of parts
pub map_map : (A B C : Type 0) (f : A → B) (g : B → C) (y : TypedStmt-F A)
    → map-TypedStmt B C g (map-TypedStmt A B f y) ≡ map-TypedStmt A C (λ a. g (f a)) y
map_map A B C f g (TypedStmt-F.Block items at) = ap (λ xs. TypedStmt-F.Block xs at) (map-map g f items)
map_map A B C f g (TypedStmt-F.If test a None at) = refl
map_map A B C f g (TypedStmt-F.If test a (Some b) at) = refl
map_map A B C f g (TypedStmt-F.Switch subject items at) = ap (λ xs. TypedStmt-F.Switch subject xs at) (map-map g f items)
map_map A B C f g _ = refl

module _ {low high : ℕ} (tags : List TagDef) (locals : List LocalDef) (c d : Calls)
    (calls : (n : ℕ) (at : Place) (vs : List Value) → Extends low high (c n at vs) (d n at vs)) where
  extends_discarded : (e : TypedExpr) → Extends low high (discarded tags locals c e) (discarded tags locals d e)
  extends_discarded e = extends_bind _ _ _ _ (extends_value tags c d calls e) (λ v. extends_pure tt)

  extends_if_any : (e : Option TypedExpr) → Extends low high (if_any tags locals c e) (if_any tags locals d e)
  extends_if_any None = extends_pure tt
  extends_if_any (Some e) = extends_discarded e

  extends_tested : (at : Place) (e : TypedExpr) → Extends low high (tested tags locals c at e) (tested tags locals d at e)
  extends_tested at e = extends_bind _ _ _ _ (extends_value tags c d calls e) (λ v. extends_holds at v)

  extends_tested_if_any : (at : Place) (e : Option TypedExpr)
      → Extends low high (tested_if_any tags locals c at e) (tested_if_any tags locals d at e)
  extends_tested_if_any at None = extends_pure true
  extends_tested_if_any at (Some e) = extends_tested at e

  extends_head : (h : TypedForHead) → Extends low high (head_run tags locals c h) (head_run tags locals d h)
  extends_head (head.Evaluate e) = extends_if_any e
  extends_head (head.Variables variables) = extends_declarations tags locals c d calls variables

  extends_selected : (at : Place) (test : TypedExpr) (a b p q : Body) → Extends low high a p → Extends low high b q
      → Extends low high (selected tags locals c at test a b) (selected tags locals d at test p q)
  extends_selected at test a b p q h k = extends_bind _ _ _ _ (extends_tested at test) (λ t. extends_if t a b p q h k)

  extends_switched : (at : Place) (subject : TypedExpr) (ps qs : List Part) → AllAlike low high ps qs
      → Extends low high (switched tags locals c at subject ps) (switched tags locals d at subject qs)
  extends_switched at subject ps qs all =
      extends_bind _ _ _ _ (extends_value tags c d calls subject) (λ v.
      extends_then _ _ _ _ (extends_uses at (v ∷ []))
      (extends_bind _ _ _ _ (extends_in_order _ _ (label_alike tags (number_in v) ps qs all)) (λ flow. extends_and_out flow)))

  extends_returned : (at : Place) (e : Option TypedExpr) → Extends low high (returned tags locals c at e) (returned tags locals d at e)
  extends_returned at None = extends_pure _
  extends_returned at (Some e) =
      extends_bind _ _ _ _ (extends_value tags c d calls e) (λ v. extends_then _ _ _ _ (extends_uses at (v ∷ [])) (extends_pure (Returned v)))

  extends_items : (ps qs : List Part) → AllAlike low high ps qs
      → Extends low high (in_block tags locals (declared_by ps) (in_order ps)) (in_block tags locals (declared_by qs) (in_order qs))
  extends_items ps qs all =
      subst (λ ns. Extends low high (in_block tags locals (declared_by ps) (in_order ps)) (in_block tags locals ns (in_order qs))) (same_declared ps qs all)
      (extends_block tags locals (declared_by ps) (in_order ps) (in_order qs) (extends_in_order ps qs all))

  -- a statement whose parts are alike
  module _ (A : Type 0) (p q : A → Part) (parts : (a : A) → Alike low high (p a) (q a)) where
    all_alike : (xs : List A) → AllAlike low high (map p xs) (map q xs)
    all_alike [] = none
    all_alike (x ∷ xs) = more _ _ _ _ (parts x) (all_alike xs)

    extends_at : (a : A) → Extends low high (p a).run (q a).run
    extends_at a = extends_run _ _ (parts a)

    layer_run : (y : TypedStmt-F A)
        → Extends low high (stmt_run tags locals c (map-TypedStmt A Part p y)) (stmt_run tags locals d (map-TypedStmt A Part q y))
    layer_run (TypedStmt-F.Block items at) = extends_items _ _ (all_alike items)
    layer_run (TypedStmt-F.Declare v) = extends_then _ _ _ _ (extends_if_declared tags locals c d calls v.local v.init) (extends_pure Next)
    layer_run (TypedStmt-F.Expr e at) = extends_then _ _ _ _ (extends_if_any e) (extends_pure Next)
    layer_run (TypedStmt-F.If test a None at) = extends_selected at test _ _ _ _ (extends_at a) (extends_pure Next)
    layer_run (TypedStmt-F.If test a (Some b) at) = extends_selected at test _ _ _ _ (extends_at a) (extends_at b)
    layer_run (TypedStmt-F.While test body at) = extends_loop _ _ _ _ _ _ (extends_tested at test) (extends_at body) (extends_pure tt)
    layer_run (TypedStmt-F.Do body test at) = extends_do_loop _ _ _ _ (extends_tested at test) (extends_at body)
    layer_run (TypedStmt-F.For first test after body at) =
        extends_block tags locals (head_declares first) _ _
        (extends_then _ _ _ _ (extends_head first)
        (extends_loop _ _ _ _ _ _ (extends_tested_if_any at test) (extends_at body) (extends_if_any after)))
    layer_run (TypedStmt-F.Switch subject items at) = extends_switched at subject _ _ (all_alike items)
    layer_run (TypedStmt-F.Break at) = extends_pure Broke
    layer_run (TypedStmt-F.Continue at) = extends_pure Continued
    layer_run (TypedStmt-F.Return e at) = extends_returned at e
    layer_run (TypedStmt-F.Case e at) = extends_pure Next
    layer_run (TypedStmt-F.Default at) = extends_pure Next

    layer_whole : (y : TypedStmt-F A)
        → map-TypedStmt Part TypedStmt (λ p. p.whole) (map-TypedStmt A Part p y) ≡ map-TypedStmt Part TypedStmt (λ p. p.whole) (map-TypedStmt A Part q y)
    layer_whole (TypedStmt-F.Block items at) = ap (λ xs. TypedStmt-F.Block xs at) (wholes _ _ (all_alike items))
    layer_whole (TypedStmt-F.If test a None at) = cc (same_whole _ _ (parts a))
    layer_whole (TypedStmt-F.If test a (Some b) at) = cc (same_whole _ _ (parts a), same_whole _ _ (parts b))
    layer_whole (TypedStmt-F.While test body at) = cc (same_whole _ _ (parts body))
    layer_whole (TypedStmt-F.Do body test at) = cc (same_whole _ _ (parts body))
    layer_whole (TypedStmt-F.For first test after body at) = cc (same_whole _ _ (parts body))
    layer_whole (TypedStmt-F.Switch subject items at) = ap (λ xs. TypedStmt-F.Switch subject xs at) (wholes _ _ (all_alike items))
    layer_whole _ = refl

    layer_alike : (y : TypedStmt-F A)
        → Alike low high (stmt_layer tags locals c (map-TypedStmt A Part p y)) (stmt_layer tags locals d (map-TypedStmt A Part q y))
    layer_alike y =
        subst (λ whole. Alike low high (stmt_layer tags locals c (map-TypedStmt A Part p y)) (part whole (stmt_run tags locals d (map-TypedStmt A Part q y))))
        (ap roll-TypedStmt (layer_whole y))
        (alike (roll-TypedStmt (map-TypedStmt Part TypedStmt (λ p. p.whole) (map-TypedStmt A Part p y))) _ _ (layer_run y))

  abbrev IsAlike : TypedStmt → Type 0
  IsAlike s = Alike low high (stmt_part tags locals c s) (stmt_part tags locals d s)

  -- a statement by what is below it, in whichever form that is given
  module _ (A : Type 0) (f : A → TypedStmt) where
    abbrev rolled : TypedStmt-F A → TypedStmt
    rolled y = roll-TypedStmt (map-TypedStmt A TypedStmt f y)

    stmt_is : (c : Calls) (y : TypedStmt-F A)
        → stmt_part tags locals c (rolled y) ≡ stmt_layer tags locals c (map-TypedStmt A Part (λ a. stmt_part tags locals c (f a)) y)
    stmt_is c y =
        fold-roll-TypedStmt Part (stmt_layer tags locals c) (map-TypedStmt A TypedStmt f y)
        ∙ ap (stmt_layer tags locals c) (map_map A TypedStmt Part f (stmt_part tags locals c) y)

    rolled_alike : ((a : A) → IsAlike (f a)) → (y : TypedStmt-F A) → IsAlike (rolled y)
    rolled_alike parts y =
        subst (λ p. Alike low high p (stmt_part tags locals d (rolled y))) (sym (stmt_is c y))
        (subst (λ p. Alike low high (stmt_layer tags locals c (map-TypedStmt A Part (λ a. stmt_part tags locals c (f a)) y)) p) (sym (stmt_is d y))
        (layer_alike A (λ a. stmt_part tags locals c (f a)) (λ a. stmt_part tags locals d (f a)) parts y))

    stmt_alike : ((a : A) → IsAlike (f a)) → (x : TypedStmt-F TypedStmt) (y : TypedStmt-F A) → map-TypedStmt A TypedStmt f y ≡ x
        → IsAlike (roll-TypedStmt x)
    stmt_alike parts x y is = subst (λ x. IsAlike (roll-TypedStmt x)) is (rolled_alike parts y)

  pub extends_stmt : (s : TypedStmt) → Extends low high (run_of tags locals c s) (run_of tags locals d s)
  extends_stmt s = extends_run _ _ (ind-TypedStmt IsAlike (λ x y is. stmt_alike _ (λ a. a.0) (λ a. a.1) x y is) s)
