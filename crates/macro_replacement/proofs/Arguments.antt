-- Arguments in their Vec.
use Rattle.std.proofs.Common.{◌≡◌, ℕ, zero, suc, ◌+◌, ◌≤◌, ◌<◌, List, [], ◌∷◌, ◌++◌, reverse, length, get_or, map, take, drop, ◌-◌, Option, Some, option_map, Ok, refl, sym, ap, ◌∙◌, add-one, drop-cons, arith, length-append, append_assoc}
use Rattle.std.specs.List.{slice_get}
use Rattle.std.specs.Prelude.{slice_set, Vec}
use Rattle.std.specs.Global.{Global}
use Rattle.std.proofs.lemmas.Option.{slice_get-map, slice_get-get_or, slice_get_past}
use Rattle.std.proofs.lemmas.List.{length-map, take-map, drop-map, map_push, map_more, map-set, set-get_or, map-append, reverse-append, reverse-reverse}
use Rattle.std.proofs.Math.Seq.{take-append_seam, drop-append_seam}
use Rattle.fc_base.specs.declared.Fault.{Fault}
use Rattle.fc_base.specs.declared.Fault.TheVariants.{Refused, NoMemory}
use Rattle.macro_items.specs.declared.Item.{Item as Held}
use Rattle.macro_items.specs.declared.BodyPart.{BodyPart as Part}
use Rattle.macro_items.specs.declared.Argument.{Argument as Operand}
use Rattle.macro_items.specs.declared.Argument.TheVariants.{Written, Expanded}
use Rattle.fc_base.specs.Answers.{Fails}
use Rattle.macro_meaning.specs.Macros.{HideSet, Item, Macros, written, expanded}
use Rattle.macro_meaning.specs.Turns.{union}
use Rattle.macro_meaning.specs.Replacement.{hidden, argument_text, Expands, Readies, absent, again, fails, first}
use Rattle.macro_items.specs.Views.{view, views, left, argument_view, argument_views}

found : (args : List Operand) (k : ℕ) (a : Operand) → k < length args → a ≡ get_or args k a
    → slice_get (argument_views args) k ≡ Some (argument_view a)
found args k a lt e = slice_get-map argument_view args k
    ∙ ap (λ (o : Option Operand). option_map argument_view o) (slice_get-get_or args k a lt ∙ ap (λ (x : Operand). Some x) (sym e))

pub is_absent : (ms : Macros) (depth count : ℕ) (args : List Operand) (k : ℕ) → length args ≤ k
    → Readies ms depth count (argument_views args) k (Ok (argument_views args, count))
is_absent ms depth count args k le =
    absent (slice_get-map argument_view args k ∙ ap (λ (o : Option Operand). option_map argument_view o) (slice_get_past args k le))

map_reverse : (items : List Held) → views (reverse items) ≡ reverse (views items)
map_reverse [] = refl
map_reverse (x ∷ xs) =
    ap views (reverse-append (x ∷ []) xs) ∙ map-append view (reverse xs) (x ∷ [])
    ∙ ap (λ (ts : List Item). ts ++ view x ∷ []) (map_reverse xs) ∙ sym (reverse-append (view x ∷ []) (views xs))

pub turned : (items : List Held) → left (reverse items) ≡ views items
turned items = ap reverse (map_reverse items) ∙ reverse-reverse (views items)

set_twice : {X : Type 0} (xs : List X) (k : ℕ) (x y : X) → slice_set (slice_set xs k x) k y ≡ slice_set xs k y
set_twice [] k x y = refl
set_twice (z ∷ xs) zero x y = refl
set_twice {X = X} (z ∷ xs) (suc k) x y = ap (λ (ys : List X). z ∷ ys) (set_twice xs k x y)

pub is_again : (ms : Macros) (depth count : ℕ) (args : List Operand) (k : ℕ) (a any : Operand) (ts : Vec Held Global) → k < length args
    → a ≡ get_or args k a → Expanded ts ≡ a
    → Readies ms depth count (argument_views args) k (Ok (argument_views (slice_set (slice_set args k any) k (Expanded ts)), count))
is_again ms depth count args k a any ts lt e r =
    let at : slice_get (argument_views args) k ≡ Some (expanded (views ts.items)) = found args k a lt e
    ∙ ap (λ (x : Operand). Some (argument_view x)) (sym r) in
    let same : slice_set (slice_set args k any) k (Expanded ts) ≡ args =
    set_twice args k any (Expanded ts) ∙ ap (λ (x : Operand). slice_set args k x) (r ∙ e) ∙ set-get_or args k a in
    rw same (again at)

pub is_expanded : (ms : Macros) (depth count count' : ℕ) (args : List Operand) (k : ℕ) (a any : Operand) (ts pending new : Vec Held Global)
    → k < length args → a ≡ get_or args k a → Written ts ≡ a
    → pending.items ≡ reverse ts.items → Expands ms (depth + 1) count (left pending.items) (Ok (views new.items, count'))
    → Readies ms depth count (argument_views args) k (Ok (argument_views (slice_set (slice_set args k any) k (Expanded new)), count'))
is_expanded ms depth count count' args k a any ts pending new lt e r p x =
    let at : slice_get (argument_views args) k ≡ Some (written (views ts.items)) = found args k a lt e
    ∙ ap (λ (y : Operand). Some (argument_view y)) (sym r) in
    let x' = rw (p, turned) at x in
    rw (set_twice args k any (Expanded new), map-set) (first at x')

pub is_refused : (f : Fault) (ms : Macros) (depth count : ℕ) (args : List Operand) (k : ℕ) (a : Operand) (ts pending : Vec Held Global)
    → k < length args → a ≡ get_or args k a → Written ts ≡ a
    → pending.items ≡ reverse ts.items → Fails f (Expands ms (depth + 1) count (left pending.items))
    → Fails f (Readies ms depth count (argument_views args) k)
is_refused NoMemory ms depth count args k a ts pending lt e r p m = tt
is_refused (Refused q) ms depth count args k a ts pending lt e r p m =
    let at : slice_get (argument_views args) k ≡ Some (written (views ts.items)) = found args k a lt e
    ∙ ap (λ (y : Operand). Some (argument_view y)) (sym r) in
    let m' = rw (p, turned) at m in
    fails at m'

pub text_at : (args : List Operand) (k : ℕ) (a : Operand) → k < length args
    → argument_text (slice_get (argument_views args) k) ≡ argument_text (Some (argument_view (get_or args k a)))
text_at args k a lt = rw (slice_get-map argument_view args k, slice_get-get_or args k a lt) refl

pub dropped : (body : List Part) (i : ℕ) (d p : Part) → i < length body → get_or body i d ≡ p → drop i body ≡ p ∷ drop (i + 1) body
dropped body i d p lt e = rw add-one (drop-cons body i d lt ∙ ap (λ (x : Part). x ∷ drop (suc i) body) e)

pub text_absent : (args : List Operand) (k : ℕ) → length args ≤ k → argument_text (slice_get (argument_views args) k) ≡ []
text_absent args k le = rw (slice_get-map argument_view args k, slice_get_past args k le) refl

-- ---- tokens that were put behind what is left, and then turned

module _ (pending list : List Held) (added : List Item) (start : ℕ) (from : start ≡ length pending)
    (is : views list ≡ views pending ++ added) where
  pub put_count : (n : ℕ) → n ≡ length list → n - start ≡ length added
  put_count n e = omega
      (arith, ap (λ (ts : List Item). length ts) is, length-append (views pending) added, length-map pending view, length-map list view)

  seam : start ≡ length (views pending)
  seam = from ∙ sym (length-map pending view)

  pub put_back : (new : List Held) → new ≡ take start list ++ reverse (drop start list) → left new ≡ added ++ left pending
  put_back new e =
      let low : views (take start list) ≡ views pending = rw (← take-map view, is, seam, take-append_seam) refl in
      let high : views (drop start list) ≡ added = rw (← drop-map view, is, seam, drop-append_seam) refl in
      rw (e, map-append, map_reverse, low, high, reverse-append, reverse-reverse) refl

-- ---- the tokens of an argument, one after the other

module _ (before new tokens : List Held) (i : ℕ) (x y : Held) (hide both : HideSet) (lt : i < length tokens)
    (item : x ≡ get_or tokens i x) where
  pub hidden_more : view y ≡ record (view x) { hide = both } → both ≡ union (view x).hide hide
      → views new ≡ views before ++ map (hidden hide) (views (take i tokens))
      → views (new ++ y ∷ []) ≡ views before ++ map (hidden hide) (views (take (i + 1) tokens))
  hidden_more e b so_far =
      let one : view y ≡ hidden hide (view x) = e ∙ ap (λ (set : HideSet). record (view x) { hide = set }) b in
      rw (map_push, so_far, one, map_more view tokens i x lt, ← item, map-append, append_assoc) refl
