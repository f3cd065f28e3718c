-- The arguments of a call, one token after the other.
use Rattle.std.proofs.Common.{◌≡◌, ℕ, ◌==◌, Bool, true, false, ◌&&◌, if◌then◌else◌, List, [], ◌∷◌, ◌++◌, length, Option, Some, None, option_map, refl, sym, ap, ◌∙◌, append_assoc}
use Rattle.std.proofs.lemmas.List.{append-nil, map-append, reverse-append}
use Rattle.macro_meaning.specs.Macros.{HideSet, Item, Argument, written, closes, is_comma}
use Rattle.macro_meaning.specs.Turns.{Call, longer, another, ends_call, nest_after, call, arguments}
use Rattle.macro_items.specs.declared.calls.Step.{Step}
use Rattle.macro_items.specs.declared.calls.Step.TheVariants.{Ends, Parts, Goes}
use Rattle.macro_items.specs.declared.items.Item.{Item as Held}
use Rattle.macro_items.specs.Views.{view, left}
use Rattle.macro_items.specs.Gathering.{step, IsCall}

-- the whole call, where these arguments and these tokens of the next were read
pub record Whole : Type 0 where
  pub args : List Argument
  pub close : HideSet
  pub rest : List Item

abbrev pub seen : List Argument → List Item → Option Call → Option Whole
seen done current = option_map (λ c. record { args = done ++ written (current ++ c.first) ∷ c.others; close = c.close; rest = c.rest })

abbrev pub whole : Option Call → Option Whole
whole = option_map (λ c. record { args = arguments c; close = c.close; rest = c.rest })

pub seen_nothing : (o : Option Call) → seen [] [] o ≡ whole o
seen_nothing None = refl
seen_nothing (Some c) = refl

seen_longer : (done : List Argument) (current : List Item) (t : Item) (o : Option Call)
    → seen done current (longer t o) ≡ seen done (current ++ t ∷ []) o
seen_longer done current t None = refl
seen_longer done current t (Some c) = rw append_assoc refl

seen_another : (done : List Argument) (current : List Item) (o : Option Call)
    → seen done current (another o) ≡ seen (done ++ written current ∷ []) [] o
seen_another done current None = refl
seen_another done current (Some c) = rw (append_assoc, append-nil) refl

pub left_pop : (old new : List Held) (x : Held) → old ≡ new ++ x ∷ [] → left old ≡ view x ∷ left new
left_pop old new x e = rw e (simp (map-append, reverse-append))

-- ---- a call by the step of its first token

by_step : Item → List Item → Step → Option Call
by_step t ts Ends = ends_call t ts
by_step t ts Parts = another (call 0 ts)
by_step t ts (Goes n) = longer t (call n ts)

by_tests : (t : Item) (ts : List Item) (n : ℕ) (a b : Bool)
    → (if a then ends_call t ts else (if b then another (call 0 ts) else longer t (call n ts)))
    ≡ by_step t ts (if a then Ends else (if b then Parts else Goes n))
unfolding by_step
by_tests t ts n true b = refl
by_tests t ts n false true = refl
by_tests t ts n false false = refl

stepped : (nest : ℕ) (t : Item) (ts : List Item) (s : Step) → s ≡ step nest t.kind → call nest (t ∷ ts) ≡ by_step t ts s
unfolding call
stepped nest t ts s e = rw e (by_tests t ts (nest_after nest t.kind) (nest == 0 && closes t.kind) (nest == 0 && is_comma t.kind))

pub goes_on : (done : List Argument) (current : List Item) (nest now : ℕ) (t : Item) (ts old : List Item) (all : Option Whole)
    → old ≡ t ∷ ts → Goes now ≡ step nest t.kind
    → seen done current (call nest old) ≡ all → seen done (current ++ t ∷ []) (call now ts) ≡ all
unfolding by_step
goes_on done current nest now t ts old all e a so_far =
    let h = rw (e, stepped nest t ts (Goes now) a) at so_far in sym (seen_longer done current t (call now ts)) ∙ h

pub parts_here : (done : List Argument) (current : List Item) (nest : ℕ) (t : Item) (ts old : List Item) (all : Option Whole) → old ≡ t ∷ ts
    → Parts ≡ step nest t.kind
    → seen done current (call nest old) ≡ all → seen (done ++ written current ∷ []) [] (call 0 ts) ≡ all
unfolding by_step
parts_here done current nest t ts old all e a so_far =
    let h = rw (e, stepped nest t ts Parts a) at so_far in sym (seen_another done current (call 0 ts)) ∙ h

is_call : (args : List Argument) (close : HideSet) (rest : List Item) (c : Option Call)
    → Some (record { args = args; close = close; rest = rest }) ≡ whole c → IsCall args close rest c
is_call args close rest None e = cc
is_call args close rest (Some c) e =
    let same : ◌≡◌ {A = Whole} (record { args = arguments c; close = c.close; rest = c.rest })
    (record { args = args; close = close; rest = rest }) = cc in
    (ap (λ (w : Whole). w.args) same, ap (λ (w : Whole). w.close) same, ap (λ (w : Whole). w.rest) same)

pub ends_here : (done : List Argument) (current : List Item) (nest : ℕ) (t : Item) (ts old : List Item) (all : Option Call) → old ≡ t ∷ ts
    → Ends ≡ step nest t.kind
    → seen done current (call nest old) ≡ whole all → IsCall (done ++ written current ∷ []) t.hide ts all
unfolding by_step
ends_here done current nest t ts old all e a so_far =
    let h = rw (e, stepped nest t ts Ends a, append-nil) at so_far in is_call (done ++ written current ∷ []) t.hide ts all h

none_whole : (c : Option Call) → None ≡ whole c → c ≡ None
none_whole None e = refl
none_whole (Some c) e = cc

pub misses : (done : List Argument) (current : List Item) (nest : ℕ) (old : List Item) (all : Option Call) → old ≡ []
    → seen done current (call nest old) ≡ whole all → all ≡ None
unfolding call
misses done current nest old all e so_far = let h = rw e at so_far in none_whole all h

pub left_none : (items : List Held) → length items ≡ 0 → left items ≡ []
left_none [] e = refl
left_none (x ∷ xs) e = cc
