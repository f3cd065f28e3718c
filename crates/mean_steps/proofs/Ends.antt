-- The machine's moves, one after the other: the same answer, less work each, and so an end.
use Rattle.std.proofs.Common.{◌≡◌, ℕ, zero, suc, ◌+◌, ◌<◌, ◌≤◌, List, [], ◌∷◌, Bool, true, false, Option, refl, ap, ◌∙◌, arith}
use Rattle.std.specs.Prelude.{if◌then◌else◌}
use Rattle.c_layout.specs.declared.tags.TagDef.{TagDef}
use Rattle.fc_base.specs.declared.refusals.Place.{Place}
use Rattle.object_meaning.specs.declared.values.Value.{Value}
use Rattle.plain_meaning.specs.Actions.{State}
use Rattle.plain_meaning.specs.Expressions.{Calls}
use Rattle.mean_steps.specs.After.{Answer, answer_at}
use Rattle.mean_steps.specs.Laws.{Advances, Settles}
use Rattle.mean_steps.specs.Machine.{Pending, Signal, Control, Eval, Designate, Tell, Begin, Over, Config, Move, goes, eval, place_of, resume}
use Rattle.mean_steps.specs.Weights.{is_running, one_if, move_weight, work, advance, moved}
use Rattle.mean_steps.proofs.Keeps.{eval_keeps, place_keeps, resume_keeps}
use Rattle.mean_steps.proofs.Weights.{eval_less, find_less, resume_less}

at_most_one : (t : Bool) → one_if t ≤ 1
at_most_one true = omega arith
at_most_one false = omega arith

-- a move that weighs less than one that runs has less work behind it
less_by : (m : Move) (n : ℕ) → move_weight m < n → work m < n + 1
less_by m n h = let t = at_most_one (is_running m) in omega (arith, h, t)

module _ (tags : List TagDef) where
  -- a move more, where the machine goes on by itself
  moved_over : (n : ℕ) (m : Move) (t : Bool) → is_running m ≡ t → (t ≡ true → is_running (moved tags n (advance tags m)) ≡ false)
      → is_running (if t then moved tags n (advance tags m) else m) ≡ false
  moved_over n m true is h = h refl
  moved_over n m false is h = is

  weighs : (m : Move) (t : Bool) → is_running m ≡ t → work m ≤ 0 → t ≡ false
  weighs m true is h = let one = ap one_if is in absurd (omega (arith, one, h))
  weighs m false is h = refl

module _ (tags : List TagDef) (call : Calls) (ends : Option Place → Value → State → ℕ → Answer) where
  handed_advances : (ps : List Pending) (signal : Signal) (c : Config)
      → Advances tags call ends (goes (Tell signal) (record c { pending = ps }))
  handed_advances [] signal c = record { same = λ l. refl; less = λ h. absurd (cc) }
  handed_advances (p ∷ ps) signal c = record {
    same = λ l. resume_keeps tags call ends p signal (record c { pending = ps }) l;
    less = λ h.
        let rest = record c { pending = ps } in
        let w = less_by (resume tags p signal rest) _ (resume_less tags p signal rest) in
        omega (arith, w);
  }

  advances_by : (k : Control) (c : Config) → Advances tags call ends (goes k c)
  advances_by (Eval e) c = record {
    same = λ l. eval_keeps tags call ends e c l;
    less = λ h. less_by (eval tags e c) _ (eval_less tags e c);
  }
  advances_by (Designate e) c = record {
    same = λ l. place_keeps tags call ends e c l;
    less = λ h. less_by (place_of tags e c) _ (find_less tags e c);
  }
  advances_by (Tell signal) c = handed_advances c.pending signal c
  advances_by (Begin n at) c = record { same = λ l. refl; less = λ h. absurd (cc) }
  advances_by (Over events standing) c = record { same = λ l. refl; less = λ h. absurd (cc) }

  pub advances : (m : Move) → Advances tags call ends m
  advances m = advances_by m.control m.config

  -- as many moves as there is work
  over_by : (n : ℕ) (m : Move) → work m ≤ n → is_running (moved tags n m) ≡ false
  over_by zero m h = weighs tags m (is_running m) refl h
  over_by (suc n) m h =
      moved_over tags n m (is_running m) refl (λ runs. over_by n (advance tags m) (let g = (advances m).less runs in omega (arith, g, h)))

  same_if : (t : Bool) (n : ℕ) (m : Move) (l : ℕ)
      → answer_at tags call ends (moved tags n (advance tags m)) l ≡ answer_at tags call ends m l
      → answer_at tags call ends (if t then moved tags n (advance tags m) else m) l ≡ answer_at tags call ends m l
  same_if true n m l h = h
  same_if false n m l h = refl

  same_by : (n : ℕ) (m : Move) (l : ℕ) → answer_at tags call ends (moved tags n m) l ≡ answer_at tags call ends m l
  same_by zero m l = refl
  same_by (suc n) m l = same_if (is_running m) n m l (same_by n (advance tags m) l ∙ (advances m).same l)

  pub settles : (m : Move) → Settles tags call ends m
  settles m = record { over = over_by (work m) m (omega arith); same = same_by (work m) m }
