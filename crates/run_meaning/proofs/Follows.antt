-- Following composes.
use Rattle.std.proofs.Common.{◌≡◌, ℕ, ◌≤◌, ◌++◌, refl, sym, ◌∙◌, ap, append_assoc, arith}
use Rattle.fc_base.specs.Outside.{IsFront}
use Rattle.run_meaning.specs.Runs.{Shown, Standing, Ended, Undefined, Going, Runs, Follows, FollowsComposes}

-- the middle run shows at least the first one's list, however it stands, and so does the last one
past : (g : ℕ → ℕ) (b c : Runs) → Follows g c b → (m : ℕ) (list : Shown) → IsFront list (b m).0
    → (seen : Shown) (standing : Standing) → b m ≡ (seen, standing) → (k : ℕ) × IsFront list (c k).0
past g b c follows m list begins seen (Ended end) is =
    let next = follows.ends m seen end is in
    let same : (c next.0).0 ≡ (b m).0 = ap (λ x. x.0) next.2 ∙ sym (ap (λ x. x.0) is) in
    (next.0, (begins.0, same ∙ begins.1))
past g b c follows m list begins seen Going is =
    let next = follows.goes_on m seen is in
    let same : (c next.0).0 ≡ (b m).0 = ap (λ x. x.0) next.2 ∙ sym (ap (λ x. x.0) is) in
    (next.0, (begins.0, same ∙ begins.1))
past g b c follows m list begins seen (Undefined kind place) is =
    let next = follows.until m seen kind place is in
    let front : seen ≡ list ++ begins.0 = sym (ap (λ x. x.0) is) ∙ begins.1 in
    (next.0, (begins.0 ++ next.1.0, next.1.1 ∙ ap (λ x. x ++ next.1.0) front ∙ append_assoc list begins.0 next.1.0))

pub follows_composes_lem : FollowsComposes
follows_composes_lem f g grows a b c first second = record {
  ends = λ n list end is.
      let middle = first.ends n list end is in
      let last = second.ends middle.0 list end middle.2 in
      let within : last.0 ≤ g (f n) = let step : g middle.0 ≤ g (f n) = grows middle.0 (f n) middle.1 in omega arith in
      (last.0, within, last.2);
  goes_on = λ n list is.
      let middle = first.goes_on n list is in
      let last = second.goes_on middle.0 list middle.2 in
      (last.0, omega arith, last.2);
  until = λ n list kind place is.
      let middle = first.until n list kind place is in
      past g b c second middle.0 list middle.1 (b middle.0).0 (b middle.0).1 refl;
}
