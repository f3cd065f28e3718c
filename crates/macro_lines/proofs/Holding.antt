-- Whether the condition of a line holds.
use Rattle.std.proofs.Common.{◌≡◌, ℕ, Bool, List, map, Option, Some, None, option_map, Ok, Err, refl}
use Rattle.fc_base.specs.declared.Place.{Place}
use Rattle.fc_base.specs.declared.Rule.TheVariants.{BadCondition}
use Rattle.fc_base.specs.declared.Fault.{Fault}
use Rattle.fc_base.specs.declared.Fault.TheVariants.{Refused, NoMemory}
use Rattle.fc_base.specs.Answers.{Fails}
use Rattle.c_tokens.specs.declared.Token.{Token}
use Rattle.macro_conditions.specs.Conditions.{Decides}
use Rattle.macro_meaning.specs.Macros.{Macros, Item, items}
use Rattle.macro_meaning.specs.Replacement.{Expands}
use Rattle.macro_meaning.specs.Conditions.{IsAnswered}
use Rattle.macro_meaning.specs.Answering.{with_answers}
use Rattle.macro_meaning.specs.Expansion.{condition, refused_condition, unanswered}
use Rattle.macro_meaning.proofs.Answering.{is_answered, no_answer}
use Rattle.macro_lines.specs.Conditions.{HoldsAs}

none_back : (w : Option (List Token)) → None ≡ option_map items w → w ≡ None
none_back None e = refl
none_back (Some ts) e = cc

some_back : (w : Option (List Token)) (xs : List Item) → Some xs ≡ option_map items w → (ts : List Token) × (w ≡ Some ts) × (items ts ≡ xs)
some_back None xs e = cc
some_back (Some ts) xs e = let same : items ts ≡ xs = cc in (ts, refl, same)

module _ (ms : Macros) (count : ℕ) (place : Place) (line : List Token) where
  pub no_line : None ≡ option_map items (with_answers ms 0 line)
      → HoldsAs (Err (Refused (record { rule = BadCondition; place = place }))) ms count place line
  no_line n = λ st g gs e. (count, unanswered (rw e (no_answer ms line (none_back (with_answers ms 0 line) n))))

  module _ (xs : List Item) (s : Some xs ≡ option_map items (with_answers ms 0 line)) where
    answered : (new : List Token) × IsAnswered ms line new × (items new ≡ xs)
    answered = let b = some_back (with_answers ms 0 line) xs s in (b.0, is_answered ms line b.0 b.1, b.2)

    pub failed : (f : Fault) → Fails f (Expands ms 0 count xs) → HoldsAs (Err f) ms count place line
    failed NoMemory x = tt
    failed (Refused q) x = λ st g gs e. (count, refused_condition {new = answered.0} (rw e answered.1) (rw (e, answered.2) x))

    pub decided_as : (ys : List Item) (c : ℕ) (holds : Bool) → Expands ms 0 count xs (Ok (ys, c))
        → Decides (map (λ x. x.kind) ys) (Some holds)
        → HoldsAs (Ok (holds, c)) ms count place line
    decided_as ys c holds x d = λ st g gs e. condition {new = answered.0} (rw e answered.1) (rw (e, answered.2) x) d

    pub undecided : (ys : List Item) (c : ℕ) → Expands ms 0 count xs (Ok (ys, c)) → Decides (map (λ x. x.kind) ys) None
        → HoldsAs (Err (Refused (record { rule = BadCondition; place = place }))) ms count place line
    undecided ys c x d = λ st g gs e. (c, condition {new = answered.0} (rw e answered.1) (rw (e, answered.2) x) d)
