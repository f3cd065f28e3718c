-- The rules of a declared type as the code looks at them are those of the definition, and where none is broken the type is the same.
use Rattle.std.proofs.Common.{◌≡◌, List, [], ◌∷◌, Bool, true, false, not, ◌||◌, if◌then◌else◌, Option, None, Some, Result, Ok, Err, refl, sym, ap, subst, ◌∙◌}
use Rattle.std.specs.Prelude.{is_some}
use Rattle.fc_base.specs.declared.refusals.Fault.{Fault}
use Rattle.fc_base.specs.declared.refusals.Fault.TheVariants as fault
use Rattle.fc_base.specs.declared.refusals.Place.{Place}
use Rattle.fc_base.specs.declared.refusals.Refusal.{Refusal}
use Rattle.fc_base.specs.declared.rules.Rule.{Rule}
use Rattle.fc_base.specs.declared.rules.Rule.TheVariants.{Redeclared, IncompleteType, BadType, LimitObject, ByValue, FunctionPointer, LimitArguments}
use Rattle.c_layout.specs.declared.tags.TagDef.{TagDef}
use Rattle.c_layout.specs.declared.types.CType.{CType}
use Rattle.c_layout.specs.declared.types.CType.TheVariants.{Ptr}
use Rattle.c_layout.specs.Types.{is_array, is_structure}
use Rattle.elab_meaning.specs.Conversions.{has_size}
use Rattle.elab_meaning.specs.Declarations as meant
use Rattle.elab_meaning.specs.Declarations.{Formed as Real, Made as Declared, object_of, function_of, type_made, is_function_made, passes_limit, formed}
use Rattle.elab_meaning.specs.Parts.{Shape}
use Rattle.elab_meaning.specs.Typing.{Check, first_broken, by_rule, judged}
use Rattle.elab_types.specs.declared.forming.Formed.{Formed}
use Rattle.elab_types.specs.declared.forming.Made.{Made}
use Rattle.elab_types.specs.declared.forming.Made.TheVariants.{Object, Function}
use Rattle.elab_types.specs.declared.specifiers.Specifiers.{Specifiers}
use Rattle.elab_conversions.specs.Answers.{Gives}
use Rattle.elab_types.specs.Answers.{behind, named_type, adjusted, param_checks, param_type}
use Rattle.elab_types.specs.Forming.{type_of, is_function}
use Rattle.elab_types.specs.Nests.{GivesAs}
use Rattle.elab_types.specs.Specifiers.{has_words}
use Rattle.elab_types.specs.Stands.{made_of, is_over, Stands}
use Rattle.elab_types.proofs.Standing.{sized_alike, pointer_layout, pointer_structure, whole_type}

-- ---- one check, and those behind it

-- a check that holds, and the others
pub held : {A : Type 0} (place : Place) (rule : Rule) (b : Bool) (checks : List Check) (x y : A)
    → judged place ((rule, b) ∷ checks) x ≡ Ok y → (b ≡ false) × (judged place checks x ≡ Ok y)
held place rule true checks x y e = cc
held place rule false checks x y e = (refl, e)

by_rule_as : {A B : Type 0} (place : Place) (o : Option Rule) (x y : A) (u v : B) → by_rule place o x ≡ Ok y → by_rule place o u ≡ Ok u
by_rule_as place None x y u v e = refl
by_rule_as place (Some r) x y u v e = cc

-- where all checks hold, any value is the answer
pub holds_for : {A B : Type 0} (place : Place) (checks : List Check) (x y : A) (u : B) → judged place checks x ≡ Ok y → judged place checks u ≡ Ok u
holds_for place checks x y u e = by_rule_as place (first_broken checks) x y u u e

-- a refusal is the same for any value
pub refused_as : {A B : Type 0} (place : Place) (o : Option Rule) (x : A) (u : B) (r : Refusal) → by_rule place o x ≡ Err r → by_rule place o u ≡ Err r
refused_as place None x u r e = cc
refused_as place (Some rule) x u r e = ap Err (err_same e)
  where
    err_same : {A : Type 0} {y z : Refusal} → ◌≡◌ {A = Result A Refusal} (Err y) (Err z) → y ≡ z
    err_same e = cc

pub given_as : {A B : Type 0} (f : Fault) (place : Place) (checks : List Check) (x : A) (u : B) → Gives (Err f) (judged place checks x)
    → GivesAs (λ (b : B). b) (Err f) (judged place checks u)
given_as fault.NoMemory place checks x u g = tt
given_as (fault.Refused r) place checks x u g = refused_as place (first_broken checks) x u r (sym g)

either : (b c : Bool) → b ≡ false → c ≡ false → b || c ≡ false
either b c e f = rw (e, f) refl

left_of : (b c : Bool) → b || c ≡ false → b ≡ false
left_of true c e = cc
left_of false c e = refl

-- ---- type names

module _ (tags : List TagDef) (s : Specifiers) (shape : Shape) (at start : Place) (f : Formed) (stands : Stands tags (formed tags s.base shape) f) where
  abbrev own : List Check
  own = (BadType, f.broken.bad_type || has_words s) ∷ []

  abbrev limits : List Check
  limits = (LimitObject, is_over f) ∷ []

  named_is : named_type tags s shape at start ≡ behind (judged at own (tt {0})) (judged start limits (type_made (formed tags s.base shape).made))
  named_is = rw (stands.bad_type, stands.limit) refl

  pub named_bad : (g : Fault) → Gives (Err g) (judged at own (tt {0})) → GivesAs (λ (t : CType). t) (Err g) (named_type tags s shape at start)
  named_bad fault.NoMemory g = tt
  named_bad (fault.Refused r) g =
      named_is ∙ ap (λ (a : Result (Unit {0}) Refusal). behind a (judged start limits (type_made (formed tags s.base shape).made))) (sym g)

  pub named_large : (g : Fault) → judged at own (tt {0}) ≡ Ok tt → Gives (Err g) (judged start limits (tt {0})) → GivesAs (λ (t : CType). t) (Err g) (named_type tags s shape at start)
  named_large fault.NoMemory e g = tt
  named_large (fault.Refused r) e g =
      named_is ∙ ap (λ (a : Result (Unit {0}) Refusal). behind a (judged start limits (type_made (formed tags s.base shape).made))) e
      ∙ refused_as start (first_broken limits) (tt {0}) _ r (sym g)

  pub named_whole : judged at own (tt {0}) ≡ Ok tt → judged start limits (tt {0}) ≡ Ok tt → named_type tags s shape at start ≡ Ok (type_of f.made)
  named_whole e g =
      let bad = left_of _ _ (held at BadType _ [] (tt {0}) tt e).0 in
      let large = (held start LimitObject _ [] (tt {0}) tt g).0 in
      named_is ∙ ap (λ (a : Result (Unit {0}) Refusal). behind a (judged start limits (type_made (formed tags s.base shape).made))) e
      ∙ holds_for start limits (tt {0}) tt _ g
      ∙ ap Ok (whole_type _ f.made (stands.whole (either _ _ bad large)))

-- ---- parameters

same_adjusted : (m : Made) → meant.adjusted (made_of m) ≡ adjusted m
same_adjusted (Object t) = refl
same_adjusted (Function params of) = refl

pointed_or : (b c : Bool) (t u x y : CType) → b ≡ c → (P : CType → Bool) → ((v w : CType) → P (Ptr v) ≡ P (Ptr w)) → P t ≡ P u
    → P (if b then Ptr x else t) ≡ P (if c then Ptr y else u)
pointed_or true true t u x y e P h k = h x y
pointed_or false false t u x y e P h k = k
pointed_or true false t u x y e P h k = cc
pointed_or false true t u x y e P h k = cc

alike_by : (P : CType → Bool) → ((v w : CType) → P (Ptr v) ≡ P (Ptr w)) → (d : Declared) (m : Made) → is_function_made d ≡ is_function m
    → is_array (type_made d) ≡ is_array (type_of m) → P (type_made d) ≡ P (type_of m) → P (meant.adjusted d) ≡ P (adjusted m)
alike_by P h (object_of t) (Object u) e a k = pointed_or _ _ t u _ _ a P h k
alike_by P h (function_of ps r) (Function qs q) e a k = refl
alike_by P h (object_of t) (Function qs q) e a k = cc
alike_by P h (function_of ps r) (Object u) e a k = cc

module _ (tags : List TagDef) (s : Specifiers) (shape : Shape) (repeated : Bool) (at : Place) (f : Formed) (stands : Stands tags (formed tags s.base shape) f) where
  abbrev from_fifth : List Check
  from_fifth =
      (ByValue, f.broken.by_value || is_structure (adjusted f.made))
      ∷ (FunctionPointer, f.broken.function_pointer || is_function f.made)
      ∷ (LimitArguments, f.broken.too_many) ∷ []

  abbrev from_fourth : List Check
  from_fourth = (LimitObject, is_over f) ∷ from_fifth

  abbrev from_third : List Check
  from_third = (BadType, f.broken.bad_type || has_words s) ∷ from_fourth

  abbrev from_second : List Check
  from_second = (IncompleteType, not (has_size tags (adjusted f.made))) ∷ from_third

  abbrev kept_checks : List Check
  kept_checks = (Redeclared, repeated) ∷ from_second

  sizes : has_size tags (meant.adjusted (formed tags s.base shape).made) ≡ has_size tags (adjusted f.made)
  sizes = alike_by (has_size tags) (λ v w. ap is_some (pointer_layout tags v ∙ sym (pointer_layout tags w))) _ f.made stands.functions stands.types.arrays
      (sized_alike tags _ _ stands.types.sizes)

  structures : is_structure (meant.adjusted (formed tags s.base shape).made) ≡ is_structure (adjusted f.made)
  structures = alike_by is_structure (λ v w. pointer_structure v ∙ sym (pointer_structure w)) _ f.made stands.functions stands.types.arrays
      stands.types.structures

  checks_are : param_checks tags s shape repeated ≡ kept_checks
  checks_are = rw (sizes, structures, stands.bad_type, stands.limit, stands.by_value, stands.function_pointer, stands.functions, stands.too_many) refl

  pub param_broken : (g : Fault) → Gives (Err g) (judged at kept_checks (tt {0})) → GivesAs (λ (t : CType). t) (Err g) (param_type tags s shape repeated at)
  param_broken g given =
      subst (λ (checks : List Check). GivesAs (λ (t : CType). t) (Err g) (judged at checks (meant.adjusted (formed tags s.base shape).made))) (sym checks_are)
      (given_as g at kept_checks (tt {0}) _ given)

  pub param_whole : judged at kept_checks (tt {0}) ≡ Ok tt → param_type tags s shape repeated at ≡ Ok (adjusted f.made)
  param_whole e =
      let second = held at Redeclared repeated (from_second) (tt {0}) tt e in
      let third = held at IncompleteType (not (has_size tags (adjusted f.made))) from_third (tt {0}) tt second.1 in
      let fourth = held at BadType (f.broken.bad_type || has_words s) from_fourth (tt {0}) tt third.1 in
      let fifth = held at LimitObject (is_over f) from_fifth (tt {0}) tt fourth.1 in
      let whole = stands.whole (either f.broken.bad_type (is_over f) (left_of f.broken.bad_type (has_words s) fourth.0) fifth.0) in
      ap (λ (checks : List Check). judged at checks (meant.adjusted (formed tags s.base shape).made)) checks_are
      ∙ holds_for at kept_checks (tt {0}) tt _ e
      ∙ ap Ok (ap meant.adjusted whole ∙ same_adjusted f.made)
