-- Nodes by their typed parts.
use Rattle.std.proofs.Common.{◌≡◌, List, Result, Ok, Err, refl, sym, ap, ◌∙◌}
use Rattle.fc_base.specs.declared.refusals.Fault.{Fault}
use Rattle.fc_base.specs.declared.refusals.Fault.TheVariants as fault
use Rattle.fc_base.specs.declared.refusals.Refusal.{Refusal}
use Rattle.c_layout.specs.declared.tags.TagDef.{TagDef}
use Rattle.c_tree.specs.declared.typed.TypedExpr.{TypedExpr}
use Rattle.elab_conversions.specs.Answers.{Gives}
use Rattle.elab_meaning.specs.Typing.{State as Meant, Typing, ◌>>=◌, pure, goes_on, answered, by_tags}
use Rattle.elab_scope.specs.declared.state.State.{State}
use Rattle.elab_scope.specs.States.{state_of, Types}
use Rattle.elab_expressions.specs.Words.{both_parts}

-- an answer by the structures and unions so far
pub by_tags_types : {A : Type 0} (what : List TagDef → Result A Refusal) (s : State) (tags : List TagDef) (r : Result A Fault)
    → tags ≡ s.scope.tags → Gives r (what tags) → Types (by_tags what) s r s
by_tags_types what s tags (Ok a) e g = ap (λ t. answered (what t) (state_of s)) (sym e) ∙ ap (λ x. answered x (state_of s)) (sym g)
by_tags_types what s tags (Err (fault.Refused r)) e g = ap (λ t. answered (what t) (state_of s)) (sym e) ∙ ap (λ x. answered x (state_of s)) (sym g)
by_tags_types what s tags (Err fault.NoMemory) e g = tt

-- a part and then the rest
pub then_types : {A B : Type 0} (part : Typing A) (rest : A → Typing B) (old mid new : State) (a : A) (r : Result B Fault)
    → part (state_of old) ≡ Ok (a, state_of mid) → Types (rest a) mid r new → Types (part >>= rest) old r new
then_types part rest old mid new a (Ok b) e t = ap (λ x. goes_on x rest) e ∙ t
then_types part rest old mid new a (Err (fault.Refused r)) e t = ap (λ x. goes_on x rest) e ∙ t
then_types part rest old mid new a (Err fault.NoMemory) e t = tt

-- a part that is refused, whatever follows
pub fault_types : {A B : Type 0} (part : Typing A) (rest : A → Typing B) (old mid : State) (f : Fault)
    → Types part old (Err f) mid → Types (part >>= rest) old (Err f) mid
fault_types part rest old mid (fault.Refused r) t = ap (λ x. goes_on x rest) t
fault_types part rest old mid fault.NoMemory t = tt

-- the first of two parts, and both
with_second : {A B C : Type 0} (a : A) (rest : A → B → Typing C) (r : Result (B × Meant) Refusal)
    → goes_on r (rest a) ≡ goes_on (goes_on {A = B} {B = A × B} r (λ b. pure (a, b))) (λ (x : A × B). rest x.0 x.1)
with_second a rest (Ok (b, s)) = refl
with_second a rest (Err r) = refl

with_both : {A B C : Type 0} (q : Typing B) (rest : A → B → Typing C) (r : Result (A × Meant) Refusal)
    → goes_on r (λ (a : A). q >>= rest a) ≡ goes_on (goes_on {A = A} {B = A × B} r (λ (a : A). q >>= (λ (b : B). pure (a, b)))) (λ (x : A × B). rest x.0 x.1)
with_both q rest (Ok (a, s)) = with_second a rest (q s)
with_both q rest (Err r) = refl

pub two_types : {A B C : Type 0} (p : Typing A) (q : Typing B) (rest : A → B → Typing C) (old mid new : State) (a : A) (b : B) (r : Result C Fault)
    → both_parts p q (state_of old) ≡ Ok ((a, b), state_of mid) → Types (rest a b) mid r new
    → Types (p >>= (λ a. q >>= rest a)) old r new
two_types {A} {B} p q rest old mid new a b (Ok c) e t = with_both q rest (p (state_of old)) ∙ (ap (λ (r : Result ((A × B) × Meant) Refusal). goes_on r (λ (x : A × B). rest x.0 x.1)) e ∙ t)
two_types {A} {B} p q rest old mid new a b (Err (fault.Refused r)) e t =
    with_both q rest (p (state_of old)) ∙ (ap (λ (r : Result ((A × B) × Meant) Refusal). goes_on r (λ (x : A × B). rest x.0 x.1)) e ∙ t)
two_types {A} {B} p q rest old mid new a b (Err fault.NoMemory) e t = tt

-- a node of two parts
pub two_parts : (p q : Typing TypedExpr) (what : List TagDef → TypedExpr → TypedExpr → Result TypedExpr Refusal) (old mid : State) (a b : TypedExpr)
    (tags : List TagDef) (r : Result TypedExpr Fault)
    → both_parts p q (state_of old) ≡ Ok ((a, b), state_of mid) → tags ≡ mid.scope.tags → Gives r (what tags a b)
    → Types (p >>= (λ a. q >>= (λ b. by_tags (λ tags. what tags a b)))) old r mid
two_parts p q what old mid a b tags r e same g =
    two_types p q (λ a b. by_tags (λ tags. what tags a b)) old mid mid a b r e (by_tags_types (λ t. what t a b) mid tags r same g)

-- a node of one part
pub one_part : (p : Typing TypedExpr) (what : List TagDef → TypedExpr → Result TypedExpr Refusal) (old mid : State) (x : TypedExpr)
    (tags : List TagDef) (r : Result TypedExpr Fault)
    → p (state_of old) ≡ Ok (x, state_of mid) → tags ≡ mid.scope.tags → Gives r (what tags x)
    → Types (p >>= (λ x. by_tags (λ tags. what tags x))) old r mid
one_part p what old mid x tags r e same g =
    then_types p (λ x. by_tags (λ tags. what tags x)) old mid mid x r e (by_tags_types (λ t. what t x) mid tags r same g)

-- a node of three parts
pub three_parts : (o p q : Typing TypedExpr) (what : List TagDef → TypedExpr → TypedExpr → TypedExpr → Result TypedExpr Refusal)
    (old mid new : State) (t a b : TypedExpr) (tags : List TagDef) (r : Result TypedExpr Fault)
    → o (state_of old) ≡ Ok (t, state_of mid) → both_parts p q (state_of mid) ≡ Ok ((a, b), state_of new) → tags ≡ new.scope.tags
    → Gives r (what tags t a b) → Types (o >>= (λ t. p >>= (λ a. q >>= (λ b. by_tags (λ tags. what tags t a b))))) old r new
three_parts o p q what old mid new t a b tags r d e same g =
    then_types o (λ t. p >>= (λ a. q >>= (λ b. by_tags (λ tags. what tags t a b)))) old mid new t r d
    (two_parts p q (λ tags a b. what tags t a b) mid new a b tags r e same g)

-- a node of one part and another one that goes by it
pub two_steps : {A B : Type 0} (p : Typing A) (q : A → Typing B) (what : List TagDef → A → B → Result TypedExpr Refusal)
    (old mid new : State) (a : A) (b : B) (tags : List TagDef) (r : Result TypedExpr Fault)
    → p (state_of old) ≡ Ok (a, state_of mid) → q a (state_of mid) ≡ Ok (b, state_of new) → tags ≡ new.scope.tags → Gives r (what tags a b)
    → Types (p >>= (λ a. q a >>= (λ b. by_tags (λ tags. what tags a b)))) old r new
two_steps p q what old mid new a b tags r d e same g =
    then_types p (λ a. q a >>= (λ b. by_tags (λ tags. what tags a b))) old mid new a r d
    (then_types (q a) (λ b. by_tags (λ tags. what tags a b)) mid new new b r e (by_tags_types (λ t. what t a b) new tags r same g))
