-- What typing leaves as it was: a complete structure or union, and one whose body is being read. First the actions that parts are made of.
use Rattle.std.proofs.Common.{◌≡◌, ◌≢◌, ℕ, List, [], ◌∷◌, ◌++◌, length, true, Option, None, Some, Result, Ok, Err, refl, ap, subst, ◌∙◌, arith}
use Rattle.std.specs.Prelude.{slice_get}
use Rattle.std.proofs.lemmas.Option.{slice_get_past}
use Rattle.fc_base.specs.declared.refusals.Place.{Place}
use Rattle.fc_base.specs.declared.refusals.Refusal.{Refusal}
use Rattle.c_layout.specs.declared.tags.TagDef.{TagDef}
use Rattle.c_layout.proofs.Edits.{slice_get-push_other}
use Rattle.c_tree.specs.declared.programs.DataDef.{DataDef}
use Rattle.elab_meaning.specs.Scope.{Scope, add_object, add_tag}
use Rattle.elab_types.specs.Keeps.{is_among, Kept, Keeps}
use Rattle.elab_meaning.specs.Typing.{State, Beside, Typing, Check, ◌>>=◌, pure, goes_on, each, if_any, judged, answered, first, look, by_tags, change, recall, new_object, new_tag}

-- ---- from one state to another

pub kept_self : (s : State) → Kept s s
kept_self s = record { complete = λ n d e c. e; opened = λ n d e o. (e, o) }

pub kept_then : (s t u : State) → Kept s t → Kept t u → Kept s u
kept_then s t u a b = record {
  complete = λ n d e c. b.complete n d (a.complete n d e c) c;
  opened = λ n d e o. let x = a.opened n d e o in b.opened n d x.0 x.1;
}

pub kept_to : (s t u : State) → Kept s t → t ≡ u → Kept s u
kept_to s t u k e = subst (λ x. Kept s x) e k

-- the structures and unions, and which of them are open, stay
pub kept_same : (s t : State) → s.scope.tags ≡ t.scope.tags → s.beside.open_tags ≡ t.beside.open_tags → Kept s t
kept_same s t e o = record {
  complete = λ n d f c. subst (λ (tags : List TagDef). slice_get tags n ≡ Some d) e f;
  opened = λ n d f h. (subst (λ (tags : List TagDef). slice_get tags n ≡ Some d) e f, subst (λ (tags : List ℕ). is_among n tags ≡ true) o h);
}

pub ok_same : {A : Type 0} {x y : A} → ◌≡◌ {A = Result A Refusal} (Ok x) (Ok y) → x ≡ y
ok_same e = cc

pub state_same : {A : Type 0} {a b : A} {s t : State} → ◌≡◌ {A = Result (A × State) Refusal} (Ok (a, s)) (Ok (b, t)) → s ≡ t
state_same e = ap (λ p. p.1) (ok_same e)

-- ---- the actions

pub pure_keeps : {A : Type 0} (a : A) → Keeps (pure a)
pure_keeps a s t b e = kept_to s s t (kept_self s) (state_same e)

bound_keeps : {A B : Type 0} (s t : State) (b : B) (r : Result (A × State) Refusal) (rest : A → Typing B)
    → ((a : A) (u : State) → r ≡ Ok (a, u) → Kept s u) → ((a : A) → Keeps (rest a)) → goes_on r rest ≡ Ok (b, t) → Kept s t
bound_keeps s t b (Ok (a, u)) rest h k e = kept_then s u t (h a u refl) (k a u t b e)
bound_keeps s t b (Err x) rest h k e = cc

pub bind : {A B : Type 0} (part : Typing A) (rest : A → Typing B) → Keeps part → ((a : A) → Keeps (rest a)) → Keeps (part >>= rest)
bind part rest h k s t b e = bound_keeps s t b (part s) rest (λ a u g. h s u a g) k e

pub answered_keeps : {A : Type 0} (r : Result A Refusal) → Keeps (answered r)
answered_keeps (Ok a) s t b e = kept_to s s t (kept_self s) (state_same e)
answered_keeps (Err x) s t b e = cc

pub first_keeps : (place : Place) (checks : List Check) → Keeps (first place checks)
first_keeps place checks s t a e = answered_keeps (judged place checks tt) s t a e

pub by_tags_keeps : {A : Type 0} (what : List TagDef → Result A Refusal) → Keeps (by_tags what)
by_tags_keeps what s t a e = answered_keeps (what s.scope.tags) s t a e

pub look_keeps : {A : Type 0} (what : Scope → A) → Keeps (look what)
look_keeps what s t a e = kept_to s s t (kept_self s) (state_same e)

pub recall_keeps : {A : Type 0} (what : Beside → A) → Keeps (recall what)
recall_keeps what s t a e = kept_to s s t (kept_self s) (state_same e)

pub change_keeps : (what : Scope → Scope) → ((s : Scope) → s.tags ≡ (what s).tags) → Keeps (change what)
change_keeps what h s t a e = kept_to s (record s { scope = what s.scope }) t (kept_same s (record s { scope = what s.scope }) (h s.scope) refl) (state_same e)

pub new_object_keeps : (def : DataDef) → Keeps (new_object def)
new_object_keeps def = bind (look (λ s. length s.objects)) (λ number. change (add_object def) >>= (λ u. pure number)) (look_keeps (λ s. length s.objects))
    (λ number. bind (change (add_object def)) (λ u. pure number) (change_keeps (add_object def) (λ s. refl)) (λ u. pure_keeps number))

-- a structure or union more
pub added : (s : State) (def : TagDef) → Kept s (record s { scope = add_tag def s.scope })
added s def = record {
  complete = λ n d e c. further n d e;
  opened = λ n d e o. (further n d e, o);
}
  where
    within : (tags : List TagDef) (n : ℕ) (d : TagDef) → slice_get tags n ≡ Some d → n ≢ length tags
    within tags n d e f =
        let past : slice_get tags n ≡ None = ap (slice_get tags) f ∙ slice_get_past tags (length tags) (omega arith) in
        cc

    further : (n : ℕ) (d : TagDef) → slice_get s.scope.tags n ≡ Some d → slice_get (s.scope.tags ++ def ∷ []) n ≡ Some d
    further n d e = slice_get-push_other def s.scope.tags n (within s.scope.tags n d e) ∙ e

pub new_tag_keeps : (def : TagDef) → Keeps (new_tag def)
new_tag_keeps def s t number e = kept_to s (record s { scope = add_tag def s.scope }) t (added s def) (state_same e)

-- the scope is looked at, rules are judged by it, and the rest follows
pub checked : {A B : Type 0} (what : Scope → A) (place : Place) (checks : A → List Check) (rest : A → Typing B) → ((a : A) → Keeps (rest a))
    → Keeps (look what >>= (λ a. first place (checks a) >>= (λ u. rest a)))
checked what place checks rest h =
    bind (look what) (λ a. first place (checks a) >>= (λ u. rest a)) (look_keeps what)
    (λ a. bind (first place (checks a)) (λ u. rest a) (first_keeps place (checks a)) (λ u. h a))

-- ---- lists of parts

abbrev pub AllKeep : {A : Type 0} → List (Typing A) → Type 0
AllKeep [] = Unit {0}
AllKeep (p ∷ ps) = Keeps p × AllKeep ps

pub each_keeps : {A : Type 0} (ps : List (Typing A)) → AllKeep ps → Keeps (each ps)
each_keeps [] h = pure_keeps []
each_keeps (p ∷ ps) h = bind p _ h.0 (λ a. bind (each ps) _ (each_keeps ps h.1) (λ more. pure_keeps (a ∷ more)))

abbrev pub KeepsIfAny : {A : Type 0} → Option (Typing A) → Type 0
KeepsIfAny None = Unit {0}
KeepsIfAny (Some p) = Keeps p

pub if_any_keeps : {A : Type 0} (o : Option (Typing A)) → KeepsIfAny o → Keeps (if_any o)
if_any_keeps None h = pure_keeps None
if_any_keeps (Some p) h = bind p _ h (λ a. pure_keeps (Some a))
