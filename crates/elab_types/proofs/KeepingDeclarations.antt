-- Each part of a declaration leaves complete and open structures and unions as they were, where its parts do. A body completes its own alone.
use Rattle.std.proofs.Common.{◌≡◌, ◌≢◌, ℕ, ℤ, pos, ◌+ℤ◌, ◌+◌, List, [], ◌∷◌, ◌++◌, length, filter, Bool, true, false, not, ◌&&◌, ◌||◌, ◌==◌, ◌⊎◌, inl, inr, Option, None, Some, Result, Ok, Err, refl, sym, ap, subst, ◌∙◌, arith}
use Rattle.std.specs.Prelude.{slice_get, is_some, is_none, unwrap_or}
use Rattle.std.specs.Option.{option_map_or}
use Rattle.std.proofs.lemmas.Bool.Decides.{eqb_tells}
use Rattle.std.proofs.lemmas.Option.{slice_get_past}
use Rattle.fc_base.specs.declared.refusals.Place.{Place}
use Rattle.fc_base.specs.declared.refusals.Refusal.{Refusal}
use Rattle.fc_base.specs.declared.rules.Rule.{Rule}
use Rattle.fc_base.specs.declared.rules.Rule.TheVariants.{Redeclared, UnknownName, IncompleteType, BadType, LimitObject, ByValue, FunctionPointer, LimitArguments, NotConstant}
use Rattle.c_layout.specs.declared.tags.Member.{Member}
use Rattle.c_layout.specs.declared.tags.TagDef.{TagDef}
use Rattle.c_layout.proofs.Edits.{slice_get-set_other}
use Rattle.c_tree.specs.declared.nodes.Aggregate.{Aggregate}
use Rattle.c_tree.specs.declared.nodes.Identifier.{Identifier}
use Rattle.elab_meaning.specs.declared.names.NameUse.{NameUse}
use Rattle.elab_meaning.specs.Scope.{Name, len, cut, has_enum, add_enum, add_tag, find_tag, set_tag}
use Rattle.elab_meaning.specs.Typing.{State, Typing, ◌>>=◌, pure, goes_on, first, look, change, note}
use Rattle.elab_meaning.specs.Parts.{Meant, type, ReadExpr, ReadSpec, ReadParam, ReadMembers, ReadDeclarator, ReadEnumerator}
use Rattle.elab_meaning.specs.Declarations.{Specifiers, formed, type_made, passes_limit, has_member, is_flexible, members_too_large, has_function_words, type_named, specifiers_of, specifiers_part, bound_part, add_if_named, params_from, listed_params, member_part, member_parts, members_part, is_none_left, is_union_word, tag_type, without_members, body_part, is_other_kind, has_body, tag_number, body_if_any, tagged_part, untagged_part, as_int, enumerator_value, enumerators_from, enum_part, enum_tag_part, typedef_name_part, is_taken}
use Rattle.elab_types.specs.Keeps.{Kept, Keeps, is_among}
use Rattle.elab_types.proofs.Keeping.{AllKeep, kept_self, kept_to, added, state_same, bind, checked, pure_keeps, look_keeps, change_keeps, each_keeps}
use Rattle.c_layout.specs.Types.{int}
use Rattle.elab_meaning.specs.Conversions.{has_size, value_of}
use Rattle.elab_meaning.specs.Expressions.{use_of}
use Rattle.elab_types.proofs.KeepingExpressions.{value_keeps}

pub bound_keeps : (bound : ReadExpr) → Keeps bound.typed → Keeps (bound_part bound)
bound_keeps bound h = bind _ _ (value_keeps bound h) (λ x. checked (λ s. s.tags) bound.place (λ tags. (NotConstant, is_none (value_of tags x)) ∷ [])
    (λ tags. pure (unwrap_or (value_of tags x) (pos 0))) (λ tags. pure_keeps (unwrap_or (value_of tags x) (pos 0))))

pub specifiers_keep : (specs : List ReadSpec) → AllKeep specs → Keeps (specifiers_part specs)
specifiers_keep specs h = bind _ _ (each_keeps specs h) (λ ms. pure_keeps (specifiers_of ms))

-- ---- parameters

pub named_keeps : (name : Option Name) (what : NameUse) → Keeps (change (add_if_named name what))
named_keeps None what = change_keeps (add_if_named None what) (λ s. refl)
named_keeps (Some name) what = change_keeps (add_if_named (Some name) what) (λ s. refl)

abbrev pub AllParams : List ReadParam → Type 0
AllParams [] = Unit {0}
AllParams (p ∷ ps) = ((start number : ℕ) → Keeps (p start number)) × AllParams ps

params_keep : (start number : ℕ) (ps : List ReadParam) → AllParams ps → Keeps (params_from start number ps)
params_keep start number [] h = pure_keeps []
params_keep start number (p ∷ ps) h =
    bind _ _ (h.0 start number) (λ a. bind _ _ (params_keep start (number + 1) ps h.1) (λ more. pure_keeps (a ∷ more)))

pub listed_keep : (ps : List ReadParam) → AllParams ps → Keeps (listed_params ps)
listed_keep ps h =
    bind (look len) (λ start. params_from start 0 ps >>= (λ all. change (cut start) >>= (λ u. pure all))) (look_keeps len) (λ start.
    bind (params_from start 0 ps) (λ all. change (cut start) >>= (λ u. pure all)) (params_keep start 0 ps h) (λ all.
    bind (change (cut start)) (λ u. pure all) (change_keeps (cut start) (λ s. refl)) (λ u. pure_keeps all)))

-- ---- members

abbrev pub AllDeclarators : List ReadDeclarator → Type 0
AllDeclarators [] = Unit {0}
AllDeclarators (d ∷ ds) = Keeps d.parts × AllDeclarators ds

member_keeps : (specs : Specifiers) (is_union : Bool) (before : List Member) (is_last : Bool) (d : ReadDeclarator) → Keeps d.parts
    → Keeps (member_part specs is_union before is_last d)
member_keeps specs is_union before is_last d h =
    bind _ _ h (λ shape. checked (λ s. s.tags) d.place
    (λ tags.
    let f = formed tags specs.base shape in
    let t = type_made f.made in
    (Redeclared, has_member before d.name)
    ∷ (IncompleteType, not (has_size tags t || is_flexible tags is_union before is_last t))
    ∷ (BadType, f.bad_type || has_function_words specs)
    ∷ (LimitObject, passes_limit f || members_too_large tags is_union (before ++ record { name = unwrap_or d.name []; ctype = t } ∷ []))
    ∷ (ByValue, f.by_value)
    ∷ (FunctionPointer, f.function_pointer)
    ∷ (LimitArguments, f.too_many) ∷ [])
    (λ tags. pure (before ++ record { name = unwrap_or d.name []; ctype = type_made (formed tags specs.base shape).made } ∷ []))
    (λ tags. pure_keeps _))

pub member_parts_keep : (specs : Specifiers) (is_union is_last : Bool) (before : List Member) (ds : List ReadDeclarator) → AllDeclarators ds
    → Keeps (member_parts specs is_union is_last before ds)
member_parts_keep specs is_union is_last before [] h = pure_keeps before
member_parts_keep specs is_union is_last before (d ∷ ds) h =
    bind _ _ (member_keeps specs is_union before (is_last && is_none_left ds) d h.0) (λ members.
    member_parts_keep specs is_union is_last members ds h.1)

abbrev pub KeepsMembers : ReadMembers → Type 0
KeepsMembers m = (is_union : Bool) (before : List Member) (is_last : Bool) → Keeps (m is_union before is_last)

abbrev pub AllMembers : List ReadMembers → Type 0
AllMembers [] = Unit {0}
AllMembers (m ∷ ms) = KeepsMembers m × AllMembers ms

pub members_keep : (is_union : Bool) (before : List Member) (ms : List ReadMembers) → AllMembers ms → Keeps (members_part is_union before ms)
members_keep is_union before [] h = pure_keeps before
members_keep is_union before (m ∷ ms) h =
    bind _ _ (h.0 is_union before (is_none_left ms)) (λ members. members_keep is_union members ms h.1)

-- ---- bodies

-- behind a body its tag is no longer open, and the others are
still_among : (n number : ℕ) (tags : List ℕ) → n ≢ number → is_among n tags ≡ true → is_among n (filter (λ tag. not (tag == number)) tags) ≡ true
still_among n number [] h e = e
still_among n number (tag ∷ tags) h e = elim (eqb_tells tag n) [
  | inl p ↦ elim (eqb_tells tag number) [
    | inl q ↦ absurd (h (sym p.1 ∙ q.1))
    | inr q ↦ rw (q.0, p.0) refl
  ]
  | inr p ↦
      let further = still_among n number tags h (subst (λ (b : Bool). b || is_among n tags ≡ true) p.0 e) in
      elim (eqb_tells tag number) [
        | inl q ↦ rw q.0 further
        | inr q ↦ rw (q.0, p.0) further
      ]
]

-- a tag is another one than this where a body of the other began
abbrev pub IsApart : State → ℕ → Type 0
IsApart s number = (n : ℕ) (d : TagDef) → slice_get s.scope.tags n ≡ Some d → (d.complete ≡ true) ⊎ (is_among n s.beside.open_tags ≡ true) → n ≢ number

abbrev opened_by : ℕ → State → State
opened_by number s = record s { beside = record s.beside { open_tags = number ∷ s.beside.open_tags } }

abbrev closed_by : ℕ → TagDef → State → State
closed_by number def u = record {
  scope = set_tag number def u.scope;
  beside = record u.beside { open_tags = filter (λ tag. not (tag == number)) u.beside.open_tags };
}

-- from before a tag was added or found to behind its body
around : (z s u : State) (number : ℕ) (def : TagDef) → Kept z s → IsApart z number → Kept (opened_by number s) u → Kept z (closed_by number def u)
around z s u number def a other k = record {
  complete = λ n d e c.
      slice_get-set_other def u.scope.tags number n (other n d e (inl c)) ∙ k.complete n d (a.complete n d e c) c;
  opened = λ n d e o.
      let apart = other n d e (inr o) in
      let first_part = a.opened n d e o in
      let open_part = k.opened n d first_part.0 (or_true (number == n) _ first_part.1) in
      (slice_get-set_other def u.scope.tags number n apart ∙ open_part.0, still_among n number u.beside.open_tags apart open_part.1);
}
  where
    or_true : (b c : Bool) → c ≡ true → b || c ≡ true
    or_true true c e = refl
    or_true false c e = e

-- the definition of a tag with these members
abbrev pub completed : Name → Aggregate → List Member → TagDef
completed name aggregate all = record { name = name; is_union = is_union_word aggregate; members = all; complete = true }

closes : (z s t : State) (a : Meant) (name : Name) (aggregate : Aggregate) (number : ℕ) (r : Result (List Member × State) Refusal)
    → Kept z s → IsApart z number → ((all : List Member) (u : State) → r ≡ Ok (all, u) → Kept (opened_by number s) u)
    → goes_on r (λ all. change (set_tag number (completed name aggregate all))
    >>= (λ v. note (λ b. record b { open_tags = filter (λ tag. not (tag == number)) b.open_tags })
    >>= (λ w. pure (type (tag_type aggregate number))))) ≡ Ok (a, t)
    → Kept z t
closes z s t a name aggregate number (Ok (all, u)) k other h e =
    kept_to z _ t (around z s u number (completed name aggregate all) k other (h all u refl)) (state_same e)
closes z s t a name aggregate number (Err r) k other h e = cc

pub body_keeps : (z s t : State) (a : Meant) (name : Name) (aggregate : Aggregate) (number : ℕ) (ms : List ReadMembers) → AllMembers ms
    → Kept z s → IsApart z number → body_part name aggregate number ms s ≡ Ok (a, t) → Kept z t
body_keeps z s t a name aggregate number ms h k other e =
    closes z s t a name aggregate number (members_part (is_union_word aggregate) [] ms (opened_by number s)) k other
    (λ all u g. members_keep (is_union_word aggregate) [] ms h (opened_by number s) u all g) e

-- ---- tags

-- a check that holds, and what follows it
held : {B : Type 0} (place : Place) (rule : Rule) (c : Bool) (s t : State) (b : B) (rest : Typing B)
    → goes_on (first place ((rule, c) ∷ []) s) (λ u. rest) ≡ Ok (b, t) → (c ≡ false) × (rest s ≡ Ok (b, t))
held place rule true s t b rest e = cc
held place rule false s t b rest e = (refl, e)

neither : (b c : Bool) → b || c ≡ false → (b ≡ false) × (c ≡ false)
neither true c e = cc
neither false c e = (refl, e)

-- a tag that was there has no body, and none is being read
apart : (s : State) (number : ℕ)
    → is_among number s.beside.open_tags || option_map_or (λ def. def.complete) (slice_get s.scope.tags number) false ≡ false → IsApart s number
apart s number e n d f (inl c) same =
    let at : slice_get s.scope.tags number ≡ Some d = subst (λ k. slice_get s.scope.tags k ≡ Some d) same f in
    let no = (neither _ _ e).1 in
    let is : option_map_or (λ def. def.complete) (slice_get s.scope.tags number) false ≡ d.complete = ap (λ o. option_map_or (λ (def : TagDef). def.complete) o false) at in
    let not_so : true ≡ false = sym c ∙ sym is ∙ no in
    cc
apart s number e n d f (inr o) same =
    let no = (neither _ _ e).0 in
    let not_so : true ≡ false = sym o ∙ ap (λ k. is_among k s.beside.open_tags) same ∙ no in
    cc

-- a new tag
new_apart : (s : State) → IsApart s (length s.scope.tags)
new_apart s n d f h same =
    let past : slice_get s.scope.tags n ≡ None = ap (slice_get s.scope.tags) same ∙ slice_get_past s.scope.tags (length s.scope.tags) (omega arith) in
    cc

abbrev KeepsBody : Option (List ReadMembers) → Type 0
KeepsBody None = Unit {0}
KeepsBody (Some ms) = AllMembers ms

body_if_any_keeps : (z s t : State) (a : Meant) (name : Name) (aggregate : Aggregate) (number : ℕ) (members : Option (List ReadMembers))
    → KeepsBody members → Kept z s → (is_some members ≡ true → IsApart z number) → body_if_any name aggregate number members s ≡ Ok (a, t) → Kept z t
body_if_any_keeps z s t a name aggregate number None h k other e = kept_to z s t k (state_same e)
body_if_any_keeps z s t a name aggregate number (Some ms) h k other e = body_keeps z s t a name aggregate number ms h k (other refl) e

-- a tag that was found or is new
found_keeps : (s t : State) (a : Meant) (name : Name) (aggregate : Aggregate) (members : Option (List ReadMembers)) (found : Option ℕ)
    → KeepsBody members
    → is_some members && option_map_or (λ number. is_among number s.beside.open_tags
    || option_map_or (λ def. def.complete) (slice_get s.scope.tags number) false) found false ≡ false
    → goes_on (tag_number name aggregate found s) (λ number. body_if_any name aggregate number members) ≡ Ok (a, t) → Kept s t
found_keeps s t a name aggregate members (Some number) h none e =
    body_if_any_keeps s s t a name aggregate number members h (kept_self s) (λ has. apart s number (both_true _ _ has none)) e
  where
    both_true : (b c : Bool) → b ≡ true → b && c ≡ false → c ≡ false
    both_true true c p q = q
    both_true false c p q = cc
found_keeps s t a name aggregate members None h none e =
    body_if_any_keeps s (record s { scope = add_tag (without_members name aggregate) s.scope }) t a name aggregate (length s.scope.tags) members h
    (added s (without_members name aggregate)) (λ has. new_apart s) e

pub tagged_keeps : (aggregate : Aggregate) (tag : Identifier) (members : Option (List ReadMembers)) → KeepsBody members
    → Keeps (tagged_part aggregate tag members)
tagged_keeps aggregate tag members h s t a e =
    let holds = held tag.place Redeclared (is_other_kind tag.name aggregate s.scope || (is_some members && has_body tag.name s.beside.open_tags s.scope)) s t a
    (tag_number tag.name aggregate (find_tag tag.name s.scope) >>= (λ number. body_if_any tag.name aggregate number members)) e in
    found_keeps s t a tag.name aggregate members (find_tag tag.name s.scope) h (neither _ _ holds.0).1 holds.1

pub untagged_keeps : (aggregate : Aggregate) (ms : List ReadMembers) → AllMembers ms → Keeps (untagged_part aggregate ms)
untagged_keeps aggregate ms h s t a e =
    body_keeps s (record s { scope = add_tag (without_members [] aggregate) s.scope }) t a [] aggregate (length s.scope.tags) ms h
    (added s (without_members [] aggregate)) (new_apart s) e

-- ---- enumerations

abbrev pub KeepsValue : Option ReadExpr → Type 0
KeepsValue None = Unit {0}
KeepsValue (Some value) = Keeps value.typed

pub value_or_keeps : (otherwise : ℤ) (value : Option ReadExpr) → KeepsValue value → Keeps (enumerator_value otherwise value)
value_or_keeps otherwise None h = pure_keeps otherwise
value_or_keeps otherwise (Some value) h = bind _ _ (bound_keeps value h) (λ n. pure_keeps (as_int n))

abbrev pub AllEnumerators : List ReadEnumerator → Type 0
AllEnumerators [] = Unit {0}
AllEnumerators (e ∷ es) = ((n : ℤ) → Keeps (e n)) × AllEnumerators es

enumerators_keep : (n : ℤ) (es : List ReadEnumerator) → AllEnumerators es → Keeps (enumerators_from n es)
enumerators_keep n [] h = pure_keeps tt
enumerators_keep n (e ∷ es) h = bind _ _ (h.0 n) (λ m. enumerators_keep (as_int (m +ℤ pos 1)) es h.1)

pub enum_keeps : (tag : Option Identifier) (es : List ReadEnumerator) → AllEnumerators es → Keeps (enum_part tag es)
enum_keeps None es h = bind (enumerators_from (pos 0) es) (λ u. pure (type int)) (enumerators_keep (pos 0) es h) (λ u. pure_keeps (type int))
enum_keeps (Some tag) es h =
    checked (is_taken tag.name) tag.place (λ before. (Redeclared, before) ∷ []) (λ before. enumerators_from (pos 0) es >>= (λ v. closing)) (λ before.
    bind (enumerators_from (pos 0) es) (λ v. closing) (enumerators_keep (pos 0) es h) (λ v.
    checked (is_taken tag.name) tag.place (λ behind. (Redeclared, behind) ∷ []) (λ behind. last) (λ behind.
    bind (change (add_enum tag.name)) (λ x. pure (type int)) (change_keeps (add_enum tag.name) (λ s. refl)) (λ x. pure_keeps (type int)))))
  where
    last : Typing Meant
    last = change (add_enum tag.name) >>= (λ x. pure (type int))

    closing : Typing Meant
    closing = look (is_taken tag.name) >>= (λ behind. first tag.place ((Redeclared, behind) ∷ []) >>= (λ w. last))

pub enum_tag_keeps : (tag : Identifier) → Keeps (enum_tag_part tag)
enum_tag_keeps tag =
    checked (λ s. s) tag.place (λ scope. (Redeclared, is_some (find_tag tag.name scope)) ∷ (UnknownName, not (has_enum tag.name scope)) ∷ [])
    (λ scope. pure (type int)) (λ scope. pure_keeps (type int))

pub typedef_name_keeps : (name : Name) → Keeps (typedef_name_part name)
typedef_name_keeps name = bind (use_of name) (λ used. pure (type (type_named used))) (look_keeps _) (λ used. pure_keeps (type (type_named used)))
