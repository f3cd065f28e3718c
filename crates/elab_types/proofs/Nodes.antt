-- Parameters and type names by their typed parts: the definition's node is the code's answer.
use Rattle.std.proofs.Common.{◌≡◌, ℕ, List, map, Option, None, Some, Result, Ok, Err, refl, sym, ap, subst, ◌∙◌, rules}
use Rattle.fc_base.specs.declared.refusals.Place.{Place}
use Rattle.fc_base.specs.declared.refusals.Refusal.{Refusal}
use Rattle.fc_base.specs.declared.rules.Rule.{Rule}
use Rattle.c_layout.specs.declared.types.CType.{CType}
use Rattle.c_tree.specs.declared.nodes.Spec.{Spec}
use Rattle.c_tree.specs.declared.nodes.Param as param
use Rattle.c_tree.specs.declared.nodes.Param.{Param}
use Rattle.c_tree.specs.declared.nodes.TypeName as type_name
use Rattle.c_tree.specs.declared.nodes.TypeName.{TypeName}
use Rattle.elab_meaning.specs.declared.names.NameUse.TheVariants.{Local}
use Rattle.elab_meaning.specs.Typing.{State, Typing, ◌>>◌, pure, goes_on, change, first_broken, by_rule, answered}
use Rattle.elab_meaning.specs.Parts.{Parameter, ReadSpec, ReadDeclarator, Shape}
use Rattle.elab_meaning.specs.Declarations as meant
use Rattle.elab_meaning.specs.Declarations.{Specifiers, specifiers_part, formed, is_repeated, add_if_named, param_layer, type_name_layer, passes_limit, type_made}
use Rattle.elab_meaning.specs.Trees.{read_declarator, read_param, read_spec, read_type_name}
use Rattle.fc_base.specs.declared.refusals.Fault.{Fault}
use Rattle.fc_base.specs.declared.refusals.Fault.TheVariants as fault
use Rattle.elab_scope.specs.declared.state.State.{State as Code}
use Rattle.elab_meaning.specs.Scope.{Scope as CodeScope}
use Rattle.elab_scope.specs.States.{Types, state_of}
use Rattle.elab_types.specs.declared.shapes.Parameter.{Parameter as Own}
use Rattle.elab_types.specs.declared.shapes.Part.{Part}
use Rattle.elab_types.specs.declared.specifiers.Specifiers.{Specifiers as Kept}
use Rattle.elab_types.specs.Nests.{GivesAs, TypesAs}
use Rattle.elab_types.specs.Shapes.{parameter, named_param, shape_of}
use Rattle.elab_types.specs.Answers.{behind, named_type, param_checks, param_type}
use Rattle.elab_types.specs.Specifiers.{kept_specifiers, specifiers_kept}

-- specifiers as they are kept are those of the definition
pub record FromKept (specs : List ReadSpec) (s t : State) (x : Kept) : Type 0 where
  pub meant : Specifiers
  pub typed : specifiers_part specs s ≡ Ok (meant, t)
  pub same : kept_specifiers meant ≡ x

kept_by : (r : Result (Specifiers × State) Refusal) (t : State) (x : Kept) → goes_on r (λ m. pure (kept_specifiers m)) ≡ Ok (x, t)
    → (m : Specifiers) × (r ≡ Ok (m, t)) × (kept_specifiers m ≡ x)
kept_by (Ok (m, u)) t x e =
    let same = pair_same e in
    (m, ap (λ (v : State). Ok (m, v)) (ap (λ p. p.1) same), ap (λ p. p.0) same)
  where
    pair_same : {A : Type 0} {x y : A} → ◌≡◌ {A = Result A Refusal} (Ok x) (Ok y) → x ≡ y
    pair_same e = cc
kept_by (Err r) t x e = cc

kept_refused : (r : Result (Specifiers × State) Refusal) (e : Refusal) → goes_on r (λ m. pure (kept_specifiers m)) ≡ Err e → r ≡ Err e
kept_refused (Ok (m, u)) e h = cc
kept_refused (Err x) e h = rw (err_same h) refl
  where
    err_same : {A : Type 0} {x y : Refusal} → ◌≡◌ {A = Result A Refusal} (Err x) (Err y) → x ≡ y
    err_same h = cc

pub kept_gives : (specs : List ReadSpec) (s t : State) (x : Kept) → specifiers_kept specs s ≡ Ok (x, t) → FromKept specs s t x
kept_gives specs s t x e =
    let found = kept_by (specifiers_part specs s) t x e in
    record { meant = found.0; typed = found.1; same = found.2 }

-- the rules of a node, and then what it is
first_then : {A B : Type 0} (place : Place) (o : Option Rule) (a : A) (s : State) (rest : A → Typing B)
    → goes_on (answered (by_rule place o (tt {0})) s) (λ u. rest a) ≡ goes_on (answered (by_rule place o a) s) rest
first_then place None a s rest = refl
first_then place (Some r) a s rest = refl

refused_first : (d : ReadDeclarator) (start number : ℕ) (specs : List ReadSpec) (s : State) (r : Refusal) → specifiers_kept specs s ≡ Err r
    → param_layer (record { specs = specs; declarator = d }) start number s ≡ Err r
refused_first d start number specs s r e = rw (kept_refused (specifiers_part specs s) r e) refl

refused_second : (m : Specifiers) (d : ReadDeclarator) (start number : ℕ) (specs : List ReadSpec) (s u : State) (r : Refusal)
    → specifiers_part specs s ≡ Ok (m, u) → d.parts u ≡ Err r → param_layer (record { specs = specs; declarator = d }) start number s ≡ Err r
refused_second m d start number specs s u r e h = rw (e, h) refl

-- ---- parameters

-- a parameter's name is there behind it
abbrev pub param_named : Option (List ℕ) → Place → ℕ → CType → Typing Parameter
param_named name place number t = do
  change (add_if_named name (Local number t))
  pure (record { name = name; place = place; ctype = t })

param_by : (m : Specifiers) (d : ReadDeclarator) (start number : ℕ) (specs : List ReadSpec) (s u v : State) (shape : Shape)
    → specifiers_part specs s ≡ Ok (m, u) → d.parts u ≡ Ok (shape, v)
    → param_layer (record { specs = specs; declarator = d }) start number s
    ≡ goes_on (answered (param_type v.scope.tags (kept_specifiers m) shape (is_repeated start d.name v.scope) d.place) v) (param_named d.name d.place number)
param_by m d start number specs s u v shape e f =
    rw (e, f) (first_then d.place (first_broken (param_checks v.scope.tags (kept_specifiers m) shape (is_repeated start d.name v.scope)))
    (meant.adjusted (formed v.scope.tags m.base shape).made) v (param_named d.name d.place number))

param_is : (p : Param) → read_param p ≡ param_layer (record { specs = map read_spec p.specs; declarator = read_declarator p.declarator })
param_is p = search (rules, param.the_lemmas)

-- a parameter by its specifiers and its declarator's parts
pub param_typed : (p : Param) (start number : ℕ) (s u v : State) (x : Kept) (shape : Shape)
    → specifiers_kept (map read_spec p.specs) s ≡ Ok (x, u) → (read_declarator p.declarator).parts u ≡ Ok (shape, v)
    → read_param p start number s
    ≡ goes_on (answered (param_type v.scope.tags x shape (is_repeated start (read_declarator p.declarator).name v.scope) (read_declarator p.declarator).place) v)
    (param_named (read_declarator p.declarator).name (read_declarator p.declarator).place number)
param_typed p start number s u v x shape e f =
    let g = kept_gives (map read_spec p.specs) s u x e in
    let d = read_declarator p.declarator in
    ap (λ read. read start number s) (param_is p)
    ∙ param_by g.meant d start number (map read_spec p.specs) s u v shape g.typed f
    ∙ ap (λ y. goes_on (answered (param_type v.scope.tags y shape (is_repeated start d.name v.scope) d.place) v) (param_named d.name d.place number)) g.same

-- ---- type names

two_then : {A : Type 0} (at start : Place) (o p : Option Rule) (a : A) (s : State)
    → goes_on (answered (by_rule at o (tt {0})) s) (λ u. λ t. goes_on (answered (by_rule start p (tt {0})) t) (λ w. pure a))
    ≡ answered (behind (by_rule at o (tt {0})) (by_rule start p a)) s
two_then at start None None a s = refl
two_then at start None (Some r) a s = refl
two_then at start (Some r) p a s = refl

name_by : (m : Specifiers) (d : ReadDeclarator) (start : Place) (specs : List ReadSpec) (s u v : State) (shape : Shape)
    → specifiers_part specs s ≡ Ok (m, u) → d.parts u ≡ Ok (shape, v)
    → type_name_layer (record { specs = specs; declarator = d; place = start }) s ≡ answered (named_type v.scope.tags (kept_specifiers m) shape d.place start) v
name_by m d start specs s u v shape e f = rw (e, f) (two_then d.place start _ _ _ v)

name_is : (n : TypeName) → read_type_name n ≡ type_name_layer (record { specs = map read_spec n.specs; declarator = read_declarator n.declarator; place = n.place })
name_is n = search (rules, type_name.the_lemmas)

pub name_typed : (n : TypeName) (s u v : State) (x : Kept) (shape : Shape)
    → specifiers_kept (map read_spec n.specs) s ≡ Ok (x, u) → (read_declarator n.declarator).parts u ≡ Ok (shape, v)
    → read_type_name n s ≡ answered (named_type v.scope.tags x shape (read_declarator n.declarator).place n.place) v
name_typed n s u v x shape e f =
    let g = kept_gives (map read_spec n.specs) s u x e in
    let d = read_declarator n.declarator in
    ap (λ read. read s) (name_is n)
    ∙ name_by g.meant d n.place (map read_spec n.specs) s u v shape g.typed f
    ∙ ap (λ y. answered (named_type v.scope.tags y shape d.place n.place) v) g.same

-- ---- the exits of a parameter

module _ (p : Param) (start number : ℕ) (specs : List Spec) (is : specs ≡ p.specs) (s u : Code) (x : Kept) where
  -- its specifiers break a rule
  own_specs : specifiers_kept (map read_spec specs) (state_of s) ≡ Ok (x, state_of u) → specifiers_kept (map read_spec p.specs) (state_of s) ≡ Ok (x, state_of u)
  own_specs e = subst (λ (xs : List Spec). specifiers_kept (map read_spec xs) (state_of s) ≡ Ok (x, state_of u)) is e

  pub param_first : (f : Fault) (t : Code) → Types {A = Kept} (specifiers_kept (map read_spec specs)) s (Err f) t
      → TypesAs parameter (read_param p start number) s (Err f) t
  param_first fault.NoMemory t e = tt
  param_first (fault.Refused r) t e =
      ap (λ read. read start number (state_of s)) (param_is p) ∙ refused_first (read_declarator p.declarator) start number (map read_spec p.specs) (state_of s) r (subst (λ (xs : List Spec). specifiers_kept (map read_spec xs) (state_of s) ≡ Err r) is e)

  -- its declarator does
  pub param_second : specifiers_kept (map read_spec specs) (state_of s) ≡ Ok (x, state_of u) → (f : Fault) (t : Code)
      → TypesAs shape_of (read_declarator p.declarator).parts u (Err f) t → TypesAs parameter (read_param p start number) s (Err f) t
  param_second e fault.NoMemory t h = tt
  param_second e (fault.Refused r) t h =
      let g = kept_gives (map read_spec p.specs) (state_of s) (state_of u) x (own_specs e) in
      ap (λ read. read start number (state_of s)) (param_is p)
      ∙ refused_second g.meant (read_declarator p.declarator) start number (map read_spec p.specs) (state_of s) (state_of u) r g.typed h

  module _ (v : Code) (parts : List Part) (e : specifiers_kept (map read_spec specs) (state_of s) ≡ Ok (x, state_of u))
      (h : (read_declarator p.declarator).parts (state_of u) ≡ Ok (shape_of parts, state_of v)) where
    abbrev own : Result CType Refusal
    own = param_type v.scope.tags x (shape_of parts) (is_repeated start (read_declarator p.declarator).name v.scope) (read_declarator p.declarator).place

    -- the parameter itself does
    pub param_third : (f : Fault) (t : Code) → GivesAs (λ (c : CType). c) (Err f) own → TypesAs parameter (read_param p start number) s (Err f) t
    param_third fault.NoMemory t k = tt
    param_third (fault.Refused r) t k =
        param_typed p start number (state_of s) (state_of u) (state_of v) x (shape_of parts) (own_specs e) h
        ∙ ap (λ a. goes_on (answered a (state_of v)) (param_named (read_declarator p.declarator).name (read_declarator p.declarator).place number)) k

    pub param_last : (c : CType) (scope : CodeScope) (q : Own) → own ≡ Ok c → q ≡ named_param (read_declarator p.declarator).name (read_declarator p.declarator).place c
        → scope ≡ add_if_named (read_declarator p.declarator).name (Local number c) v.scope
        → read_param p start number (state_of s) ≡ Ok (parameter q, record { scope = scope; beside = v.beside })
    param_last c scope q k named after =
        param_typed p start number (state_of s) (state_of u) (state_of v) x (shape_of parts) (own_specs e) h
        ∙ ap (λ a. goes_on (answered a (state_of v)) (param_named (read_declarator p.declarator).name (read_declarator p.declarator).place number)) k
        ∙ ap (λ (z : CodeScope). Ok (record { name = (read_declarator p.declarator).name; place = (read_declarator p.declarator).place; ctype = c }, record { scope = z; beside = v.beside })) (sym after)
        ∙ ap (λ (z : Own). Ok (parameter z, record { scope = scope; beside = v.beside })) (sym named)

-- ---- the exits of a type name

refused_name : (d : ReadDeclarator) (start : Place) (specs : List ReadSpec) (s : State) (r : Refusal) → specifiers_kept specs s ≡ Err r
    → type_name_layer (record { specs = specs; declarator = d; place = start }) s ≡ Err r
refused_name d start specs s r e = rw (kept_refused (specifiers_part specs s) r e) refl

module _ (n : TypeName) (specs : List Spec) (is : specs ≡ n.specs) (s : Code) where
  -- its specifiers break a rule
  pub name_first : (f : Fault) (t : Code) → Types {A = Kept} (specifiers_kept (map read_spec specs)) s (Err f) t
      → Types {A = CType} (read_type_name n) s (Err f) t
  name_first fault.NoMemory t e = tt
  name_first (fault.Refused r) t e =
      ap (λ read. read (state_of s)) (name_is n)
      ∙ refused_name (read_declarator n.declarator) n.place (map read_spec n.specs) (state_of s) r
      (subst (λ (xs : List Spec). specifiers_kept (map read_spec xs) (state_of s) ≡ Err r) is e)

  -- it breaks one itself, or none
  pub name_last : (u v : Code) (x : Kept) (parts : List Part) → specifiers_kept (map read_spec specs) (state_of s) ≡ Ok (x, state_of u)
      → (read_declarator n.declarator).parts (state_of u) ≡ Ok (shape_of parts, state_of v) → (r : Result CType Fault)
      → GivesAs (λ (c : CType). c) r (named_type v.scope.tags x (shape_of parts) (read_declarator n.declarator).place n.place)
      → Types {A = CType} (read_type_name n) s r v
  name_last u v x parts e h (Ok c) k =
      name_typed n (state_of s) (state_of u) (state_of v) x (shape_of parts)
      (subst (λ (xs : List Spec). specifiers_kept (map read_spec xs) (state_of s) ≡ Ok (x, state_of u)) is e) h
      ∙ ap (λ a. answered a (state_of v)) k
  name_last u v x parts e h (Err (fault.Refused r)) k =
      name_typed n (state_of s) (state_of u) (state_of v) x (shape_of parts)
      (subst (λ (xs : List Spec). specifiers_kept (map read_spec xs) (state_of s) ≡ Ok (x, state_of u)) is e) h
      ∙ ap (λ a. answered a (state_of v)) k
  name_last u v x parts e h (Err fault.NoMemory) k = tt
