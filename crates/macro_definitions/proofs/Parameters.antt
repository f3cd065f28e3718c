-- The parameters of a definition, one after the other.
use Rattle.std.proofs.Common.{◌≡◌, ◌≤◌, ◌<◌, Bool, true, false, not, ◌&&◌, ◌||◌, if◌then◌else◌, List, [], ◌∷◌, ◌++◌, length, get_or, drop, Option, Some, None, option_map, refl, sym, ap, ◌∙◌, append_assoc, arith}
use Rattle.std.specs.Prelude.{option_and_then}
use Rattle.std.specs.List.{list_any}
use Rattle.std.proofs.lemmas.Cmp.{nat_list_eq_equiv}
use Rattle.std.proofs.lemmas.List.Folds.{list_any-append}
use Rattle.c_tokens.specs.declared.Token.{Token}
use Rattle.c_tokens.specs.declared.TokenKind.{TokenKind}
use Rattle.macro_meaning.specs.Macros.{Name, same_name, has, closes, is_comma}
use Rattle.macro_meaning.specs.Definitions.{Parameters, with_parameter, behind_name, some_parameters, are_distinct, distinct, name_of}

-- ---- different names

-- the name stands among these
abbrev pub repeats : Name → List Name → Bool
repeats name = list_any (same_name name)

-- names are compared either way round
turned : (a b : Name) → same_name b a ≡ same_name a b
turned a b = nat_list_eq_equiv.symm b a

has_one : (front rest : List Name) (name other : Name) → same_name name other ≡ true → has (front ++ name ∷ rest) other ≡ true
has_one front rest name other e =
    list_any-append (same_name other) front (name ∷ rest) ∙ rw (turned name other ∙ e) (or_true (has front other))
  where
    or_true : (b : Bool) → (b || true) ≡ true
    or_true true = refl
    or_true false = refl

-- a name that stood before makes the names no different ones, whatever follows
not_distinct : (front rest : List Name) (name : Name) → repeats name front ≡ true → are_distinct (front ++ name ∷ rest) ≡ false
not_distinct [] rest name e = cc
not_distinct (m ∷ ms) rest name e = by (same_name name m) refl e (not_distinct ms rest name)
  where
    and_false : (b : Bool) → (b && false) ≡ false
    and_false true = refl
    and_false false = refl

    by : (b : Bool) → same_name name m ≡ b → (b || repeats name ms) ≡ true
        → (repeats name ms ≡ true → are_distinct (ms ++ name ∷ rest) ≡ false)
        → (not (has (ms ++ name ∷ rest) m) && are_distinct (ms ++ name ∷ rest)) ≡ false
    by true f g more = rw (has_one ms rest name m f) refl
    by false f g more = rw (more g) (and_false (not (has (ms ++ name ∷ rest) m)))

parts : (a b : Bool) → (a && b) ≡ true → (a ≡ true) × (b ≡ true)
parts true b e = (refl, e)
parts false b e = cc

pub distinct_push : (front : List Name) (name : Name) → are_distinct front ≡ true → repeats name front ≡ false
    → are_distinct (front ++ name ∷ []) ≡ true
distinct_push [] name d e = refl
distinct_push (m ∷ ms) name d e =
    let p = parts (not (has ms m)) (are_distinct ms) d in
    by (same_name name m) refl e (distinct_push ms name p.1) p.0
  where
    kept : (b : Bool) → not b ≡ true → (not (b || false) && true) ≡ true
    kept true q = q
    kept false q = refl

    by : (b : Bool) → same_name name m ≡ b → (b || repeats name ms) ≡ false
        → (repeats name ms ≡ false → are_distinct (ms ++ name ∷ []) ≡ true) → not (has ms m) ≡ true
        → (not (has (ms ++ name ∷ []) m) && are_distinct (ms ++ name ∷ [])) ≡ true
    by true f g more q = cc
    by false f g more q =
        let h : has (ms ++ name ∷ []) m ≡ (has ms m || (same_name m name || false)) = list_any-append (same_name m) ms (name ∷ []) in
        rw (h, turned name m ∙ f, more g) (kept (has ms m) q)

-- what it says that the name is new, or not
pub known : (is_new r : Bool) → is_new ≡ not r → is_new ≡ false → r ≡ true
known is_new true e f = refl
known is_new false e f = cc

pub unknown : (is_new r : Bool) → is_new ≡ not r → is_new ≡ true → r ≡ false
unknown is_new true e f = cc
unknown is_new false e f = refl

-- ---- a list of parameters

-- the parameters, where these were read before
abbrev pub behind : List Name → Option Parameters → Option Parameters
behind front = option_map (λ p. record { names = front ++ p.names; rest = p.rest })

behind_more : (front : List Name) (name : Name) (o : Option Parameters)
    → behind front (with_parameter name o) ≡ behind (front ++ name ∷ []) o
behind_more front name None = refl
behind_more front name (Some p) = rw append_assoc refl

two : (ts : List Token) (x y : Token) → 2 ≤ length ts
    → some_parameters ts ≡ option_and_then (λ name. behind_name name (get_or ts 1 y).kind (drop 2 ts) (some_parameters (drop 2 ts)))
    (name_of (get_or ts 0 x).kind)
unfolding some_parameters
two [] x y le = absurd (omega arith)
two (t ∷ []) x y le = absurd (omega arith)
two (t ∷ u ∷ us) x y le = refl

pub few : (front : List Name) (ts : List Token) (all : Option Parameters) → length ts < 2
    → distinct (behind front (some_parameters ts)) ≡ all → None ≡ all
unfolding some_parameters
few front [] all lt h = h
few front (t ∷ []) all lt h = h
few front (t ∷ u ∷ us) all lt h = absurd (omega arith)

module _ (front : List Name) (name : Name) (e : repeats name front ≡ true) where
  repeated_behind : (o : Option Parameters) → distinct (behind front (with_parameter name o)) ≡ None
  repeated_behind None = refl
  repeated_behind (Some p) = rw (not_distinct front p.names name e) refl

  repeated_by : (k : TokenKind) (rest : List Token) (more : Option Parameters)
      → distinct (behind front (behind_name name k rest more)) ≡ None
  repeated_by k rest more = by (closes k) (is_comma k)
    where
      by : (a b : Bool) → distinct
          (behind front (if a then Some (record { names = name ∷ []; rest = rest }) else (if b then with_parameter name more else None)))
          ≡ None
      by true b = rw (not_distinct front [] name e) refl
      by false true = repeated_behind more
      by false false = refl

module _ (front : List Name) (ts : List Token) (all : Option Parameters) (x : Token) (le : 2 ≤ length ts)
    (h : distinct (behind front (some_parameters ts)) ≡ all) where
  pub no_name : None ≡ name_of (get_or ts 0 x).kind → None ≡ all
  no_name n = let g = rw (two ts x x le, ← n) at h in g

  pub repeated : (name : Name) → Some name ≡ name_of (get_or ts 0 x).kind → repeats name front ≡ true → None ≡ all
  repeated name n e =
      let g = rw (two ts x x le, ← n) at h in
      sym (repeated_by front name e (get_or ts 1 x).kind (drop 2 ts) (some_parameters (drop 2 ts))) ∙ g

  pub last_one : (y : Token) (name : Name) → Some name ≡ name_of (get_or ts 0 x).kind → are_distinct (front ++ name ∷ []) ≡ true
      → closes (get_or ts 1 y).kind ≡ true
      → Some (record { names = front ++ name ∷ []; rest = drop 2 ts }) ≡ all
  last_one y name n d s = let g = rw (two ts x y le, ← n, s, d) at h in g

  pub another_one : (y : Token) (name : Name) → Some name ≡ name_of (get_or ts 0 x).kind → closes (get_or ts 1 y).kind ≡ false
      → is_comma (get_or ts 1 y).kind ≡ true
      → distinct (behind (front ++ name ∷ []) (some_parameters (drop 2 ts))) ≡ all
  another_one y name n s c =
      let g = rw (two ts x y le, ← n, s, c) at h in ap distinct (sym (behind_more front name (some_parameters (drop 2 ts)))) ∙ g

  pub neither : (y : Token) (name : Name) → Some name ≡ name_of (get_or ts 0 x).kind → closes (get_or ts 1 y).kind ≡ false
      → is_comma (get_or ts 1 y).kind ≡ false → None ≡ all
  neither y name n s c = let g = rw (two ts x y le, ← n, s, c) at h in g
