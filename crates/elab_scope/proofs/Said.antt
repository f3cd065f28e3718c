-- What is said of a function is what was said of it last.
use Rattle.std.proofs.Common.{◌≡◌, ℕ, ◌+◌, List, [], ◌∷◌, filter, find, fold, Bool, true, false, cond, Bor, refl, sym, ap, ◌∙◌, add-one}
use Rattle.std.specs.Prelude.{Option, Some, None, option_and_then, if◌then◌else◌, not, slice_get}
use Rattle.std.specs.Option.{option_or, option_map, option_copied}
use Rattle.std.specs.Str.{bytes_eq}
use Rattle.elab_meaning.specs.Typing.{Declared}
use Rattle.elab_meaning.specs.Externals.{declared_of}
use Rattle.elab_scope.specs.declared.beside.Facts.{Facts}
use Rattle.elab_scope.specs.Functions.{declared, said, latest}
use Rattle.elab_scope.specs.Names.{last_number, last_number_from, names_of, values_of}
use Rattle.elab_scope.proofs.Lookups.{bytes_eq_same}

-- ---- numbers from one place further on

shifted : (r : Option ℕ) (b : Bool) (k : ℕ) →
    option_or (option_map (λ n. n + 1) r) (if b then Some (k + 1) else None) ≡ option_map (λ n. n + 1) (option_or r (if b then Some k else None))
shifted None true k = refl
shifted None false k = refl
shifted (Some n) b k = refl

pub last_behind : (k : ℕ) (name : List ℕ) (ns : List (List ℕ)) → last_number_from (k + 1) name ns ≡ option_map (λ n. n + 1) (last_number_from k name ns)
last_behind k name [] = refl
last_behind k name (n ∷ ns) =
    ap (λ r. option_or r (if bytes_eq n name then Some (k + 1) else None)) (last_behind (k + 1) name ns)
    ∙ shifted (last_number_from (k + 1) name ns) (bytes_eq n name) k

-- ---- one declaration more

abbrev is_of : List ℕ → Declared → Bool
is_of name f = bytes_eq f.name name

-- what is said of another function stays
others_stay : (name n : List ℕ) (fs : List Declared) → bytes_eq n name ≡ false →
    find (is_of name) (filter (λ g. not (bytes_eq g.name n)) fs) ≡ find (is_of name) fs
others_stay name n [] e = refl
others_stay name n (f ∷ fs) e = by (bytes_eq f.name n) refl (others_stay name n fs e)
  where
    by : (b : Bool) → bytes_eq f.name n ≡ b → find (is_of name) (filter (λ g. not (bytes_eq g.name n)) fs) ≡ find (is_of name) fs →
        find (is_of name) (cond (not b) (f ∷ filter (λ g. not (bytes_eq g.name n)) fs) (filter (λ g. not (bytes_eq g.name n)) fs)) ≡ find (is_of name) (f ∷ fs)
    by true p behind =
        let other : bytes_eq f.name name ≡ false = ap (λ m. bytes_eq m name) (bytes_eq_same f.name n p) ∙ e in
        behind ∙ rw other refl
    by false p behind = ap (λ r. cond (bytes_eq f.name name) (Some f) r) behind

said_one : (name : List ℕ) (fs : List Declared) (p : List ℕ × Facts) →
    find (is_of name) (said fs p) ≡ (if bytes_eq p.0 name then Some (declared name p.1) else find (is_of name) fs)
said_one name fs p = by (bytes_eq p.0 name) refl
  where
    by : (b : Bool) → bytes_eq p.0 name ≡ b →
        cond b (Some (declared p.0 p.1)) (find (is_of name) (filter (λ g. not (bytes_eq g.name p.0)) fs))
        ≡ (if b then Some (declared name p.1) else find (is_of name) fs)
    by true e = ap (λ n. Some (declared n p.1)) (bytes_eq_same p.0 name e)
    by false e = others_stay name p.0 fs e

-- what the last number of a name finds, or else what was found before
abbrev found : List ℕ → List (List ℕ × Facts) → Option Declared → Option ℕ → Option Declared
found name ps before None = before
found name ps before (Some n) = option_map (declared name) (slice_get (values_of ps) n)

said_all : (name : List ℕ) (fs : List Declared) (ps : List (List ℕ × Facts)) →
    find (is_of name) (fold said fs ps) ≡ found name ps (find (is_of name) fs) (last_number name (names_of ps))
said_all name fs [] = refl
said_all name fs (p ∷ ps) =
    said_all name (said fs p) ps ∙ by (last_number name (names_of ps))
    ∙ ap (λ r. found name (p ∷ ps) (find (is_of name) fs) (option_or r (if bytes_eq p.0 name then Some 0 else None))) (sym (last_behind 0 name (names_of ps)))
  where
    first : (b : Bool) → (if b then Some (declared name p.1) else find (is_of name) fs)
        ≡ found name (p ∷ ps) (find (is_of name) fs) (option_or None (if b then Some 0 else None))
    first true = refl
    first false = refl

    by : (r : Option ℕ) → found name ps (find (is_of name) (said fs p)) r
        ≡ found name (p ∷ ps) (find (is_of name) fs) (option_or (option_map (λ n. n + 1) r) (if bytes_eq p.0 name then Some 0 else None))
    by None = said_one name fs p ∙ first (bytes_eq p.0 name)
    by (Some n) = ap (λ k. option_map (declared name) (slice_get (values_of (p ∷ ps)) k)) (sym (add-one n))

declared_last : (name : List ℕ) (ps : List (List ℕ × Facts)) →
    declared_of (latest ps) name ≡ option_map (declared name) (option_and_then (slice_get (values_of ps)) (last_number name (names_of ps)))
declared_last name ps = said_all name [] ps ∙ by (last_number name (names_of ps))
  where
    by : (r : Option ℕ) → found name ps None r ≡ option_map (declared name) (option_and_then (slice_get (values_of ps)) r)
    by None = refl
    by (Some n) = refl

said_as : (name : List ℕ) (r : Option (Bor Facts)) → option_map (λ facts. declared name facts.now) r ≡ option_map (declared name) (option_copied r)
said_as name None = refl
said_as name (Some facts) = refl

pub nothing_said : (name : List ℕ) (ps : List (List ℕ × Facts)) → None ≡ last_number name (names_of ps) → None ≡ declared_of (latest ps) name
nothing_said name ps e = sym (declared_last name ps ∙ ap (λ r. option_map (declared name) (option_and_then (slice_get (values_of ps)) r)) (sym e))

pub last_said : (name : List ℕ) (ps : List (List ℕ × Facts)) (n : ℕ) (r : Option (Bor Facts)) → Some n ≡ last_number name (names_of ps) →
    option_copied r ≡ slice_get (values_of ps) n → option_map (λ facts. declared name facts.now) r ≡ declared_of (latest ps) name
last_said name ps n r e f =
    said_as name r ∙ ap (option_map (declared name)) f
    ∙ sym (declared_last name ps ∙ ap (λ r. option_map (declared name) (option_and_then (slice_get (values_of ps)) r)) (sym e))
