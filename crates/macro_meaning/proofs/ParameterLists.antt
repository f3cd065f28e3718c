-- The functions that read parameters give what the relation says.
use Rattle.std.proofs.Common.{◌≡◌, Bool, true, false, if◌then◌else◌, List, [], ◌∷◌, Option, Some, None, refl}
use Rattle.std.specs.Prelude.{option_and_then}
use Rattle.c_tokens.specs.declared.Token.{Token}
use Rattle.c_tokens.specs.declared.TokenKind.{TokenKind}
use Rattle.c_tokens.specs.declared.TokenKind.TheVariants as kind
use Rattle.c_tokens.specs.declared.Punct.TheVariants as punct
use Rattle.macro_meaning.specs.Macros.{Name, closes, is_comma}
use Rattle.macro_meaning.specs.Definitions.{name_of, HasNames, last, another, AreParameters, none, some, Parameters, with_parameter, behind_name, some_parameters, parameters_of}

-- ---- what is read stands in the relation

abbrev Has : List Token → Option Parameters → Type 0
Has ts o = (p : Parameters) → o ≡ Some p → HasNames ts p.names p.rest

with_more : (t u : Token) (ts : List Token) (name : Name) → name_of t.kind ≡ Some name → is_comma u.kind ≡ true → (o : Option Parameters)
    → Has ts o
    → Has (t ∷ u ∷ ts) (with_parameter name o)
with_more t u ts name n c None h p e = cc
with_more t u ts name n c (Some q) h p e =
    let same : ◌≡◌ {A = Parameters} (record { names = name ∷ q.names; rest = q.rest }) p = cc in rw (← same) (another n c (h q refl))

by_comma : (t u : Token) (ts : List Token) (name : Name) → name_of t.kind ≡ Some name → (v : Bool) → is_comma u.kind ≡ v
    → Has ts (some_parameters ts)
    → Has (t ∷ u ∷ ts) (if v then with_parameter name (some_parameters ts) else None)
by_comma t u ts name n true c h = with_more t u ts name n c (some_parameters ts) h
by_comma t u ts name n false c h = λ p e. cc

by_close : (t u : Token) (ts : List Token) (name : Name) → name_of t.kind ≡ Some name → (v : Bool) → closes u.kind ≡ v
    → Has ts (some_parameters ts)
    → Has (t ∷ u ∷ ts) (if v then Some (record { names = name ∷ []; rest = ts }) else (
    if is_comma u.kind then with_parameter name (some_parameters ts) else None))
by_close t u ts name n true c h = λ p e.
    (let same : ◌≡◌ {A = Parameters} (record { names = name ∷ []; rest = ts }) p = cc in rw (← same) (last n c))
by_close t u ts name n false c h = by_comma t u ts name n (is_comma u.kind) refl h

by_name : (t u : Token) (ts : List Token) (o : Option Name) → name_of t.kind ≡ o → Has ts (some_parameters ts)
    → Has (t ∷ u ∷ ts) (option_and_then (λ name. behind_name name u.kind ts (some_parameters ts)) o)
by_name t u ts None n h = λ p e. cc
by_name t u ts (Some name) n h = by_close t u ts name n (closes u.kind) refl h

has_names : (ts : List Token) → Has ts (some_parameters ts)
unfolding some_parameters
has_names [] p e = cc
has_names (t ∷ []) p e = cc
has_names (t ∷ u ∷ ts) p e = by_name t u ts (name_of t.kind) refl (has_names ts) p e

first_closes : (t : Token) (ts : List Token) (p : Parameters) (v : Bool) → closes t.kind ≡ v
    → (if v then Some (record { names = []; rest = ts }) else some_parameters (t ∷ ts)) ≡ Some p → AreParameters (t ∷ ts) p.names p.rest
first_closes t ts p true c e = let same : ◌≡◌ {A = Parameters} (record { names = []; rest = ts }) p = cc in rw (← same) (none c)
first_closes t ts p false c e = some (has_names (t ∷ ts) p e)

pub are_parameters : (ts : List Token) (p : Parameters) → parameters_of ts ≡ Some p → AreParameters ts p.names p.rest
are_parameters [] p e = cc
are_parameters (t ∷ ts) p e = first_closes t ts p (closes t.kind) refl e

-- ---- what stands in the relation is read

not_closing : (k : TokenKind) → is_comma k ≡ true → closes k ≡ false
not_closing (kind.Punct punct.Comma) e = refl
not_closing (kind.Punct punct.RightParen) e = cc
not_closing (kind.Punct _) e = refl
not_closing _ e = refl

name_is_open : (k : TokenKind) (name : Name) → name_of k ≡ Some name → closes k ≡ false
name_is_open (kind.Name n) name e = refl
name_is_open _ name e = cc

some_read : {ts rest : List Token} {names : List Name} → HasNames ts names rest
    → some_parameters ts ≡ Some (record { names = names; rest = rest })
unfolding some_parameters
some_read (last n c) = rw (n, c) refl
some_read (another {u = u} n c r) = rw (n, not_closing u.kind c, c, some_read r) refl

first_name : {ts rest : List Token} {names : List Name} → HasNames ts names rest → parameters_of ts ≡ some_parameters ts
first_name (last {t = t} {name = name} n c) = rw (name_is_open t.kind name n) refl
first_name (another {t = t} {name = name} n c r) = rw (name_is_open t.kind name n) refl

pub parameters_read : {ts rest : List Token} {names : List Name} → AreParameters ts names rest
    → parameters_of ts ≡ Some (record { names = names; rest = rest })
parameters_read (none c) = rw c refl
parameters_read (some h) = rw (first_name h) (some_read h)
