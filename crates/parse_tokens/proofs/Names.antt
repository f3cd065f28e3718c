-- What a token is to the grammar depends only on which names are those of types.
use Rattle.std.proofs.Common.{◌≡◌, ℕ, List, [], ◌∷◌, ◌++◌, map, Bool, true, false, refl, sym, ap, subst, ◌∙◌}
use Rattle.std.specs.Prelude.{if◌then◌else◌, ◌||◌, Option, Some, None}
use Rattle.std.specs.Str.{bytes_eq}
use Rattle.std.specs.List.{list_any}
use Rattle.std.specs.Cmp.Lexicographic.{nat_list_eq_equiv}
use Rattle.std.proofs.lemmas.List.{map-append}
use Rattle.std.proofs.lemmas.List.Folds.{list_any-append}
use Rattle.std.proofs.lemmas.Slice.Eq.{bytes_eq-Decides}
use Rattle.indexmap.specs.IndexSet.{insert_key}
use Rattle.c_tokens.specs.declared.tokens.Token.{Token}
use Rattle.c_tokens.specs.declared.tokens.TokenKind.{TokenKind}
use Rattle.c_tokens.specs.declared.tokens.TokenKind.TheVariants as kind
use Rattle.parse_meaning.specs.declared.terminals.Keyword.{Keyword}
use Rattle.parse_meaning.specs.Terminals.{has, named, terminal, lexeme}
use Rattle.parse_tokens.specs.Names.{with_name}

-- the same names are among both
abbrev pub SameNames : List (List ℕ) → List (List ℕ) → Type 0
SameNames a b = (name : List ℕ) → has a name ≡ has b name

named_alike : (a b : List (List ℕ)) (name : List ℕ) (word : Option Keyword) → SameNames a b → named a name word ≡ named b name word
named_alike a b name (Some word) e = refl
named_alike a b name None e = rw (e name) refl

terminal_alike : (a b : List (List ℕ)) (o : TokenKind) → SameNames a b → terminal a o ≡ terminal b o
terminal_alike a b (kind.Name name) e = named_alike a b name _ e
terminal_alike a b (kind.Number value spelled) e = refl
terminal_alike a b (kind.CharConst byte) e = refl
terminal_alike a b (kind.Str bytes) e = refl
terminal_alike a b (kind.Punct p) e = refl
terminal_alike a b (kind.HeaderName bytes) e = refl
terminal_alike a b (kind.Header id) e = refl

pub lexemes_alike : (a b : List (List ℕ)) (s : List Token) → SameNames a b → map (lexeme a) s ≡ map (lexeme b) s
lexemes_alike a b [] e = refl
lexemes_alike a b (o ∷ s) e = rw (terminal_alike a b o.kind e, lexemes_alike a b s e) refl

-- ---- The set of names that the code keeps

bytes_eq_turned : (a b : List ℕ) → bytes_eq a b ≡ bytes_eq b a
bytes_eq_turned a b = nat_list_eq_equiv.symm a b

module _ {K : Type 0} (bytes : K → List ℕ) where
  pub has_keys : (keys : List K) (name : List ℕ) → list_any (λ key. bytes_eq name (bytes key)) keys ≡ has (map bytes keys) name
  has_keys [] name = refl
  has_keys (key ∷ keys) name = rw (bytes_eq_turned name (bytes key), has_keys keys name) refl

  chosen : (found : Bool) (keys : List K) (key : K) →
      map bytes (if found then keys else keys ++ key ∷ []) ≡ (if found then map bytes keys else map bytes keys ++ bytes key ∷ [])
  chosen true keys key = refl
  chosen false keys key = map-append bytes keys (key ∷ [])

  pub keys_pushed : (keys : List K) (key : K) →
      map bytes (insert_key (λ x y. bytes_eq (bytes x) (bytes y)) keys key) ≡ with_name (bytes key) (map bytes keys)
  keys_pushed keys key = rw (has_keys keys (bytes key)) (chosen _ keys key)

-- ---- Names that are added one by one

has_equal : (names : List (List ℕ)) (name other : List ℕ) → has names name ≡ true → bytes_eq name other ≡ true → has names other ≡ true
has_equal names name other there same =
    let e : name ≡ other = (bytes_eq-Decides name other).0 same in subst (λ n. has names n ≡ true) e there

absorbed : (x y : Bool) → (y ≡ true → x ≡ true) → x ≡ (x || (y || false))
absorbed true y h = refl
absorbed false true h = h refl
absorbed false false h = refl

added : (found : Bool) (names : List (List ℕ)) (name other : List ℕ) → has names name ≡ found →
    has (if found then names else names ++ name ∷ []) other ≡ has (names ++ name ∷ []) other
added false names name other e = refl
added true names name other e =
    absorbed (has names other) (bytes_eq name other) (has_equal names name other e)
    ∙ sym (list_any-append (λ n. bytes_eq n other) names (name ∷ []))

-- a name that is there already changes nothing
pub with_name_same : (names : List (List ℕ)) (name : List ℕ) → SameNames (with_name name names) (names ++ name ∷ [])
with_name_same names name other = added (has names name) names name other refl

pub append_same : (a b names : List (List ℕ)) → SameNames a b → SameNames (a ++ names) (b ++ names)
append_same a b names e name =
    list_any-append (λ n. bytes_eq n name) a names ∙ ap (λ x. x || has names name) (e name)
    ∙ sym (list_any-append (λ n. bytes_eq n name) b names)
