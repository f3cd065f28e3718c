-- The test of two kinds of token decides whether they are equal.
use Rattle.std.proofs.Common.{◌≡◌, Bool, true, false, List, refl, sym, ap, subst}
use Rattle.std.specs.Bool.{Decides}
use Rattle.std.proofs.lemmas.Bool.{eqb-true, eq-eqb, and_parts, and_from, false≢true}
use Rattle.std.proofs.lemmas.Slice.Eq.{bytes_eq-Decides, slice_eq-Decides}
use Rattle.c_headers.specs.declared.headers.HeaderId.{HeaderId}
use Rattle.c_headers.specs.Headers.{header_number}
use Rattle.c_headers.proofs.Table.{by_number as header_by_number}
use Rattle.c_tokens.specs.declared.NumberKind.{NumberKind}
use Rattle.c_tokens.specs.declared.TokenKind.{TokenKind}
use Rattle.c_tokens.specs.declared.TokenKind.TheVariants as kind
use Rattle.c_tokens.proofs.PunctLaw.{same_punct_decides}
use Rattle.macro_meaning.specs.Sameness.{same_header, same_bool, same_number, same_kind}
use Rattle.fort_forms.specs.Reading.{same_kinds}

one_header : (a b : HeaderId) → same_header a b ≡ true → a ≡ b
one_header a b e = header_by_number a b (eqb-true (header_number a) (header_number b) e)

-- ---- what the spelling of a number says

one_bool : (a b : Bool) → same_bool a b ≡ true → a ≡ b
one_bool true b e = sym e
one_bool false true e = absurd (false≢true e)
one_bool false false e = refl

bool_itself : (a : Bool) → same_bool a a ≡ true
bool_itself true = refl
bool_itself false = refl

one_number : (a b : NumberKind) → same_number a b ≡ true → a ≡ b
one_number a b e =
    let parts = and_parts _ _ e in
    let more = and_parts _ _ parts.1 in
    let decimal = one_bool a.decimal b.decimal parts.0 in
    let unsigned = one_bool a.unsigned b.unsigned more.0 in
    let longs = eqb-true a.longs b.longs more.1 in
    λ i. record { decimal = decimal i; unsigned = unsigned i; longs = longs i }

number_itself : (a : NumberKind) → same_number a a ≡ true
number_itself a = and_from _ _ (bool_itself a.decimal) (and_from _ _ (bool_itself a.unsigned) (eq-eqb a.longs a.longs refl))

-- ---- kinds of token

one_kind : (a b : TokenKind) → same_kind a b ≡ true → a ≡ b
one_kind (kind.Name a) (kind.Name b) e = ap (λ t. kind.Name t) ((bytes_eq-Decides a b).0 e)
one_kind (kind.Number v a) (kind.Number w b) e =
    let parts = and_parts _ _ e in
    let value = eqb-true v w parts.0 in
    let same = one_number a b parts.1 in
    λ i. kind.Number (value i) (same i)
one_kind (kind.CharConst a) (kind.CharConst b) e = ap (λ t. kind.CharConst t) (eqb-true a b e)
one_kind (kind.Str a) (kind.Str b) e = ap (λ t. kind.Str t) ((bytes_eq-Decides a b).0 e)
one_kind (kind.Punct p) (kind.Punct q) e = ap (λ t. kind.Punct t) ((same_punct_decides p q).0 e)
one_kind (kind.HeaderName a) (kind.HeaderName b) e = ap (λ t. kind.HeaderName t) ((bytes_eq-Decides a b).0 e)
one_kind (kind.Header a) (kind.Header b) e = ap (λ t. kind.Header t) (one_header a b e)
one_kind _ _ e = absurd (false≢true e)

kind_itself : (a : TokenKind) → same_kind a a ≡ true
kind_itself (kind.Name a) = (bytes_eq-Decides a a).1 refl
kind_itself (kind.Number v a) = and_from _ _ (eq-eqb v v refl) (number_itself a)
kind_itself (kind.CharConst a) = eq-eqb a a refl
kind_itself (kind.Str a) = (bytes_eq-Decides a a).1 refl
kind_itself (kind.Punct p) = (same_punct_decides p p).1 refl
kind_itself (kind.HeaderName a) = (bytes_eq-Decides a a).1 refl
kind_itself (kind.Header a) = eq-eqb (header_number a) (header_number a) refl

kind_decides : (a b : TokenKind) → Decides (same_kind a b) (a ≡ b)
kind_decides a b = (one_kind a b, λ e. subst (λ x. same_kind a x ≡ true) e (kind_itself a))

-- so does the test of two lists of them
pub kinds_decide : (a b : List TokenKind) → Decides (same_kinds a b) (a ≡ b)
kinds_decide a b = slice_eq-Decides kind_decides a b (same_kinds a b) refl
