-- What is in the grammar is read: attributes, specifiers without bodies, stars and string literals.
use Rattle.std.proofs.Common.{◌≡◌, ℕ, zero, suc, ◌<◌, ◌≤◌, List, [], ◌∷◌, ◌++◌, length, Option, Some, None, Bool, true, false, refl, sym, ap, ◌∙◌, append_assoc, append-nil, arith}
use Rattle.std.specs.Prelude.{is_some, ◌||◌}
use Rattle.fc_base.specs.declared.refusals.Place.{Place}
use Rattle.c_tokens.specs.declared.puncts.Punct.{Punct}
use Rattle.c_tokens.specs.declared.puncts.Punct.TheVariants as p
use Rattle.c_tokens.specs.declared.tokens.Token.{Token}
use Rattle.c_tree.specs.declared.nodes.Attribute.{Attribute}
use Rattle.c_tree.specs.declared.nodes.Spec.{Spec}
use Rattle.c_tree.specs.declared.nodes.Spec.TheVariants as spec
use Rattle.c_tree.specs.declared.nodes.PointerWord.{PointerWord}
use Rattle.c_tree.specs.declared.nodes.Aggregate.{Aggregate}
use Rattle.c_tree.specs.declared.nodes.Aggregate.TheVariants as aggregate
use Rattle.c_tree.specs.declared.nodes.BasicWord.{BasicWord}
use Rattle.parse_meaning.specs.declared.terminals.Brackets.{Brackets}
use Rattle.parse_meaning.specs.declared.terminals.Brackets.TheVariants as brackets
use Rattle.parse_meaning.specs.declared.terminals.Keyword.{Keyword}
use Rattle.parse_meaning.specs.declared.terminals.Keyword.TheVariants as w
use Rattle.parse_meaning.specs.declared.terminals.Terminal.{Terminal}
use Rattle.parse_meaning.specs.declared.terminals.Terminal.TheVariants as k
use Rattle.parse_meaning.specs.Terminals.{Lexeme, at, text_of, is_word, is_tag, place_of}
use Rattle.parse_meaning.specs.Specifiers.{Context, Tally, nothing, whole_type}
use Rattle.parse_meaning.specs.Expressions as g
use Rattle.parse_meaning.specs.Expressions.{opening, closing, is_bracket, AreBalanced, IsAttribute, AreAttributes, IsAttributeList, AreStrings, ArePointerWords, AreStars, pointer_word, IsSpec, AreSpecsAny, AreSpecs, aggregate_word, basic_word, identifier, has_bodies}
use Rattle.parse_reading.specs.Reading.{◌>>=◌, binds, same_brackets, with_token, balanced, attribute_called, attribute_behind, attribute, attributes, attributes_within, attribute_list, pointer_words_by, pointer_words, stars, strings, Read, found, Counted, Specs, is_spec_word, begins_spec, counted, tag, attribute_spec, basic_spec, word_spec, plain_spec, specs_any, specs_in}
use Rattle.parse_meaning.proofs.Alone.{alike_shorter, attribute_moves, spec_moves}

-- ---- String literals

pub record StringsFrom (s : List Lexeme) (bytes : List ℕ) (t : List Lexeme) : Type 0 where
  pub first : Token
  pub behind : List Lexeme
  pub whole : s ≡ at k.Str first ∷ behind
  pub same : strings first behind ≡ (bytes, t)

no_strings : (o : Token) (t : List Lexeme) → 0 < binds t → strings o t ≡ (text_of o, t)
unfolding strings
no_strings o [] e = refl
no_strings o (at k.Str q ∷ t) e = absurd (omega arith)
no_strings o _ e = refl

pub strings_read : {s t : List Lexeme} {bytes : List ℕ} → AreStrings s bytes t → 0 < binds t → StringsFrom s bytes t
unfolding strings
strings_read (g.one_string {o = o} {t = t}) e = record { first = o; behind = t; whole = refl; same = no_strings o t e }
strings_read (g.more_strings {o = o} {s = s} {t = t} {bytes = bytes} d) e =
    let r = strings_read d e in
    record { first = o; behind = s; whole = refl; same = rw (r.whole, r.same) refl }

-- ---- Balanced tokens

abbrev with_tokens : List Token → Option (List Token × List Lexeme) → Option (List Token × List Lexeme)
with_tokens os r = r >>= λ r. Some (os ++ r.0, r.1)

with_none : (r : Option (List Token × List Lexeme)) → with_tokens [] r ≡ r
with_none None = refl
with_none (Some r) = refl

with_more : (o : Token) (os : List Token) (r : Option (List Token × List Lexeme)) → with_token o (with_tokens os r) ≡ with_tokens (o ∷ os) r
with_more o os None = refl
with_more o os (Some r) = refl

with_both : (os qs : List Token) (r : Option (List Token × List Lexeme)) → with_tokens os (with_tokens qs r) ≡ with_tokens (os ++ qs) r
with_both os qs None = refl
with_both os qs (Some r) =
    let made : List Token → Option (List Token × List Lexeme) = λ l. Some (l, r.1) in ap made (sym (append_assoc os qs r.0))

same_self : (x : Brackets) → same_brackets x x ≡ true
same_self brackets.Round = refl
same_self brackets.Square = refl
same_self brackets.Curly = refl

is_none : (a b : Option Brackets) → (is_some a || is_some b) ≡ false → (a ≡ None) × (b ≡ None)
is_none None None e = (refl, refl)
is_none None (Some b) e = cc
is_none (Some a) b e = cc

passes : (c : Terminal) (o : Token) (s : List Lexeme) (xs : List Brackets) → is_bracket c ≡ false →
    balanced xs (at c o ∷ s) ≡ with_token o (balanced xs s)
unfolding balanced
passes (k.Punct a) o s xs e = let none = is_none (opening a) (closing a) e in rw (none.0, none.1) refl
passes _ o s xs e = refl

opens_one : (a : Punct) (x : Brackets) (o : Token) (s : List Lexeme) (xs : List Brackets) → opening a ≡ Some x →
    balanced xs (at (k.Punct a) o ∷ s) ≡ with_token o (balanced (x ∷ xs) s)
unfolding balanced
opens_one a x o s xs e = rw e refl

no_opening : (b : Punct) (x : Brackets) → closing b ≡ Some x → opening b ≡ None
no_opening p.RightParen x e = refl
no_opening p.RightBracket x e = refl
no_opening p.RightBrace x e = refl
no_opening p.LeftParen x e = cc
no_opening p.LeftBracket x e = cc
no_opening p.LeftBrace x e = cc
no_opening _ x e = refl

closes_one : (b : Punct) (x : Brackets) (o : Token) (s : List Lexeme) (xs : List Brackets) → closing b ≡ Some x →
    balanced (x ∷ xs) (at (k.Punct b) o ∷ s) ≡ with_token o (balanced xs s)
unfolding balanced
closes_one b x o s xs e = rw (no_opening b x e, e, same_self x) refl

balanced_reads : {s t : List Lexeme} {os : List Token} → AreBalanced s os t → (xs : List Brackets) →
    balanced xs s ≡ with_tokens os (balanced xs t)
balanced_reads (g.balanced_end {t = t}) xs = sym (with_none (balanced xs t))
balanced_reads (g.balanced_token {c = c} {o = o} {os = os} {s = s} {t = t} e d) xs =
    passes c o s xs e ∙ ap (with_token o) (balanced_reads d xs) ∙ with_more o os (balanced xs t)
balanced_reads (g.balanced_group {a = a} {b = b} {x = x} {o = o} {q = q} {os = os} {qs = qs} {s = s} {t = t} {u = u} e f d i) xs =
    let inner : balanced (x ∷ xs) s ≡ with_tokens os (with_token q (balanced xs t)) = balanced_reads d (x ∷ xs)
    ∙ ap (with_tokens os) (closes_one b x q t xs f) in
    let last : with_token q (balanced xs t) ≡ with_tokens (q ∷ qs) (balanced xs u) = ap (with_token q) (balanced_reads i xs)
    ∙ with_more q qs (balanced xs u) in
    opens_one a x o s xs e ∙ ap (with_token o) (inner ∙ ap (with_tokens os) last ∙ with_both os (q ∷ qs) (balanced xs u))
    ∙ with_more o (os ++ q ∷ qs) (balanced xs u)

balanced_ends : {s t : List Lexeme} {os : List Token} (o : Token) → AreBalanced s os (at (k.Punct p.RightParen) o ∷ t) →
    balanced [] s ≡ Some (os, at (k.Punct p.RightParen) o ∷ t)
unfolding balanced
balanced_ends {s} {t} {os} o d =
    let made : List Token → Option (List Token × List Lexeme) = λ l. Some (l, at (k.Punct p.RightParen) o ∷ t) in
    balanced_reads d [] ∙ ap made (append-nil os)

-- ---- Attributes

abbrev begins_paren : List Lexeme → Bool
begins_paren (at (k.Punct p.LeftParen) o ∷ t) = true
begins_paren _ = false

behind_reads : (o : Token) (t : List Lexeme) → begins_paren t ≡ false →
    attribute_behind o t ≡ Some (record { name = text_of o; args = None }, t)
behind_reads o [] e = refl
behind_reads o (at (k.Punct p.LeftParen) q ∷ t) e = cc
behind_reads o _ e = refl

attribute_reads : {s t : List Lexeme} {x : Attribute} → IsAttribute s x t → begins_paren t ≡ false → attribute s ≡ Some (x, t)
unfolding attribute attribute_called
attribute_reads (g.attribute {c = c} {o = o} {t = t} e) f = rw (e, behind_reads o t f) refl
attribute_reads (g.attribute_called {r = r} e d) f = rw (e, balanced_ends r d) refl

attributes_read : (m : ℕ) {s t : List Lexeme} {xs : List Attribute} → AreAttributes s xs t → length s ≤ m → attributes m s ≡ Some (xs, t)
unfolding attributes
attributes_read zero (g.last_attribute d) low = absurd (omega (arith, alike_shorter (attribute_moves d []).1))
attributes_read zero (g.more_attributes d f) low = absurd (omega (arith, alike_shorter (attribute_moves d []).1))
attributes_read (suc m) (g.last_attribute d) low = rw (attribute_reads d refl) refl
attributes_read (suc m) (g.more_attributes d f) low =
    rw (attribute_reads d refl, attributes_read m f (omega (arith, alike_shorter (attribute_moves d []).1))) refl

within_some : {s t : List Lexeme} {x : Attribute} → IsAttribute s x t → attributes_within s ≡ attributes (length s) s
within_some (g.attribute {c = c} {o = o} {t = t} e) = go c o t e
  where
    go : (c : Terminal) (o : Token) (t : List Lexeme) → is_word c ≡ true →
        attributes_within (at c o ∷ t) ≡ attributes (length (at c o ∷ t)) (at c o ∷ t)
    go (k.Punct p.RightParen) o t e = cc
    go _ o t e = refl
within_some (g.attribute_called {c = c} {o = o} e d) = go c o _ e
  where
    go : (c : Terminal) (o : Token) (t : List Lexeme) → is_word c ≡ true →
        attributes_within (at c o ∷ t) ≡ attributes (length (at c o ∷ t)) (at c o ∷ t)
    go (k.Punct p.RightParen) o t e = cc
    go _ o t e = refl

within_reads : {s t : List Lexeme} {xs : List Attribute} → AreAttributes s xs t → attributes_within s ≡ Some (xs, t)
within_reads {s} (g.last_attribute d) = within_some d ∙ attributes_read (length s) (g.last_attribute d) (omega arith)
within_reads {s} (g.more_attributes d f) = within_some d ∙ attributes_read (length s) (g.more_attributes d f) (omega arith)

pub list_reads : {o : Token} {s t : List Lexeme} {xs : List Attribute} → IsAttributeList (at (k.Word w.Attribute) o ∷ s) xs t →
    attribute_list s ≡ Some (xs, t)
unfolding attribute_list
list_reads g.empty_attributes = refl
list_reads (g.some_attributes d) = rw (within_reads d) refl

-- ---- Stars

abbrev pub begins_pointer_word : List Lexeme → Bool
begins_pointer_word [] = false
begins_pointer_word (at c o ∷ t) = is_some (pointer_word c)

no_pointer_words : (t : List Lexeme) → begins_pointer_word t ≡ false → pointer_words t ≡ ([], t)
unfolding pointer_words
no_pointer_words [] e = refl
no_pointer_words (at c o ∷ t) e = go (pointer_word c) e
  where
    go : (x : Option PointerWord) → is_some x ≡ false → pointer_words_by (pointer_words t) (at c o ∷ t) x ≡ ([], at c o ∷ t)
    go None e = refl
    go (Some x) e = cc

pub words_read : {s t : List Lexeme} {xs : List PointerWord} → ArePointerWords s xs t → begins_pointer_word t ≡ false →
    pointer_words s ≡ (xs, t)
unfolding pointer_words
words_read (g.no_words {t = t}) e = no_pointer_words t e
words_read (g.more_words f d) e = rw (f, words_read d e) refl

pub stars_read : {o : Token} {s t : List Lexeme} {xs : List PointerWord} → AreStars s xs (at (k.Punct p.RightParen) o ∷ t) →
    stars s ≡ (xs, at (k.Punct p.RightParen) o ∷ t)
unfolding stars
stars_read g.one_star = refl
stars_read (g.more_stars d) = rw (stars_read d) refl

-- ---- Specifiers without bodies

tag_reads : (word : Keyword) (a : Aggregate) (b : Terminal) (place : Place) (q : Token) (t : List Lexeme) → aggregate_word word ≡ Some a →
    is_tag b ≡ true →
    word_spec word place (at b q ∷ t) ≡ counted (spec.Tagged a (identifier q) None place) whole_type t
tag_reads w.Struct a b place q t e f = let same : aggregate.Struct ≡ a = cc in rw (f, same) refl
tag_reads w.Union a b place q t e f = let same : aggregate.Union ≡ a = cc in rw (f, same) refl
tag_reads _ a b place q t e f = cc

basic_is : (word : Keyword) (x : BasicWord × Tally) (place : Place) (t : List Lexeme) → basic_word word ≡ Some x →
    word_spec word place t ≡ basic_spec (basic_word word) place t
basic_is w.Typedef x place t e = cc
basic_is w.Extern x place t e = cc
basic_is w.Static x place t e = cc
basic_is w.Inline x place t e = cc
basic_is w.Const x place t e = cc
basic_is w.Attribute x place t e = cc
basic_is w.Struct x place t e = cc
basic_is w.Union x place t e = cc
basic_is w.Enum x place t e = cc
basic_is _ x place t e = refl

attributes_spec : {o : Token} {s t : List Lexeme} {xs : List Attribute} → IsAttributeList (at (k.Word w.Attribute) o ∷ s) xs t →
    attribute_spec o.place s ≡ counted (spec.Attributes xs o.place) nothing t
unfolding attribute_spec
attributes_spec d = rw (list_reads d) refl

-- what is read of a specifier
abbrev pub one_of : Spec → Tally → ℕ → List Lexeme → Option (Read Counted)
one_of x a h t = Some (found (record { spec = x; tally = a }) h t)

abbrev pub some_of : List Spec → Tally → ℕ → List Lexeme → Option (Read Specs)
some_of xs a h t = Some (found (record { specs = xs; tally = a }) h t)

pub plain_reads : {c : Context} {a : Tally} {h : ℕ} {s t : List Lexeme} {x : Spec} → IsSpec c s x a h t → has_bodies c ≡ false →
    plain_spec s ≡ one_of x a h t
plain_reads g.spec_typedef e = refl
plain_reads g.spec_extern e = refl
plain_reads g.spec_static e = refl
plain_reads g.spec_inline e = refl
plain_reads g.spec_const e = refl
plain_reads (g.spec_attributes {xs = xs} d) e = listed d
  where
    listed : {s t : List Lexeme} {xs : List Attribute} → IsAttributeList s xs t →
        plain_spec s ≡ one_of (spec.Attributes xs (place_of s)) nothing 1 t
    listed (g.empty_attributes {o = o}) = attributes_spec {o = o} g.empty_attributes
    listed (g.some_attributes {o = o} d) = attributes_spec {o = o} (g.some_attributes d)
plain_reads (g.spec_basic {word = word} {x = x} {a = a} {o = o} {t = t} f) e = basic_is word (x, a) o.place t f ∙ rw f refl
plain_reads g.spec_type e = refl
plain_reads (g.spec_tag {word = word} {a = a} {b = b} {o = o} {q = q} {t = t} f tag) e = tag_reads word a b o.place q t f tag
plain_reads (g.spec_body f i tag j) e = cc
plain_reads (g.spec_untagged f i j) e = cc
plain_reads (g.spec_enum_tag tag) e = rw tag refl
plain_reads (g.spec_enum_body f tag j) e = cc
plain_reads (g.spec_enum_untagged f j) e = cc

-- ---- What specifiers begin with

basic_begins : (word : Keyword) (x : BasicWord × Tally) → basic_word word ≡ Some x → is_spec_word word ≡ true
basic_begins w.Void x e = refl
basic_begins w.Char x e = refl
basic_begins w.Short x e = refl
basic_begins w.Int x e = refl
basic_begins w.Long x e = refl
basic_begins w.Signed x e = refl
basic_begins w.Unsigned x e = refl
basic_begins _ x e = cc

aggregate_begins : (word : Keyword) (a : Aggregate) → aggregate_word word ≡ Some a → is_spec_word word ≡ true
aggregate_begins w.Struct a e = refl
aggregate_begins w.Union a e = refl
aggregate_begins _ a e = cc

pub spec_begins : {c : Context} {a : Tally} {h : ℕ} {s t : List Lexeme} {x : Spec} → IsSpec c s x a h t → begins_spec s ≡ true
spec_begins g.spec_typedef = refl
spec_begins g.spec_extern = refl
spec_begins g.spec_static = refl
spec_begins g.spec_inline = refl
spec_begins g.spec_const = refl
spec_begins (g.spec_attributes g.empty_attributes) = refl
spec_begins (g.spec_attributes (g.some_attributes d)) = refl
spec_begins (g.spec_basic {word = word} f) = basic_begins word _ f
spec_begins g.spec_type = refl
spec_begins (g.spec_tag {word = word} f tag) = aggregate_begins word _ f
spec_begins (g.spec_body {word = word} f i tag j) = aggregate_begins word _ i
spec_begins (g.spec_untagged {word = word} f i j) = aggregate_begins word _ i
spec_begins (g.spec_enum_tag tag) = refl
spec_begins (g.spec_enum_body f tag j) = refl
spec_begins (g.spec_enum_untagged f j) = refl

pub specs_any_begin : {c : Context} {a : Tally} {h : ℕ} {s t : List Lexeme} {xs : List Spec} → AreSpecsAny c s xs a h t →
    begins_spec s ≡ true
specs_any_begin (g.one_spec d) = spec_begins d
specs_any_begin (g.more_specs d f) = spec_begins d

pub specs_begin : {c : Context} {a : Tally} {h : ℕ} {s t : List Lexeme} {xs : List Spec} → AreSpecs c s xs a h t → begins_spec s ≡ true
specs_begin (g.specs d e) = specs_any_begin d

-- ---- Lists of specifiers

abbrev pub begins_brace : List Lexeme → Bool
begins_brace (at (k.Punct p.LeftBrace) o ∷ t) = true
begins_brace _ = false

pub no_brace : (s : List Lexeme) → begins_spec s ≡ true → begins_brace s ≡ false
no_brace [] e = refl
no_brace (at (k.Punct p.LeftBrace) o ∷ t) e = cc
no_brace _ e = refl

-- specifiers end before these tokens
pub record EndsSpecs (t : List Lexeme) : Type 0 where
  pub no_spec : begins_spec t ≡ false
  pub no_body : begins_brace t ≡ false

-- a reader of specifiers finds those up to a height
abbrev pub ReadsSpecs : Context → ℕ → (List Lexeme → Option (Read Counted)) → Type 0
ReadsSpecs c n one =
    (a : Tally) (h : ℕ) (s t : List Lexeme) (x : Spec) → IsSpec c s x a h t → h ≤ n → begins_brace t ≡ false → one s ≡ one_of x a h t

module _ (c : Context) (n : ℕ) (one : List Lexeme → Option (Read Counted)) (full : ReadsSpecs c n one) where
  specs_any_read : (m : ℕ) {a : Tally} {h : ℕ} {s t : List Lexeme} {xs : List Spec} → AreSpecsAny c s xs a h t → h ≤ n → length s ≤ m →
      EndsSpecs t → specs_any one m s ≡ some_of xs a h t
  unfolding specs_any
  specs_any_read zero (g.one_spec d) low room ends = absurd (omega (arith, alike_shorter (spec_moves d []).1))
  specs_any_read zero (g.more_specs d f) low room ends = absurd (omega (arith, alike_shorter (spec_moves d []).1))
  specs_any_read (suc m) (g.one_spec d) low room ends = rw (full _ _ _ _ _ d low ends.no_body, ends.no_spec) refl
  specs_any_read (suc m) (g.more_specs {t = t} d f) low room ends =
      let more : begins_spec t ≡ true = specs_any_begin f in
      rw (
        full _ _ _ _ _ d (omega arith) (no_brace t more),
        more,
        specs_any_read m f (omega arith) (omega (arith, alike_shorter (spec_moves d []).1)) ends,
      ) refl

  pub specs_read : {a : Tally} {h : ℕ} {s t : List Lexeme} {xs : List Spec} → AreSpecs c s xs a h t → h ≤ n → EndsSpecs t →
      specs_in one c s ≡ some_of xs a h t
  unfolding specs_in
  specs_read {s = s} (g.specs d e) low ends = rw (specs_any_read (length s) d low (omega arith) ends, e) refl

pub plain_read : (c : Context) (n : ℕ) → has_bodies c ≡ false → ReadsSpecs c n plain_spec
plain_read c n e a h s t x d low ends = plain_reads d e
