-- What is read is in the grammar: attributes, specifiers without bodies, stars and string literals.
use Rattle.std.proofs.Common.{◌≡◌, ℕ, zero, suc, List, [], ◌∷◌, ◌++◌, length, Option, Some, None, Bool, true, false, refl, sym, ap, subst, ◌∙◌, append_assoc}
use Rattle.std.specs.Prelude.{IfSome}
use Rattle.c_tokens.specs.declared.puncts.Punct.{Punct}
use Rattle.c_tokens.specs.declared.puncts.Punct.TheVariants as p
use Rattle.c_tokens.specs.declared.tokens.Token.{Token}
use Rattle.c_tree.specs.declared.nodes.Attribute.{Attribute}
use Rattle.c_tree.specs.declared.nodes.Spec.TheVariants as spec
use Rattle.c_tree.specs.declared.nodes.PointerWord.{PointerWord}
use Rattle.c_tree.specs.declared.nodes.PointerWord.TheVariants as pointer
use Rattle.c_tree.specs.declared.nodes.Aggregate.{Aggregate}
use Rattle.c_tree.specs.declared.nodes.BasicWord.{BasicWord}
use Rattle.parse_meaning.specs.declared.terminals.Brackets.{Brackets}
use Rattle.parse_meaning.specs.declared.terminals.Brackets.TheVariants as brackets
use Rattle.parse_meaning.specs.declared.terminals.Keyword.{Keyword}
use Rattle.parse_meaning.specs.declared.terminals.Keyword.TheVariants as w
use Rattle.parse_meaning.specs.declared.terminals.Terminal.{Terminal}
use Rattle.parse_meaning.specs.declared.terminals.Terminal.TheVariants as k
use Rattle.parse_meaning.specs.Terminals.{Lexeme, at, is_word, is_tag}
use Rattle.parse_meaning.specs.Specifiers.{Context, Tally, may_stand}
use Rattle.parse_meaning.specs.Expressions as g
use Rattle.parse_meaning.specs.Expressions.{opening, closing, is_bracket, AreBalanced, IsAttribute, AreAttributes, IsAttributeList, AreStrings, ArePointerWords, AreStars, pointer_word, IsSpec, AreSpecsAny, AreSpecs, aggregate_word, basic_word, identifier}
use Rattle.parse_reading.specs.Reading.{same_brackets, with_token, balanced_by, balanced_as, balanced, attribute_called, attribute_behind, attribute, attributes_behind, attributes, attributes_within, attribute_list, pointer_words_by, pointer_words, stars, strings, after_right_paren, after_left_paren, Read, Counted, Specs, begins_spec, tag, attribute_spec, basic_spec, word_spec, plain_spec, specs_behind, specs_any, specs_in}
use Rattle.parse_reading.proofs.Basics.{bind_all, if_all, weaken, after_right_paren_sound, after_left_paren_sound}

-- ---- Balanced tokens

-- tokens in which these brackets are closed, the inmost first, and the others have their partners
pub data AreOpen : List Brackets → List Lexeme → List Token → List Lexeme → Type 0 where
  closed : {os : List Token} {s t : List Lexeme} → AreBalanced s os t → AreOpen [] s os t
  waits : {b : Punct} {x : Brackets} {xs : List Brackets} {q : Token} {os qs : List Token} {s t u : List Lexeme} → closing b ≡ Some x →
      AreBalanced s os (at (k.Punct b) q ∷ t) → AreOpen xs t qs u → AreOpen (x ∷ xs) s (os ++ q ∷ qs) u

open_token : {xs : List Brackets} {c : Terminal} {o : Token} {os : List Token} {s t : List Lexeme} → is_bracket c ≡ false →
    AreOpen xs s os t → AreOpen xs (at c o ∷ s) (o ∷ os) t
open_token e (closed d) = closed (g.balanced_token e d)
open_token e (waits c d f) = waits c (g.balanced_token e d) f

open_group : {xs : List Brackets} {x : Brackets} {a b : Punct} {o q : Token} {os qs : List Token} {s t u : List Lexeme} →
    opening a ≡ Some x → closing b ≡ Some x →
    AreBalanced s os (at (k.Punct b) q ∷ t) → AreOpen xs t qs u → AreOpen xs (at (k.Punct a) o ∷ s) (o ∷ os ++ q ∷ qs) u
open_group e c d (closed f) = closed (g.balanced_group e c d f)
open_group {xs} {x} {a} {b} {o} {q} {os} {qs} {s} {t} {u} e c d (waits {b = b'} {xs = ys} {q = r} {os = os'} {qs = qs'} c' f h) =
    subst (λ l. AreOpen xs (at (k.Punct a) o ∷ s) (o ∷ l) u) (append_assoc os (q ∷ os') (r ∷ qs'))
    (waits c' (g.balanced_group {o = o} e c d f) h)

open_bracket : {xs : List Brackets} {x : Brackets} {a : Punct} {o : Token} {os : List Token} {s t : List Lexeme} → opening a ≡ Some x →
    AreOpen (x ∷ xs) s os t →
    AreOpen xs (at (k.Punct a) o ∷ s) (o ∷ os) t
open_bracket e (waits c d f) = open_group e c d f

same_is : (a b : Brackets) → same_brackets a b ≡ true → a ≡ b
same_is brackets.Round brackets.Round e = refl
same_is brackets.Square brackets.Square e = refl
same_is brackets.Curly brackets.Curly e = refl
same_is brackets.Round brackets.Square e = cc
same_is brackets.Round brackets.Curly e = cc
same_is brackets.Square brackets.Round e = cc
same_is brackets.Square brackets.Curly e = cc
same_is brackets.Curly brackets.Round e = cc
same_is brackets.Curly brackets.Square e = cc

abbrev Opens : List Brackets → List Lexeme → List Token × List Lexeme → Type 0
Opens xs s r = AreOpen xs s r.0 r.1

no_bracket : (a : Punct) → opening a ≡ None → closing a ≡ None → is_bracket (k.Punct a) ≡ false
no_bracket a e f = rw (e, f) refl

module _ (o : Token) (s : List Lexeme) (later : (xs : List Brackets) → IfSome (balanced xs s) (Opens xs s)) where
  taken : (xs ys : List Brackets) (c : Terminal) →
      ((os : List Token) (t : List Lexeme) → AreOpen ys s os t → AreOpen xs (at c o ∷ s) (o ∷ os) t) →
      IfSome (with_token o (balanced ys s)) (Opens xs (at c o ∷ s))
  taken xs ys c h = bind_all _ _ (balanced ys s) _ (later ys) (λ r d. h r.0 r.1 d)

  by_sound : (xs : List Brackets) (a : Punct) (x y : Option Brackets) → opening a ≡ x → closing a ≡ y →
      IfSome (balanced_by (λ ys. balanced ys s) xs o (at (k.Punct a) o ∷ s) x y) (Opens xs (at (k.Punct a) o ∷ s))
  by_sound xs a (Some b) y e f = taken xs (b ∷ xs) (k.Punct a) (λ os t d. open_bracket e d)
  by_sound xs a None None e f = taken xs xs (k.Punct a) (λ os t d. open_token (no_bracket a e f) d)
  by_sound [] a None (Some b) e f = closed g.balanced_end
  by_sound (x ∷ xs) a None (Some b) e f =
      if_all _ (same_brackets x b) _ _ (λ same. let here : closing a ≡ Some x = f ∙ ap (λ b. Some b) (sym (same_is x b same)) in
      taken (x ∷ xs) xs (k.Punct a) (λ os t d. waits {os = []} here g.balanced_end d)) (λ _. tt)

  as_sound : (xs : List Brackets) (c : Terminal) → IfSome (balanced_as (λ ys. balanced ys s) xs c o (at c o ∷ s)) (Opens xs (at c o ∷ s))
  as_sound xs (k.Punct a) = by_sound xs a (opening a) (closing a) refl refl
  as_sound xs k.Name = taken xs xs k.Name (λ os t d. open_token refl d)
  as_sound xs k.Type = taken xs xs k.Type (λ os t d. open_token refl d)
  as_sound xs k.Constant = taken xs xs k.Constant (λ os t d. open_token refl d)
  as_sound xs k.Str = taken xs xs k.Str (λ os t d. open_token refl d)
  as_sound xs (k.Word word) = taken xs xs (k.Word word) (λ os t d. open_token refl d)
  as_sound xs k.Header = taken xs xs k.Header (λ os t d. open_token refl d)
  as_sound xs k.Other = taken xs xs k.Other (λ os t d. open_token refl d)

balanced_sound : (s : List Lexeme) (xs : List Brackets) → IfSome (balanced xs s) (Opens xs s)
unfolding balanced
balanced_sound [] xs = tt
balanced_sound (at c o ∷ s) xs = as_sound o s (λ ys. balanced_sound s ys) xs c

none_open : {os : List Token} {s t : List Lexeme} → AreOpen [] s os t → AreBalanced s os t
none_open (closed d) = d

-- ---- Attributes

abbrev Attributed : List Lexeme → Attribute × List Lexeme → Type 0
Attributed s r = IsAttribute s r.0 r.1

behind_sound : (c : Terminal) (o : Token) (t : List Lexeme) → is_word c ≡ true → IfSome (attribute_behind o t) (Attributed (at c o ∷ t))
unfolding attribute_called
behind_sound c o [] e = g.attribute e
behind_sound c o (at (k.Punct p.LeftParen) q ∷ t) e =
    bind_all _ _ (balanced [] t) _ (balanced_sound t []) (λ r d.
    bind_all _ _ (after_right_paren r.1) _ (after_right_paren_sound r.1) (λ u close.
    g.attribute_called e (subst (AreBalanced t r.0) close.1 (none_open d))))
behind_sound c o _ e = g.attribute e

attribute_sound : (s : List Lexeme) → IfSome (attribute s) (Attributed s)
unfolding attribute
attribute_sound [] = tt
attribute_sound (at c o ∷ t) = if_all _ (is_word c) _ _ (λ e. behind_sound c o t e) (λ _. tt)

abbrev AttributesIn : List Lexeme → List Attribute × List Lexeme → Type 0
AttributesIn s r = AreAttributes s r.0 r.1

attributes_behind_sound : (later : List Lexeme → Option (List Attribute × List Lexeme)) →
    ((t : List Lexeme) → IfSome (later t) (AttributesIn t)) →
    (s : List Lexeme) (x : Attribute) (t : List Lexeme) → IsAttribute s x t → IfSome (attributes_behind later x t) (AttributesIn s)
attributes_behind_sound later sound s x [] d = tt
attributes_behind_sound later sound s x (at (k.Punct p.Comma) o ∷ t) d = bind_all _ _ (later t) _ (sound t) (λ r f. g.more_attributes d f)
attributes_behind_sound later sound s x (at (k.Punct p.RightParen) o ∷ t) d =
    bind_all _ _ (after_right_paren t) _ (after_right_paren_sound t) (λ u close.
    g.last_attribute (subst (λ l. IsAttribute s x (at (k.Punct p.RightParen) o ∷ l)) close.1 d))
attributes_behind_sound later sound s x _ d = tt

attributes_sound : (m : ℕ) (s : List Lexeme) → IfSome (attributes m s) (AttributesIn s)
unfolding attributes
attributes_sound zero s = tt
attributes_sound (suc m) s =
    bind_all _ _ (attribute s) _ (attribute_sound s) (λ x d. attributes_behind_sound (attributes m) (attributes_sound m) s x.0 x.1 d)

-- behind the word and two brackets
abbrev Within : List Lexeme → List Attribute × List Lexeme → Type 0
Within s r =
    (o q b : Token) → IsAttributeList (at (k.Word w.Attribute) o ∷ at (k.Punct p.LeftParen) q ∷ at (k.Punct p.LeftParen) b ∷ s) r.0 r.1

some_within : (s : List Lexeme) → IfSome (attributes (length s) s) (Within s)
some_within s = weaken _ _ (attributes (length s) s) (attributes_sound (length s) s) (λ r d o q b. g.some_attributes d)

within_sound : (s : List Lexeme) → IfSome (attributes_within s) (Within s)
within_sound [] = some_within []
within_sound (at (k.Punct p.RightParen) o ∷ t) =
    bind_all _ _ (after_right_paren t) _ (after_right_paren_sound t) (λ u close a q b.
    subst
    (λ l. IsAttributeList (at (k.Word w.Attribute) a ∷ at (k.Punct p.LeftParen) q ∷ at (k.Punct p.LeftParen) b
    ∷ at (k.Punct p.RightParen) o ∷ l) [] u)
    (sym close.1) g.empty_attributes)
within_sound (o ∷ t) = some_within (o ∷ t)

pub attribute_list_sound : (o : Token) (s : List Lexeme) →
    IfSome (attribute_list s) (λ r. IsAttributeList (at (k.Word w.Attribute) o ∷ s) r.0 r.1)
unfolding attribute_list
attribute_list_sound o s =
    bind_all _ _ (after_left_paren s) _ (after_left_paren_sound s) (λ t first.
    bind_all _ _ (after_left_paren t) _ (after_left_paren_sound t) (λ u second.
    weaken _ _ (attributes_within u) (within_sound u) (λ r d.
    subst (λ l. IsAttributeList (at (k.Word w.Attribute) o ∷ l) r.0 r.1) (sym first.1)
    (subst (λ l. IsAttributeList (at (k.Word w.Attribute) o ∷ at (k.Punct p.LeftParen) first.0 ∷ l) r.0 r.1) (sym second.1)
    (d o first.0 second.0)))))

-- ---- Stars and string literals

pub pointer_words_sound : (s : List Lexeme) → ArePointerWords s (pointer_words s).0 (pointer_words s).1
unfolding pointer_words
pointer_words_sound [] = g.no_words
pointer_words_sound (at c o ∷ s) = go s c o (pointer_word c) refl (pointer_words_sound s)
  where
    go : (s : List Lexeme) (c : Terminal) (o : Token) (x : Option PointerWord) → pointer_word c ≡ x →
        ArePointerWords s (pointer_words s).0 (pointer_words s).1 →
        ArePointerWords (at c o ∷ s) (pointer_words_by (pointer_words s) (at c o ∷ s) x).0
        (pointer_words_by (pointer_words s) (at c o ∷ s) x).1
    go s c o None e d = g.no_words
    go s c o (Some x) e d = g.more_words e d

-- stars, if there are any
pub data MaybeStars : List Lexeme → List PointerWord → List Lexeme → Type 0 where
  no_stars : {t : List Lexeme} → MaybeStars t [] t
  some_stars : {s t : List Lexeme} {x : PointerWord} {xs : List PointerWord} → AreStars s (x ∷ xs) t → MaybeStars s (x ∷ xs) t

star_more : {o : Token} {s t : List Lexeme} {xs : List PointerWord} → MaybeStars s xs t →
    AreStars (at (k.Punct p.Star) o ∷ s) (pointer.Star ∷ xs) t
star_more no_stars = g.one_star
star_more (some_stars d) = g.more_stars d

pub stars_sound : (s : List Lexeme) → MaybeStars s (stars s).0 (stars s).1
unfolding stars
stars_sound [] = no_stars
stars_sound (at (k.Punct p.Star) o ∷ s) = some_stars (star_more (stars_sound s))
stars_sound _ = no_stars

pub strings_sound : (o : Token) (s : List Lexeme) → AreStrings (at k.Str o ∷ s) (strings o s).0 (strings o s).1
unfolding strings
strings_sound o [] = g.one_string
strings_sound o (at k.Str q ∷ s) = g.more_strings (strings_sound q s)
strings_sound o _ = g.one_string

-- ---- Specifiers without bodies

-- a specifier that stands in any list
pub record IsCounted (s : List Lexeme) (r : Read Counted) : Type 0 where
  pub derives : (c : Context) → IsSpec c s r.tree.spec r.tree.tally r.height r.rest

tag_sound : (word : Keyword) (a : Aggregate) (o : Token) (t : List Lexeme) → aggregate_word word ≡ Some a →
    IfSome (tag (λ q. spec.Tagged a (identifier q) None o.place) t) (IsCounted (at (k.Word word) o ∷ t))
tag_sound word a o [] e = tt
tag_sound word a o (at c q ∷ t) e = if_all _ (is_tag c) _ _ (λ name. record { derives = λ b. g.spec_tag e name }) (λ _. tt)

enum_sound : (o : Token) (t : List Lexeme) → IfSome (tag (λ q. spec.EnumTag (identifier q) o.place) t)
    (IsCounted (at (k.Word w.Enum) o ∷ t))
enum_sound o [] = tt
enum_sound o (at c q ∷ t) = if_all _ (is_tag c) _ _ (λ name. record { derives = λ b. g.spec_enum_tag name }) (λ _. tt)

basic_sound : (word : Keyword) (o : Token) (t : List Lexeme) (x : Option (BasicWord × Tally)) → basic_word word ≡ x →
    IfSome (basic_spec x o.place t) (IsCounted (at (k.Word word) o ∷ t))
basic_sound word o t None e = tt
basic_sound word o t (Some x) e = record { derives = λ b. g.spec_basic e }

attribute_spec_sound : (o : Token) (t : List Lexeme) → IfSome (attribute_spec o.place t) (IsCounted (at (k.Word w.Attribute) o ∷ t))
unfolding attribute_spec
attribute_spec_sound o t =
    bind_all _ _ (attribute_list t) _ (attribute_list_sound o t) (λ r d. record { derives = λ b. g.spec_attributes d })

word_sound : (word : Keyword) (o : Token) (t : List Lexeme) → IfSome (word_spec word o.place t) (IsCounted (at (k.Word word) o ∷ t))
word_sound w.Typedef o t = record { derives = λ b. g.spec_typedef }
word_sound w.Extern o t = record { derives = λ b. g.spec_extern }
word_sound w.Static o t = record { derives = λ b. g.spec_static }
word_sound w.Inline o t = record { derives = λ b. g.spec_inline }
word_sound w.Const o t = record { derives = λ b. g.spec_const }
word_sound w.Attribute o t = attribute_spec_sound o t
word_sound w.Struct o t = tag_sound w.Struct _ o t refl
word_sound w.Union o t = tag_sound w.Union _ o t refl
word_sound w.Enum o t = enum_sound o t
word_sound word o t = basic_sound word o t (basic_word word) refl

pub plain_spec_sound : (s : List Lexeme) → IfSome (plain_spec s) (IsCounted s)
plain_spec_sound [] = tt
plain_spec_sound (at k.Type o ∷ t) = record { derives = λ b. g.spec_type }
plain_spec_sound (at (k.Word word) o ∷ t) = word_sound word o t
plain_spec_sound _ = tt

pub record AreCountedAny (c : Context) (s : List Lexeme) (r : Read Specs) : Type 0 where
  pub derives : AreSpecsAny c s r.tree.specs r.tree.tally r.height r.rest

pub record AreCounted (c : Context) (s : List Lexeme) (r : Read Specs) : Type 0 where
  pub derives : AreSpecs c s r.tree.specs r.tree.tally r.height r.rest

pub record IsCountedIn (c : Context) (s : List Lexeme) (r : Read Counted) : Type 0 where
  pub derives : IsSpec c s r.tree.spec r.tree.tally r.height r.rest

module _ (c : Context) (one : List Lexeme → Option (Read Counted)) (sound : (s : List Lexeme) → IfSome (one s) (IsCountedIn c s)) where
  behind_spec : (later : List Lexeme → Option (Read Specs)) → ((s : List Lexeme) → IfSome (later s) (AreCountedAny c s)) →
      (s : List Lexeme) (x : Read Counted) → IsCountedIn c s x →
      (more : Bool) → IfSome (specs_behind one later x more) (AreCountedAny c s)
  behind_spec later h s x d false = record { derives = g.one_spec d.derives }
  behind_spec later h s x d true = bind_all _ _ (later x.rest) _ (h x.rest) (λ xs f. record { derives = g.more_specs d.derives f.derives })

  specs_any_sound : (m : ℕ) (s : List Lexeme) → IfSome (specs_any one m s) (AreCountedAny c s)
  unfolding specs_any
  specs_any_sound zero s = tt
  specs_any_sound (suc m) s =
      bind_all _ _ (one s) _ (sound s) (λ x d. behind_spec (specs_any one m) (specs_any_sound m) s x d (begins_spec x.rest))

  pub specs_in_sound : (s : List Lexeme) → IfSome (specs_in one c s) (AreCounted c s)
  unfolding specs_in
  specs_in_sound s =
      bind_all _ _ (specs_any one (length s) s) _ (specs_any_sound (length s) s) (λ xs d.
      if_all _ (may_stand c xs.tree.tally) _ _ (λ e. record { derives = g.specs d.derives e }) (λ _. tt))

pub plain_sound_in : (c : Context) (s : List Lexeme) → IfSome (plain_spec s) (IsCountedIn c s)
plain_sound_in c s = weaken _ _ (plain_spec s) (plain_spec_sound s) (λ r d. record { derives = d.derives c })
