-- The steps of the loops over attributes and over the tokens between their brackets.
use Rattle.std.proofs.Common.{◌≡◌, ℕ, suc, List, [], ◌∷◌, ◌++◌, length, reverse, arith, Option, Some, None, true, false, refl, sym, ap, ◌∙◌, append_assoc, append-nil}
use Rattle.std.specs.Prelude.{if◌then◌else◌}
use Rattle.std.proofs.lemmas.List.{reverse-append}
use Rattle.c_tokens.specs.declared.puncts.Punct.TheVariants as p
use Rattle.c_tokens.specs.declared.tokens.Token.{Token}
use Rattle.c_tree.specs.declared.nodes.Attribute.{Attribute}
use Rattle.parse_meaning.specs.declared.terminals.Brackets.{Brackets}
use Rattle.parse_meaning.specs.declared.terminals.Terminal.{Terminal}
use Rattle.parse_meaning.specs.declared.terminals.Terminal.TheVariants as k
use Rattle.parse_meaning.specs.Terminals.{Lexeme, at}
use Rattle.parse_meaning.specs.Expressions.{opening, closing}
use Rattle.parse_reading.specs.Reading.{◌>>=◌, same_brackets, with_token, balanced_by, balanced_as, balanced, attribute, attributes_behind, attributes, after_comma, after_right_paren}
use Rattle.parse_leaves.specs.declared.attributes.Side.{Side}
use Rattle.parse_leaves.specs.declared.attributes.Side.TheVariants.{Opens, Closes, Neither}
use Rattle.parse_leaves.specs.Sides.{side_by, side_of}
use Rattle.parse_leaves.proofs.Misses.{nothing_found, found_nothing, some_same}

-- behind parts that were read before
abbrev pub before : {A : Type 0} → List A → Option (List A × List Lexeme) → Option (List A × List Lexeme)
before xs r = r >>= λ r. Some (xs ++ r.0, r.1)

pub before_before : {A : Type 0} (xs ys : List A) (r : Option (List A × List Lexeme)) → before xs (before ys r) ≡ before (xs ++ ys) r
before_before xs ys None = refl
before_before xs ys (Some r) = ap (λ zs. Some (zs, r.1)) (sym (append_assoc xs ys r.0))

pub before_nothing : {A : Type 0} (r : Option (List A × List Lexeme)) → r ≡ before [] r
before_nothing None = refl
before_nothing (Some r) = refl

pub before_end : {A : Type 0} (xs : List A) (t : List Lexeme) → before xs (Some ([], t)) ≡ Some (xs, t)
before_end xs t = ap (λ zs. Some (zs, t)) (append-nil xs)

-- ---- Balanced tokens

-- a step, by what the token is among brackets
abbrev stepped : (List Brackets → Option (List Token × List Lexeme)) → List Brackets → Token → List Lexeme → Side →
    Option (List Token × List Lexeme)
stepped later waiting o s (Opens b) = with_token o (later (b ∷ waiting))
stepped later waiting o s Neither = with_token o (later waiting)
stepped later [] o s (Closes b) = Some ([], s)
stepped later (a ∷ waiting) o s (Closes b) = if same_brackets a b then with_token o (later waiting) else None

by_side : (later : List Brackets → Option (List Token × List Lexeme)) (waiting : List Brackets) (o : Token) (s : List Lexeme)
    (begins ends : Option Brackets) →
    balanced_by later waiting o s begins ends ≡ stepped later waiting o s (side_by begins ends)
by_side later waiting o s (Some b) close = refl
by_side later waiting o s None None = refl
by_side later [] o s None (Some b) = refl
by_side later (a ∷ waiting) o s None (Some b) = refl

as_side : (later : List Brackets → Option (List Token × List Lexeme)) (waiting : List Brackets) (c : Terminal) (o : Token)
    (s : List Lexeme) →
    balanced_as later waiting c o s ≡ stepped later waiting o s (side_of c)
as_side later waiting (k.Punct a) o s = by_side later waiting o s (opening a) (closing a)
as_side later waiting _ o s = refl

module _ (all : List Token) (waiting : List Brackets) (c : Terminal) (o : Token) (s t : List Lexeme) (is : s ≡ at c o ∷ t) where
  step : (side : Side) → side_of c ≡ side → balanced waiting s ≡ stepped (λ w. balanced w t) waiting o (at c o ∷ t) side
  unfolding balanced
  step side e = rw (is, ← e) (as_side (λ w. balanced w t) waiting c o (at c o ∷ t))

  pub balanced_opens : (b : Brackets) → side_of c ≡ Opens b →
      before all (balanced waiting s) ≡ before (all ++ o ∷ []) (balanced (b ∷ waiting) t)
  balanced_opens b e = ap (before all) (step (Opens b) e) ∙ before_before all (o ∷ []) (balanced (b ∷ waiting) t)

  pub balanced_goes : side_of c ≡ Neither → before all (balanced waiting s) ≡ before (all ++ o ∷ []) (balanced waiting t)
  balanced_goes e = ap (before all) (step Neither e) ∙ before_before all (o ∷ []) (balanced waiting t)

  pub balanced_ends : (b : Brackets) → waiting ≡ [] → side_of c ≡ Closes b → before all (balanced waiting s) ≡ Some (all, s)
  balanced_ends b none e = ap (before all) (step (Closes b) e) ∙ rw (none, is) (before_end all (at c o ∷ t))

  pub balanced_closes : (a b : Brackets) (others : List Brackets) → waiting ≡ a ∷ others → side_of c ≡ Closes b → same_brackets a b ≡ true →
      before all (balanced waiting s) ≡ before (all ++ o ∷ []) (balanced others t)
  balanced_closes a b others top e same =
      ap (before all) (step (Closes b) e) ∙ rw (top, same) (before_before all (o ∷ []) (balanced others t))

  pub balanced_fails : (a b : Brackets) (others : List Brackets) → waiting ≡ a ∷ others → side_of c ≡ Closes b → same_brackets a b ≡ false →
      before all (balanced waiting s) ≡ None
  balanced_fails a b others top e other = ap (before all) (step (Closes b) e) ∙ rw (top, other) refl

pub balanced_over : (all : List Token) (waiting : List Brackets) (s : List Lexeme) → s ≡ [] → before all (balanced waiting s) ≡ None
unfolding balanced
balanced_over all waiting s e = rw e refl

-- ---- Attributes

behind_goes : (later : List Lexeme → Option (List Attribute × List Lexeme)) (x : Attribute) (t u : List Lexeme) → after_comma t ≡ Some u →
    attributes_behind later x t ≡ before (x ∷ []) (later u)
behind_goes later x [] u e = absurd (nothing_found e)
behind_goes later x (at (k.Punct p.Comma) o ∷ t) u e = ap (λ r. before (x ∷ []) (later r)) (some_same e)
behind_goes later x _ u e = absurd (nothing_found e)

-- the bracket that closes the list, and the one behind it
abbrev closed : Attribute → List Lexeme → Option (List Attribute × List Lexeme)
closed x t = after_right_paren t >>= λ u. after_right_paren u >>= λ v. Some (x ∷ [], v)

behind_ends : (later : List Lexeme → Option (List Attribute × List Lexeme)) (x : Attribute) (t : List Lexeme) → after_comma t ≡ None →
    attributes_behind later x t ≡ closed x t
behind_ends later x [] e = refl
behind_ends later x (at (k.Punct p.Comma) o ∷ t) e = absurd (found_nothing e)
behind_ends later x (at (k.Punct p.RightParen) o ∷ t) e = refl
behind_ends later x _ e = refl

module _ (xs : List Attribute) (m : ℕ) (s : List Lexeme) where
  pub attributes_fail : attribute s ≡ None → before xs (attributes (suc m) s) ≡ None
  unfolding attributes
  attributes_fail e = rw e refl

  pub attributes_go : (x : Attribute) (t u : List Lexeme) → attribute s ≡ Some (x, t) → after_comma t ≡ Some u →
      before xs (attributes (suc m) s) ≡ before (xs ++ x ∷ []) (attributes m u)
  unfolding attributes
  attributes_go x t u e c = rw (e, behind_goes (attributes m) x t u c) (before_before xs (x ∷ []) (attributes m u))

  module _ (x : Attribute) (t : List Lexeme) (e : attribute s ≡ Some (x, t)) (c : after_comma t ≡ None) where
    pub attributes_open : after_right_paren t ≡ None → before xs (attributes (suc m) s) ≡ None
    unfolding attributes
    attributes_open f = rw (e, behind_ends (attributes m) x t c, f) refl

    pub attributes_half : (u : List Lexeme) → after_right_paren t ≡ Some u → after_right_paren u ≡ None →
        before xs (attributes (suc m) s) ≡ None
    unfolding attributes
    attributes_half u f g = rw (e, behind_ends (attributes m) x t c, f, g) refl

    pub attributes_end : (u v : List Lexeme) → after_right_paren t ≡ Some u → after_right_paren u ≡ Some v →
        before xs (attributes (suc m) s) ≡ Some (xs ++ x ∷ [], v)
    unfolding attributes
    attributes_end u v f g = rw (e, behind_ends (attributes m) x t c, f, g) refl

pub attributes_over : (xs : List Attribute) (s : List Lexeme) → before xs (attributes 0 s) ≡ None
unfolding attributes
attributes_over xs s = refl

-- ---- The stack of open brackets, whose top is its end

pub top_of : (s t : List Brackets) (b : Brackets) → s ≡ t ++ b ∷ [] → reverse s ≡ b ∷ reverse t
top_of s t b e = ap reverse e ∙ reverse-append t (b ∷ [])

pub none_of : (s : List Brackets) → length s ≡ 0 → reverse s ≡ []
none_of [] e = refl
none_of (b ∷ s) e = absurd (omega arith)

same_terminal : {c d : Terminal} {o q : Token} {t u : List Lexeme} → ◌≡◌ {A = List Lexeme} (at c o ∷ t) (at d q ∷ u) → c ≡ d
same_terminal e = cc

-- the loop goes on behind a token that was looked at and then taken
module _ (all grown : List Token) (stack later : List Brackets) (c d : Terminal) (o q copy : Token) (s t u : List Lexeme)
    (seen : s ≡ at c o ∷ t) (taken : s ≡ at d q ∷ u)
    (copied : copy ≡ q) (pushed : grown ≡ all ++ copy ∷ []) where
  side : (x : Side) → side_of c ≡ x → side_of d ≡ x
  side x e = ap side_of (same_terminal (sym taken ∙ seen)) ∙ e

  grows : (r : Option (List Token × List Lexeme)) → before (all ++ q ∷ []) r ≡ before grown r
  grows r = ap (λ xs. before xs r) (ap (λ y. all ++ y ∷ []) (sym copied) ∙ sym pushed)

  pub goes_on_opens : (b : Brackets) → side_of c ≡ Opens b → later ≡ stack ++ b ∷ [] →
      before all (balanced (reverse stack) s) ≡ before grown (balanced (reverse later) u)
  goes_on_opens b e more =
      balanced_opens all (reverse stack) d q s u taken b (side (Opens b) e)
      ∙ ap (λ w. before (all ++ q ∷ []) (balanced w u)) (sym (top_of later stack b more)) ∙ grows (balanced (reverse later) u)

  pub goes_on_neither : side_of c ≡ Neither → later ≡ stack →
      before all (balanced (reverse stack) s) ≡ before grown (balanced (reverse later) u)
  goes_on_neither e same =
      balanced_goes all (reverse stack) d q s u taken (side Neither e)
      ∙ ap (λ w. before (all ++ q ∷ []) (balanced w u)) (ap reverse (sym same)) ∙ grows (balanced (reverse later) u)

  pub goes_on_closes : (a b : Brackets) → side_of c ≡ Closes b → stack ≡ later ++ a ∷ [] → same_brackets a b ≡ true →
      before all (balanced (reverse stack) s) ≡ before grown (balanced (reverse later) u)
  goes_on_closes a b e top same =
      balanced_closes all (reverse stack) d q s u taken a b (reverse later) (top_of stack later a top) (side (Closes b) e) same
      ∙ grows (balanced (reverse later) u)
