-- The steps of a loop over specifiers that one function reads.
use Rattle.std.proofs.Common.{◌≡◌, ◌≢◌, ℕ, suc, max, List, [], ◌∷◌, ◌++◌, Option, Some, None, true, false, refl, sym, ap, ◌∙◌, append_assoc, add_assoc, zero-add, arith}
use Rattle.fc_base.specs.declared.refusals.Place.{Place}
use Rattle.c_tree.specs.declared.nodes.Spec.{Spec}
use Rattle.parse_meaning.specs.declared.terminals.Keyword.{Keyword}
use Rattle.parse_meaning.specs.declared.terminals.Keyword.TheVariants as w
use Rattle.parse_meaning.specs.Expressions.{basic_word}
use Rattle.parse_meaning.specs.Terminals.{Lexeme}
use Rattle.parse_meaning.specs.Specifiers.{Tally, nothing, together}
use Rattle.parse_reading.specs.Reading.{◌>>=◌, Read, Counted, Specs, found, begins_spec, with_spec, specs_any, word_spec, basic_spec}

abbrev pub specs_found : List Spec → Tally → ℕ → List Lexeme → Read Specs
specs_found xs a h t = found (record { specs = xs; tally = a }) h t

-- specifiers that were read before, and what they count as
abbrev pub behind_specs : List Spec → Tally → ℕ → Option (Read Specs) → Option (Read Specs)
behind_specs xs a h r = r >>= λ ys. Some (specs_found (xs ++ ys.tree.specs) (together a ys.tree.tally) (max h ys.height) ys.rest)

pub together_assoc : (a b c : Tally) → together a (together b c) ≡ together (together a b) c
together_assoc a b c = simp add_assoc

pub nothing_together : (a : Tally) → together nothing a ≡ a
nothing_together a = simp zero-add

pub behind_nothing : (r : Option (Read Specs)) → r ≡ behind_specs [] nothing 0 r
behind_nothing None = refl
behind_nothing (Some r) =
    let height : r.height ≡ max 0 r.height = omega arith in
    ap (λ a. Some (specs_found r.tree.specs a r.height r.rest)) (sym (nothing_together r.tree.tally))
    ∙ ap (λ h. Some (specs_found r.tree.specs (together nothing r.tree.tally) h r.rest)) height

module _ (xs : List Spec) (a : Tally) (h : ℕ) (x : Read Counted) where
  behind_with : (r : Option (Read Specs)) → behind_specs xs a h (with_spec x r)
      ≡ behind_specs (xs ++ x.tree.spec ∷ []) (together a x.tree.tally) (max h x.height) r
  behind_with None = refl
  behind_with (Some r) =
      let heights : max h (max x.height r.height) ≡ max (max h x.height) r.height = omega arith in
      let specs : xs ++ (x.tree.spec ∷ r.tree.specs)
      ≡ (xs ++ x.tree.spec ∷ []) ++ r.tree.specs = sym (append_assoc xs (x.tree.spec ∷ []) r.tree.specs) in
      ap (λ ys. Some (specs_found ys (together a (together x.tree.tally r.tree.tally)) (max h (max x.height r.height)) r.rest)) specs
      ∙ ap (λ b. Some (specs_found ((xs ++ x.tree.spec ∷ []) ++ r.tree.specs) b (max h (max x.height r.height)) r.rest))
      (together_assoc a x.tree.tally r.tree.tally)
      ∙ ap (λ j. Some (specs_found ((xs ++ x.tree.spec ∷ []) ++ r.tree.specs) (together (together a x.tree.tally) r.tree.tally) j r.rest))
      heights

  module _ (one : List Lexeme → Option (Read Counted)) (m : ℕ) (s : List Lexeme) (e : one s ≡ Some x) where
    pub specs_end : begins_spec x.rest ≡ false →
        behind_specs xs a h (specs_any one (suc m) s)
        ≡ Some (specs_found (xs ++ x.tree.spec ∷ []) (together a x.tree.tally) (max h x.height) x.rest)
    unfolding specs_any
    specs_end ends = rw (e, ends) refl

    pub specs_go : begins_spec x.rest ≡ true →
        behind_specs xs a h (specs_any one (suc m) s)
        ≡ behind_specs (xs ++ x.tree.spec ∷ []) (together a x.tree.tally) (max h x.height) (specs_any one m x.rest)
    unfolding specs_any
    specs_go goes = rw (e, goes) (behind_with (specs_any one m x.rest))

pub specs_fail : (xs : List Spec) (a : Tally) (h : ℕ) (one : List Lexeme → Option (Read Counted)) (m : ℕ) (s : List Lexeme) → one s ≡ None →
    behind_specs xs a h (specs_any one (suc m) s) ≡ None
unfolding specs_any
specs_fail xs a h one m s e = rw e refl

pub specs_over : (xs : List Spec) (a : Tally) (h : ℕ) (one : List Lexeme → Option (Read Counted)) (s : List Lexeme) →
    behind_specs xs a h (specs_any one 0 s) ≡ None
unfolding specs_any
specs_over xs a h one s = refl

pub behind_same : (xs ys : List Spec) (a b : Tally) (h j : ℕ) (r : Option (Read Specs)) → ys ≡ xs → b ≡ a → j ≡ h →
    behind_specs xs a h r ≡ behind_specs ys b j r
behind_same xs ys a b h j r d e f = rw (d, e, f) refl

-- ---- Keywords that begin no specifier of their own

pub word_basic : (word : Keyword) (place : Place) (t : List Lexeme) → (word ≢ w.Typedef) → (word ≢ w.Extern) → (word ≢ w.Static) →
    (word ≢ w.Inline) → (word ≢ w.Const)
    → (word ≢ w.Attribute) → (word ≢ w.Struct) → (word ≢ w.Union) → (word ≢ w.Enum) →
    word_spec word place t ≡ basic_spec (basic_word word) place t
word_basic w.Typedef place t a b c d e f g h i = absurd (a refl)
word_basic w.Extern place t a b c d e f g h i = absurd (b refl)
word_basic w.Static place t a b c d e f g h i = absurd (c refl)
word_basic w.Inline place t a b c d e f g h i = absurd (d refl)
word_basic w.Const place t a b c d e f g h i = absurd (e refl)
word_basic w.Attribute place t a b c d e f g h i = absurd (f refl)
word_basic w.Struct place t a b c d e f g h i = absurd (g refl)
word_basic w.Union place t a b c d e f g h i = absurd (h refl)
word_basic w.Enum place t a b c d e f g h i = absurd (i refl)
word_basic _ place t a b c d e f g h i = refl
