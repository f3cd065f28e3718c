-- A list of specifiers as the code gathers it says what the definition reads off the whole list.
use Rattle.std.proofs.Common.{◌≡◌, List, [], ◌∷◌, Bool, true, false, ◌||◌, fold, Option, None, Some, Result, Ok, Err, refl, sym, ap, ◌∙◌}
use Rattle.std.specs.Prelude.{filter_map}
use Rattle.std.specs.List.{list_any}
use Rattle.std.proofs.lemmas.List.Folds.{list_any-append}
use Rattle.fc_base.specs.declared.refusals.Refusal.{Refusal}
use Rattle.c_layout.specs.declared.types.CType.{CType}
use Rattle.c_tree.specs.declared.nodes.BasicWord.{BasicWord}
use Rattle.elab_meaning.specs.Typing.{State, goes_on, pure, each, ◌>>=◌}
use Rattle.elab_meaning.specs.Parts.{Meant, typedef_word, static_word, inline_word, plain_word, attributes, basic, type, ReadSpec}
use Rattle.elab_meaning.specs.Declarations.{base_of, type_meant, word_meant, attributes_meant, is_typedef_word, is_static_word, is_inline_word, is_alloc_size, has_alloc_size, specifiers_of}
use Rattle.elab_types.specs.declared.specifiers.Gathered.{Gathered}
use Rattle.elab_types.specs.Specifiers.{meaning, nothing, or_else, gathered, type_or, finished, gathered_on, kept_specifiers, specifiers_kept}
use Rattle.elab_types.specs.Words.{with_word, words_of}
use Rattle.elab_types.proofs.NamedTypes.{named_type}

abbrev one_more : Gathered → Meant → Gathered
one_more g m = gathered g (meaning m)

abbrev first_or : Option CType → List CType → Option CType
first_or (Some t) ts = Some t
first_or None [] = None
first_or None (t ∷ ts) = Some t

-- these and what a list says
abbrev said : Gathered → List Meant → Gathered
said g ms = record {
  ctype = first_or g.ctype (filter_map type_meant ms);
  words = fold with_word g.words (filter_map word_meant ms);
  is_typedef = g.is_typedef || list_any is_typedef_word ms;
  is_static = g.is_static || list_any is_static_word ms;
  is_inline = g.is_inline || list_any is_inline_word ms;
  has_alloc_size = g.has_alloc_size || has_alloc_size (attributes_meant ms);
}

or_true : (b : Bool) → true ≡ b || true
or_true true = refl
or_true false = refl

or_false : (b : Bool) → b || false ≡ b
or_false true = refl
or_false false = refl

or_or : (a b c : Bool) → (a || b) || c ≡ a || (b || c)
or_or true b c = refl
or_or false b c = refl

first_more : (o : Option CType) (t : CType) (ts : List CType) → first_or (or_else o t) ts ≡ first_or o (t ∷ ts)
first_more None t ts = refl
first_more (Some s) t ts = refl

first_none : (o : Option CType) → first_or o [] ≡ o
first_none None = refl
first_none (Some t) = refl

said_more : (g : Gathered) (m : Meant) (ms : List Meant) → said (one_more g m) ms ≡ said g (m ∷ ms)
said_more g typedef_word ms = ap (λ (b : Bool). record (said g ms) { is_typedef = b }) (or_true g.is_typedef)
said_more g static_word ms = ap (λ (b : Bool). record (said g ms) { is_static = b }) (or_true g.is_static)
said_more g inline_word ms = ap (λ (b : Bool). record (said g ms) { is_inline = b }) (or_true g.is_inline)
said_more g plain_word ms = refl
said_more g (attributes list) ms =
    ap (λ (b : Bool). record (said g ms) { has_alloc_size = b })
    (or_or g.has_alloc_size (has_alloc_size list) (has_alloc_size (attributes_meant ms))
    ∙ ap (λ b. g.has_alloc_size || b) (sym (list_any-append is_alloc_size list (attributes_meant ms))))
said_more g (basic w) ms = refl
said_more g (type t) ms = ap (λ (o : Option CType). record (said g ms) { ctype = o }) (first_more g.ctype t (filter_map type_meant ms))

said_none : (g : Gathered) → g ≡ said g []
said_none g =
    let ctype : first_or g.ctype [] ≡ g.ctype = first_none g.ctype in
    let is_typedef : (g.is_typedef || false) ≡ g.is_typedef = or_false g.is_typedef in
    let is_static : (g.is_static || false) ≡ g.is_static = or_false g.is_static in
    let is_inline : (g.is_inline || false) ≡ g.is_inline = or_false g.is_inline in
    let has_alloc : (g.has_alloc_size || false) ≡ g.has_alloc_size = or_false g.has_alloc_size in
    rw (ctype, is_typedef, is_static, is_inline, has_alloc) refl

all_said : (g : Gathered) (ms : List Meant) → fold one_more g ms ≡ said g ms
all_said g [] = said_none g
all_said g (m ∷ ms) = all_said (one_more g m) ms ∙ said_more g m ms

base_is : (ts : List CType) (ws : List BasicWord) → type_or (first_or None ts) (words_of ws) ≡ base_of ts ws
base_is [] ws = named_type ws
base_is (t ∷ ts) ws = refl

kept_is : (ms : List Meant) → finished (fold one_more nothing ms) ≡ kept_specifiers (specifiers_of ms)
kept_is ms =
    ap finished (all_said nothing ms)
    ∙ ap (λ (t : CType). record (kept_specifiers (specifiers_of ms)) { base = t }) (base_is (filter_map type_meant ms) (filter_map word_meant ms))

-- ---- one behind another

then_said : (g : Gathered) (m : Meant) (r : Result (List Meant × State) Refusal)
    → goes_on r (λ ms. pure (finished (fold one_more (one_more g m) ms)))
    ≡ goes_on (goes_on r (λ ms. pure (m ∷ ms))) (λ ms. pure (finished (fold one_more g ms)))
then_said g m (Ok (ms, u)) = refl
then_said g m (Err e) = refl

gathered_step : (g : Gathered) (specs : List ReadSpec) (r : Result (Meant × State) Refusal)
    → ((h : Gathered) (u : State) → gathered_on h specs u ≡ goes_on (each specs u) (λ ms. pure (finished (fold one_more h ms))))
    → goes_on (goes_on r (λ m. pure (meaning m))) (λ m. gathered_on (gathered g m) specs)
    ≡ goes_on (goes_on r (λ m. each specs >>= (λ ms. pure (m ∷ ms)))) (λ ms. pure (finished (fold one_more g ms)))
gathered_step g specs (Ok (m, u)) rest = rest (one_more g m) u ∙ then_said g m (each specs u)
gathered_step g specs (Err e) rest = refl

gathered_all : (g : Gathered) (specs : List ReadSpec) (s : State)
    → gathered_on g specs s ≡ goes_on (each specs s) (λ ms. pure (finished (fold one_more g ms)))
gathered_all g [] s = refl
gathered_all g (spec ∷ specs) s = gathered_step g specs (spec s) (λ h u. gathered_all h specs u)

whole_said : (r : Result (List Meant × State) Refusal)
    → goes_on r (λ ms. pure (finished (fold one_more nothing ms)))
    ≡ goes_on (goes_on r (λ ms. pure (specifiers_of ms))) (λ s. pure (kept_specifiers s))
whole_said (Ok (ms, u)) = ap (λ x. Ok (x, u)) (kept_is ms)
whole_said (Err e) = refl

pub gathered_whole : (specs : List ReadSpec) (s : State) → gathered_on nothing specs s ≡ specifiers_kept specs s
gathered_whole specs s = gathered_all nothing specs s ∙ whole_said (each specs s)
