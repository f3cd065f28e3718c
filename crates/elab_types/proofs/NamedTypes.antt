-- The type that words name, one behind another, is the one that their list names.
use Rattle.std.proofs.Common.{◌≡◌, ℕ, zero, suc, cond, ◌+◌, ◌≤◌, min, List, [], ◌∷◌, Bool, true, false, not, ◌&&◌, ◌||◌, ◌==◌, fold, nat_lt, if◌then◌else◌, refl, sym, ap, ◌∙◌, arith}
use Rattle.std.proofs.lemmas.List.Sums.{sum_by-cons}
use Rattle.fc_base.specs.declared.levels.Width.TheVariants.{W1, W2, W4, W8}
use Rattle.c_layout.specs.declared.types.CType.TheVariants.{Void, Int}
use Rattle.c_tree.specs.declared.nodes.BasicWord.{BasicWord}
use Rattle.c_tree.specs.declared.nodes.BasicWord.TheVariants as word
use Rattle.elab_meaning.specs.Declarations.{times, has_word, basic_type, word_number}
use Rattle.elab_types.specs.declared.words.Words.{Words}
use Rattle.elab_types.specs.Words.{no_words, with_word, words_of, word_type}

-- these and the words of a list
abbrev joined : Words → List BasicWord → Words
joined acc ws = record {
  void = acc.void || has_word word.Void ws;
  character = acc.character || has_word word.Char ws;
  short = acc.short || has_word word.Short ws;
  signed = acc.signed || has_word word.Signed ws;
  unsigned = acc.unsigned || has_word word.Unsigned ws;
  longs = min 2 (acc.longs + times word.Long ws);
}

-- one word more in a list
plus : (b : Bool) (n m : ℕ) → m ≡ cond b 1 0 + n → m ≡ (if b then suc n else n)
plus true n m e = omega (arith, e)
plus false n m e = omega (arith, e)

more : (w v : BasicWord) (ws : List BasicWord) →
    times w (v ∷ ws) ≡ (if word_number v == word_number w then suc (times w ws) else times w ws)
more w v ws =
    plus (word_number v == word_number w) _ _ (sum_by-cons (λ u. cond (word_number u == word_number w) 1 0) v ws)

-- whether a word stands in a list of one word more
has_more : (w v : BasicWord) (ws : List BasicWord) → has_word w (v ∷ ws) ≡ (word_number v == word_number w || has_word w ws)
has_more w v ws = ap (nat_lt 0) (more w v ws) ∙ lifted (word_number v == word_number w) (times w ws)
  where
    lifted : (b : Bool) (n : ℕ) → nat_lt 0 (if b then suc n else n) ≡ (b || nat_lt 0 n)
    lifted true n = grind arith
    lifted false n = refl

or_true : (b : Bool) → true ≡ b || true
or_true true = refl
or_true false = refl

one_long : (n k : ℕ) → n ≤ 2 → min 2 ((if n == 0 then 1 else 2) + k) ≡ min 2 (n + suc k)
one_long n k h = grind arith

few_longs : (n : ℕ) → (if n == 0 then 1 else 2) ≤ 2
few_longs n = grind arith

no_long : (n : ℕ) → n ≤ 2 → n ≡ min 2 (n + 0)
no_long n h = grind arith

or_false : (b : Bool) → b ≡ b || false
or_false true = refl
or_false false = refl

ended : (acc : Words) → acc.longs ≤ 2 → joined acc [] ≡ acc
ended acc h =
    let void : (acc.void || false) ≡ acc.void = sym (or_false acc.void) in
    let character : (acc.character || false) ≡ acc.character = sym (or_false acc.character) in
    let short : (acc.short || false) ≡ acc.short = sym (or_false acc.short) in
    let signed : (acc.signed || false) ≡ acc.signed = sym (or_false acc.signed) in
    let unsigned : (acc.unsigned || false) ≡ acc.unsigned = sym (or_false acc.unsigned) in
    let longs : min 2 (acc.longs + 0) ≡ acc.longs = sym (no_long acc.longs h) in
    rw (void, character, short, signed, unsigned, longs) refl

abbrev longs_with : BasicWord → List BasicWord → ℕ
longs_with v ws = if word_number v == word_number word.Long then suc (times word.Long ws) else times word.Long ws

joined_more : (acc : Words) (v : BasicWord) (ws : List BasicWord) → joined acc (v ∷ ws) ≡ record {
  void = acc.void || (word_number v == word_number word.Void || has_word word.Void ws);
  character = acc.character || (word_number v == word_number word.Char || has_word word.Char ws);
  short = acc.short || (word_number v == word_number word.Short || has_word word.Short ws);
  signed = acc.signed || (word_number v == word_number word.Signed || has_word word.Signed ws);
  unsigned = acc.unsigned || (word_number v == word_number word.Unsigned || has_word word.Unsigned ws);
  longs = min 2 (acc.longs + longs_with v ws);
}
joined_more acc v ws =
    let void = ap (λ b. acc.void || b) (has_more word.Void v ws) in
    let character = ap (λ b. acc.character || b) (has_more word.Char v ws) in
    let short = ap (λ b. acc.short || b) (has_more word.Short v ws) in
    let signed = ap (λ b. acc.signed || b) (has_more word.Signed v ws) in
    let unsigned = ap (λ b. acc.unsigned || b) (has_more word.Unsigned v ws) in
    let longs = ap (λ n. min 2 (acc.longs + n)) (more word.Long v ws) in
    cc

step : (acc : Words) (w : BasicWord) (ws : List BasicWord) → acc.longs ≤ 2 → joined (with_word acc w) ws ≡ joined acc (w ∷ ws)
step acc word.Void ws h = ap (λ b. record (joined acc ws) { void = b }) (or_true acc.void) ∙ sym (joined_more acc word.Void ws)
step acc word.Char ws h = ap (λ b. record (joined acc ws) { character = b }) (or_true acc.character) ∙ sym (joined_more acc word.Char ws)
step acc word.Short ws h = ap (λ b. record (joined acc ws) { short = b }) (or_true acc.short) ∙ sym (joined_more acc word.Short ws)
step acc word.Int ws h = sym (joined_more acc word.Int ws)
step acc word.Long ws h =
    ap (λ n. record (joined acc ws) { longs = n }) (one_long acc.longs (times word.Long ws) h) ∙ sym (joined_more acc word.Long ws)
step acc word.Signed ws h = ap (λ b. record (joined acc ws) { signed = b }) (or_true acc.signed) ∙ sym (joined_more acc word.Signed ws)
step acc word.Unsigned ws h =
    ap (λ b. record (joined acc ws) { unsigned = b }) (or_true acc.unsigned) ∙ sym (joined_more acc word.Unsigned ws)

few : (acc : Words) (w : BasicWord) → acc.longs ≤ 2 → (with_word acc w).longs ≤ 2
few acc word.Void h = h
few acc word.Char h = h
few acc word.Short h = h
few acc word.Int h = h
few acc word.Long h = few_longs acc.longs
few acc word.Signed h = h
few acc word.Unsigned h = h

gathered : (acc : Words) (ws : List BasicWord) → acc.longs ≤ 2 → fold with_word acc ws ≡ joined acc ws
gathered acc [] h = sym (ended acc h)
gathered acc (w ∷ ws) h = gathered (with_word acc w) ws (few acc w h) ∙ step acc w ws h

longs_name : (signed : Bool) (n : ℕ) →
    (if min 2 (0 + n) == 0 then Int W4 signed false false
    else (if min 2 (0 + n) == 1 then Int W8 signed false false else Int W8 signed false true))
    ≡ (if nat_lt 1 n then Int W8 signed false true else (if nat_lt 0 n then Int W8 signed false false else Int W4 signed false false))
longs_name signed zero = refl
longs_name signed (suc zero) = refl
longs_name signed (suc (suc n)) =
    two (min 2 (0 + suc (suc n))) (grind arith) ∙ sym (twice (nat_lt 1 (suc (suc n))) (grind arith))
  where
    twice : (b : Bool) → b ≡ true →
        (if b then Int W8 signed false true else (if nat_lt 0 (suc (suc n)) then Int W8 signed false false else Int W4 signed false false))
        ≡ Int W8 signed false true
    twice b e = rw e refl

    two : (m : ℕ) → m ≡ 2 →
        (if m == 0 then Int W4 signed false false else (if m == 1 then Int W8 signed false false else Int W8 signed false true))
        ≡ Int W8 signed false true
    two m e = rw e refl

pub named_type : (ws : List BasicWord) → word_type (words_of ws) ≡ basic_type ws
named_type ws =
    let signed = not (has_word word.Unsigned ws) in
    ap word_type (gathered no_words ws (omega arith))
    ∙ ap (λ t. if has_word word.Void ws then Void
    else (if has_word word.Char ws then Int W1 signed (signed && not (has_word word.Signed ws)) false
    else (if has_word word.Short ws then Int W2 signed false false else t)))
    (longs_name signed (times word.Long ws))
