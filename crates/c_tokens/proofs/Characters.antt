-- A literal's body is cut into its characters in one way.
use Rattle.std.proofs.Common.{◌≡◌, ℕ, zero, suc, ◌+◌, ◌≤◌, ◌==◌, Bool, true, false, if◌then◌else◌, List, [], ◌∷◌, ◌++◌, length, take, drop, Option, Some, refl, sym, ap, ◌∙◌, subst, arith}
use Rattle.std.specs.List.{take_while, prefix_len}
use Rattle.std.specs.Char.{is_digit}
use Rattle.std.proofs.lemmas.List.{take-append-drop, length-take, length-take-le, length-drop}
use Rattle.std.proofs.Math.Seq.{drop-append_seam}
use Rattle.std.proofs.lemmas.Bool.{eqb-true}
use Rattle.c_tokens.specs.Literals.{octal_digits, escape, Character, character, characters, IsCharacter, plain, escaped, AreCharacters, none, more}

pub characters_left : (offset left : ℕ) (bs : List ℕ) → characters offset left bs ≡ characters (offset + left) 0 (drop left bs)
unfolding characters
characters_left offset zero bs = let same : offset + 0 ≡ offset = omega arith in rw same refl
characters_left offset (suc left) [] = refl
characters_left offset (suc left) (b ∷ bs) =
    let same : suc offset + left ≡ offset + suc left = omega arith in
    characters_left (suc offset) left bs ∙ ap (λ (o : ℕ). characters o 0 (drop left bs)) same

-- ---- the first character of a text

first_plain : (offset b : ℕ) (bs : List ℕ) → (b == 92) ≡ false
    → characters offset 0 (b ∷ bs) ≡ character offset (Some b) ∷ characters (offset + 1) 0 bs
unfolding characters
first_plain offset b bs e = let same : offset + 1 ≡ suc offset = omega arith in rw (e, same) refl

first_escaped : (offset : ℕ) (bs : List ℕ)
    → characters offset 0 (92 ∷ bs) ≡ character offset (escape bs).1 ∷ characters (offset + suc (escape bs).0) 0 (drop (escape bs).0 bs)
unfolding characters
first_escaped offset bs =
    let same : suc offset + (escape bs).0 ≡ offset + suc (escape bs).0 = omega arith in
    ap (λ cs. character offset (escape bs).1 ∷ cs)
    (characters_left (suc offset) (escape bs).0 bs ∙ ap (λ (o : ℕ). characters o 0 (drop (escape bs).0 bs)) same)

-- ---- one cut

pub characters_only : (offset : ℕ) (body : List ℕ) (found : List Character) → AreCharacters offset body found
    → found ≡ characters offset 0 body
unfolding characters
characters_only offset _ _ none = refl
characters_only offset _ _ (more {behind = behind} {cs = cs} (plain b e) rest) =
    ap (λ cs. character offset (Some b) ∷ cs) (characters_only (offset + 1) behind cs rest) ∙ sym (first_plain offset b behind e)
characters_only offset _ _ (more {behind = behind} {cs = cs} (escaped sequence size) rest) =
    let bs = sequence ++ behind in
    let left : drop (escape bs).0 bs ≡ behind = ap (λ (n : ℕ). drop n bs) (sym size) ∙ drop-append_seam sequence behind in
    ap (λ cs. character offset (escape bs).1 ∷ cs)
    (characters_only (offset + suc (length sequence)) behind cs rest ∙ ap (λ (n : ℕ). characters (offset + suc n) 0 behind) size
    ∙ ap (λ (xs : List ℕ). characters (offset + suc (escape bs).0) 0 xs) (sym left))
    ∙ sym (first_escaped offset bs)

-- ---- each body has it

while_within : (p : ℕ → Bool) (bs : List ℕ) → length (take_while p bs) ≤ length bs
while_within p bs = omega (arith, length-take (prefix_len p bs) bs)

octal_within : (bs : List ℕ) → length (octal_digits bs) ≤ length bs
octal_within bs = omega (arith, while_within (λ b. is_digit b 8) (take 3 bs), length-take 3 bs)

either_within : (bound : ℕ) (a b : ℕ × Option ℕ) (v : Bool) → a.0 ≤ bound → b.0 ≤ bound → (if v then a else b).0 ≤ bound
either_within bound a b true this that = this
either_within bound a b false this that = that

escape_within : (bs : List ℕ) → (escape bs).0 ≤ length bs
unfolding escape
escape_within [] = omega arith
escape_within (b ∷ bs) =
    either_within (length (b ∷ bs)) _ _ (is_digit b 8) (octal_within (b ∷ bs))
    (either_within (length (b ∷ bs)) _ _ (b == 120) (omega (arith, while_within (λ c. is_digit c 16) bs)) (omega arith))

one_more : (offset : ℕ) (text behind body : List ℕ) (value : Option ℕ) (found : List Character) → IsCharacter behind text value
    → text ++ behind ≡ body
    → character offset value ∷ characters (offset + length text) 0 behind ≡ found
    → AreCharacters (offset + length text) behind (characters (offset + length text) 0 behind) → AreCharacters offset body found
one_more offset text behind body value found is e f rest =
    subst (λ (xs : List ℕ). AreCharacters offset xs found) e (subst (λ cs. AreCharacters offset (text ++ behind) cs) f (more is rest))

escaped_at : (bs : List ℕ) → IsCharacter (drop (escape bs).0 bs) (92 ∷ take (escape bs).0 bs) (escape bs).1
escaped_at bs =
    let n = (escape bs).0 in
    let whole : bs ≡ take n bs ++ drop n bs = sym (take-append-drop n bs) in
    let size : length (take n bs) ≡ (escape (take n bs ++ drop n bs)).0 = length-take-le n bs (escape_within bs)
    ∙ ap (λ (xs : List ℕ). (escape xs).0) whole in
    subst (λ (v : Option ℕ). IsCharacter (drop n bs) (92 ∷ take n bs) v) (sym (ap (λ (xs : List ℕ). (escape xs).1) whole))
    (escaped (take n bs) size)

each_step : (offset b : ℕ) (bs : List ℕ) (v : Bool) → (b == 92) ≡ v
    → ((offset : ℕ) (rest : List ℕ) → length rest ≤ length bs → AreCharacters offset rest (characters offset 0 rest))
    → AreCharacters offset (b ∷ bs) (characters offset 0 (b ∷ bs))
each_step offset b bs false e so =
    one_more offset (b ∷ []) bs (b ∷ bs) (Some b) (characters offset 0 (b ∷ bs)) (plain b e) refl (sym (first_plain offset b bs e))
    (so (offset + 1) bs (omega arith))
each_step offset b bs true e so =
    let n = (escape bs).0 in
    let is : 92 ≡ b = sym (eqb-true b 92 e) in
    let size : suc (length (take n bs)) ≡ suc n = ap suc (length-take-le n bs (escape_within bs)) in
    let found : character offset (escape bs).1 ∷ characters (offset + suc (length (take n bs))) 0 (drop n bs)
    ≡ characters offset 0 (b ∷ bs) =
    ap (λ (k : ℕ). character offset (escape bs).1 ∷ characters (offset + k) 0 (drop n bs)) size ∙ sym (first_escaped offset bs)
    ∙ ap (λ (c : ℕ). characters offset 0 (c ∷ bs)) is in
    one_more offset (92 ∷ take n bs) (drop n bs) (b ∷ bs) (escape bs).1 (characters offset 0 (b ∷ bs)) (escaped_at bs)
    (ap (λ (xs : List ℕ). 92 ∷ xs) (take-append-drop n bs) ∙ ap (λ (c : ℕ). c ∷ bs) is) found
    (so (offset + suc (length (take n bs))) (drop n bs) (omega (arith, length-drop n bs)))

each_within : (bound offset : ℕ) (body : List ℕ) → length body ≤ bound → AreCharacters offset body (characters offset 0 body)
unfolding characters
each_within bound offset [] few = none
each_within zero offset (b ∷ bs) few = absurd (omega arith)
each_within (suc bound) offset (b ∷ bs) few =
    each_step offset b bs (b == 92) refl (λ offset rest less. each_within bound offset rest (omega arith))

pub characters_each : (offset : ℕ) (body : List ℕ) → AreCharacters offset body (characters offset 0 body)
characters_each offset body = each_within (length body) offset body (omega arith)
