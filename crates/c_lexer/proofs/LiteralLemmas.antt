-- The characters of a literal, one after another.
use Rattle.std.proofs.Common.{◌≡◌, ℕ, suc, ◌+◌, ◌<◌, ◌≤◌, ◌==◌, Bool, true, false, List, [], ◌∷◌, ◌++◌, length, drop, Option, Some, None, Result, Ok, Err, refl, sym, ap, ◌∙◌, append_assoc, arith}
use Rattle.std.proofs.lemmas.List.{append-nil, drop-drop, length-drop, drop_all}
use Rattle.std.proofs.lemmas.Bool.Decides.{nat_tests}
use Rattle.fc_base.specs.declared.rules.Rule.TheVariants.{BadEscape, LeftOutLiteral}
use Rattle.c_tokens.specs.declared.pieces.Piece.TheVariants.{Token, Refused}
use Rattle.c_tokens.specs.declared.tokens.TokenKind.TheVariants.{Str}
use Rattle.c_tokens.specs.Literals.{Character, character, escape, characters, valued, values, one_character, constant_of, string_of}
use Rattle.c_tokens.proofs.Characters.{characters_left}
use Rattle.c_lexer.specs.Runs.{first_character}
use Rattle.c_lexer.proofs.Longest.{some_left}

first_step : (offset : ℕ) (b : ℕ) (bs : List ℕ) (v : Bool) → (b == 92) ≡ v
    → characters offset 0 (b ∷ bs) ≡ character offset (first_character (b ∷ bs)).1
    ∷ characters (offset + (first_character (b ∷ bs)).0) 0 (drop (first_character (b ∷ bs)).0 (b ∷ bs))
unfolding characters
first_step offset b bs true e =
    let same : suc offset + (escape bs).0 ≡ offset + suc (escape bs).0 = omega arith in
    rw e (ap (λ (cs : List Character). character offset (escape bs).1 ∷ cs)
    (characters_left (suc offset) (escape bs).0 bs ∙ ap (λ (o : ℕ). characters o 0 (drop (escape bs).0 bs)) same))
first_step offset b bs false e =
    let same : suc offset ≡ offset + 1 = omega arith in
    rw e (ap (λ (o : ℕ). character offset (Some b) ∷ characters o 0 bs) same)

pub first_of : (offset : ℕ) (bs : List ℕ) → 0 < length bs
    → characters offset 0 bs ≡ character offset (first_character bs).1
    ∷ characters (offset + (first_character bs).0) 0 (drop (first_character bs).0 bs)
first_of offset [] lt = absurd (omega arith)
first_of offset (b ∷ bs) lt = first_step offset b bs (b == 92) refl

-- the values from before and then those of the rest
abbrev pub with_front : List ℕ → Result (List ℕ) ℕ → Result (List ℕ) ℕ
with_front front (Ok vs) = Ok (front ++ vs)
with_front front (Err offset) = Err offset

front_push : (front : List ℕ) (offset v : ℕ) (r : Result (List ℕ) ℕ)
    → with_front front (valued offset (Some v) r) ≡ with_front (front ++ v ∷ []) r
front_push front offset v (Ok vs) = ap (λ (xs : List ℕ). Ok xs) (sym (append_assoc front (v ∷ []) vs))
front_push front offset v (Err e) = refl

-- the body from a place on
abbrev pub left_of : List ℕ → ℕ → Result (List ℕ) ℕ
left_of body at = values (characters (suc at) 0 (drop at body))

next : (body : List ℕ) (at size : ℕ) (value : Option ℕ) → at < length body → (size, value) ≡ first_character (drop at body)
    → left_of body at ≡ valued (suc at) value (left_of body (at + size))
unfolding values
next body at size value lt e =
    let size_is : size ≡ (first_character (drop at body)).0 = ap (λ (r : ℕ × Option ℕ). r.0) e in
    let value_is : value ≡ (first_character (drop at body)).1 = ap (λ (r : ℕ × Option ℕ). r.1) e in
    let rest : drop size (drop at body) ≡ drop (at + size) body = drop-drop size at body in
    let same : suc at + size ≡ suc (at + size) = omega arith in
    ap values (first_of (suc at) (drop at body) (some_left body at lt)) ∙ rw (← size_is, ← value_is, rest, same) refl

pub string_value : (body front : List ℕ) (at size v : ℕ) (r : Result (List ℕ) ℕ) → at < length body
    → (size, Some v) ≡ first_character (drop at body)
    → with_front front (left_of body at) ≡ r → with_front (front ++ v ∷ []) (left_of body (at + size)) ≡ r
string_value body front at size v r lt e owed = sym (front_push front (suc at) v (left_of body (at + size)))
    ∙ ap (with_front front) (sym (next body at size (Some v) lt e)) ∙ owed

pub string_bad : (body front : List ℕ) (at size : ℕ) (r : Result (List ℕ) ℕ) → at < length body
    → (size, None) ≡ first_character (drop at body)
    → with_front front (left_of body at) ≡ r → r ≡ Err (suc at)
string_bad body front at size r lt e owed = sym owed ∙ ap (with_front front) (next body at size None lt e)

pub string_over : (body front : List ℕ) (at : ℕ) (r : Result (List ℕ) ℕ) → length body ≤ at → with_front front (left_of body at) ≡ r
    → r ≡ Ok front
unfolding characters values
string_over body front at r le owed =
    let none : left_of body at ≡ Ok [] = rw (drop_all at body le) refl in
    sym owed ∙ ap (with_front front) none ∙ ap (λ (xs : List ℕ). Ok xs) (append-nil front)

-- ---- constants

pub empty_from_test : (bs : List ℕ) → (length bs == 0) ≡ true → length bs ≡ 0
empty_from_test bs e = grind (arith, nat_tests)

pub some_from_test : (bs : List ℕ) → (length bs == 0) ≡ false → 0 < length bs
some_from_test bs e = grind (arith, nat_tests)

pub constant_none : (body : List ℕ) → length body ≡ 0 → Refused LeftOutLiteral 0 ≡ constant_of (characters 1 0 body)
unfolding characters
constant_none [] e = refl
constant_none (b ∷ bs) e = absurd (omega arith)

two_or_more : (offset at : ℕ) (value : Option ℕ) (bs : List ℕ) → 0 < length bs
    → constant_of (character offset value ∷ characters at 0 bs) ≡ Refused LeftOutLiteral 0
two_or_more offset at value bs lt = rw (first_of at bs lt) refl

pub constant_several : (body : List ℕ) (r : ℕ × Option ℕ) → 0 < length body → r ≡ first_character body → r.0 < length body
    → Refused LeftOutLiteral 0 ≡ constant_of (characters 1 0 body)
constant_several body r lt e more =
    let more' : (first_character body).0 < length body = rw e at more in
    sym (ap constant_of (first_of 1 body lt) ∙ two_or_more 1 (1 + (first_character body).0) (first_character body).1
    (drop (first_character body).0 body) (some_left body (first_character body).0 more'))

pub constant_one : (body : List ℕ) (r : ℕ × Option ℕ) (value : Option ℕ) → 0 < length body → r ≡ first_character body → length body ≤ r.0
    → r.1 ≡ value → one_character 1 value ≡ constant_of (characters 1 0 body)
unfolding characters
constant_one body r value lt e all v =
    let all' : length body ≤ (first_character body).0 = rw e at all in
    let v' : (first_character body).1 ≡ value = rw e at v in
    sym (ap constant_of (first_of 1 body lt) ∙ rw (drop_all (first_character body).0 body all', v') refl)

-- ---- steps of the loop over a string's characters

pair_as : (r : ℕ × Option ℕ) (value : Option ℕ) → r.1 ≡ value → (r.0, value) ≡ r
pair_as r value e = ap (λ (v : Option ℕ). (r.0, v)) (sym e)

pub step_bad : (body rest front : List ℕ) (at : ℕ) (r : ℕ × Option ℕ) → at < length body → rest ≡ drop at body → r ≡ first_character rest
    → r.1 ≡ None
    → with_front front (left_of body at) ≡ left_of body 0 → Refused BadEscape (at + 1) ≡ string_of (left_of body 0)
step_bad body rest front at r lt same e none owed =
    let one : at + 1 ≡ suc at = omega arith in
    let first : (r.0, None) ≡ first_character (drop at body) = pair_as r None none ∙ e ∙ ap first_character same in
    rw (string_bad body front at r.0 (left_of body 0) lt first owed, one) refl

pub step_value : (body rest front items : List ℕ) (at b : ℕ) (r : ℕ × Option ℕ) → at < length body → rest ≡ drop at body
    → r ≡ first_character rest → r.1 ≡ Some b
    → items ≡ front ++ b ∷ [] → with_front front (left_of body at) ≡ left_of body 0
    → with_front items (left_of body (at + r.0)) ≡ left_of body 0
step_value body rest front items at b r lt same e some pushed owed =
    let first : (r.0, Some b) ≡ first_character (drop at body) = pair_as r (Some b) some ∙ e ∙ ap first_character same in
    rw pushed (string_value body front at r.0 b (left_of body 0) lt first owed)

pub step_within : (body rest : List ℕ) (at size : ℕ) → at ≤ length body → rest ≡ drop at body → size ≤ length rest
    → at + size ≤ length body
step_within body rest at size le same fits = omega (arith, ap length same, length-drop at body)

pub step_over : (body front text bytes : List ℕ) (at : ℕ) → length body ≤ at → text ≡ bytes → bytes ≡ front
    → with_front front (left_of body at) ≡ left_of body 0
    → Token (Str text) ≡ string_of (left_of body 0)
step_over body front text bytes at le e f owed = rw (string_over body front at (left_of body 0) le owed, e, f) refl
