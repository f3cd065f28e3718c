-- Laws of the longest front, and the longest fronts of each kind of piece.
use Rattle.std.proofs.Common.{◌≡◌, ℕ, zero, suc, ◌+◌, ◌≤◌, ◌<◌, ◌==◌, ◌&&◌, not, Bool, true, false, if◌then◌else◌, List, [], ◌∷◌, ◌++◌, length, take, drop, Option, Some, None, option_map, refl, ap, ◌∙◌, arith}
use Rattle.std.specs.List.{prefix_len, list_all}
use Rattle.std.proofs.lemmas.List.{length-drop}
use Rattle.fc_base.specs.declared.rules.Rule.TheVariants.{OpenComment}
use Rattle.c_tokens.specs.declared.pieces.Piece.{Piece}
use Rattle.c_tokens.specs.declared.pieces.Piece.TheVariants.{Refused}
use Rattle.c_tokens.specs.Numbers.{in_number, all_in_number}
use Rattle.c_tokens.specs.Literals.{Shape, unclosed, shape}
use Rattle.c_tokens.specs.Pieces.{comment}
use Rattle.c_lexer.specs.Longest.{further, longest, LongestFront}
use Rattle.c_lexer.specs.Fronts.{comment_piece}
use Rattle.c_lexer.specs.Runs.{number_len, literal_end, comment_end}

-- ---- the longest front is what its name says

tells_here : {X : Type 0} (f : List ℕ → Option X) (b : ℕ) (bs : List ℕ) (here : Option X) → f [] ≡ here
    → ((m : ℕ) → m ≤ length bs → f (b ∷ take m bs) ≡ None) → LongestFront f (b ∷ bs) (further here None)
tells_here f b bs None e none = none_at
  where
    none_at : (m : ℕ) → m ≤ length (b ∷ bs) → f (take m (b ∷ bs)) ≡ None
    none_at zero le = e
    none_at (suc m) le = none m (omega arith)
tells_here f b bs (Some x) e none = record { within = omega arith; is = e; longer = longer_at }
  where
    longer_at : (m : ℕ) → 0 < m → m ≤ length (b ∷ bs) → f (take m (b ∷ bs)) ≡ None
    longer_at zero lt le = absurd (omega arith)
    longer_at (suc m) lt le = none m (omega arith)

tells_further : {X : Type 0} (f : List ℕ → Option X) (b : ℕ) (bs : List ℕ) (here : Option X) → f [] ≡ here → (r : Option (ℕ × X))
    → LongestFront (λ front. f (b ∷ front)) bs r → LongestFront f (b ∷ bs) (further here r)
tells_further f b bs here e None t = tells_here f b bs here e t
tells_further f b bs here e (Some r) t = record { within = let w = t.within in omega arith; is = t.is; longer = longer_at }
  where
    longer_at : (m : ℕ) → suc r.0 < m → m ≤ length (b ∷ bs) → f (take m (b ∷ bs)) ≡ None
    longer_at zero lt le = absurd (omega arith)
    longer_at (suc m) lt le = t.longer m (omega arith) (omega arith)

tells_end : {X : Type 0} (f : List ℕ → Option X) (here : Option X) → f [] ≡ here
    → LongestFront f [] (option_map {U = ℕ × X} (λ x. (0, x)) here)
tells_end f None e = λ m le. ends m
  where
    ends : (m : ℕ) → f (take m []) ≡ None
    ends zero = e
    ends (suc m) = e
tells_end f (Some x) e = record { within = omega arith; is = e; longer = λ m lt le. absurd (omega arith) }

pub longest_tells : {X : Type 0} (f : List ℕ → Option X) (bs : List ℕ) → LongestFront f bs (longest f bs)
unfolding longest
longest_tells f [] = tells_end f (f []) refl
longest_tells f (b ∷ bs) =
    tells_further f b bs (f []) refl (longest (λ front. f (b ∷ front)) bs) (longest_tells (λ front. f (b ∷ front)) bs)

-- ---- tests that agree, that take nothing, and that take the empty front alone

pub longest_same : {X : Type 0} (f g : List ℕ → Option X) → ((front : List ℕ) → f front ≡ g front) → (bs : List ℕ)
    → longest f bs ≡ longest g bs
unfolding longest
longest_same {X = X} f g e [] = ap (λ (o : Option X). option_map (λ x. (0, x)) o) (e [])
longest_same f g e (b ∷ bs) =
    rw (e []) (ap (further (g [])) (longest_same (λ front. f (b ∷ front)) (λ front. g (b ∷ front)) (λ front. e (b ∷ front)) bs))

pub longest_none : {X : Type 0} (f : List ℕ → Option X) → ((front : List ℕ) → f front ≡ None) → (bs : List ℕ) → longest f bs ≡ None
unfolding longest
longest_none f e [] = rw (e []) refl
longest_none f e (b ∷ bs) = rw (e [], longest_none (λ front. f (b ∷ front)) (λ front. e (b ∷ front)) bs) refl

-- f takes no front but perhaps the empty one
pub longest_first : {X : Type 0} (f : List ℕ → Option X) → ((b : ℕ) (front : List ℕ) → f (b ∷ front) ≡ None) → (bs : List ℕ)
    → longest f bs ≡ option_map (λ x. (0, x)) (f [])
unfolding longest
longest_first f e [] = refl
longest_first f e (b ∷ bs) = ap (further (f [])) (longest_none (λ front. f (b ∷ front)) (e b) bs)

-- ---- a run of bytes that pass a test, and perhaps one byte behind it

abbrev pub run_or : {X : Type 0} → (ℕ → Bool) → (List ℕ → X) → (List ℕ → Option X) → List ℕ → Option X
run_or p h g front = if list_all p front then Some (h front) else g front

-- what the run at the front comes to
abbrev pub after_run : {X : Type 0} → ℕ → X → Option X → ℕ × X
after_run n x None = (n, x)
after_run n x (Some y) = (suc n, y)

-- the front up to the first byte that does not pass, where there is one
abbrev pub past_run : {X : Type 0} → (List ℕ → Option X) → ℕ → List ℕ → Option X
past_run g zero [] = None
past_run g zero (b ∷ bs) = g (b ∷ [])
past_run g (suc n) [] = None
past_run g (suc n) (b ∷ bs) = past_run (λ front. g (b ∷ front)) n bs

-- g takes nothing that goes on behind a byte that does not pass
abbrev pub EndsAt : {X : Type 0} → (ℕ → Bool) → (List ℕ → Option X) → Type 0
EndsAt p g = (front : List ℕ) (c d : ℕ) (rest : List ℕ) → list_all p front ≡ true → p c ≡ false → g (front ++ c ∷ d ∷ rest) ≡ None

after_more : {X : Type 0} (here : X) (n : ℕ) (x : X) (o : Option X)
    → further (Some here) (Some (after_run n x o)) ≡ Some (after_run (suc n) x o)
after_more here n x None = refl
after_more here n x (Some y) = refl

after_none : {X : Type 0} (here : X) (o : Option X)
    → further (Some here) (option_map {U = ℕ × X} (λ x. (0, x)) o) ≡ Some (after_run 0 here o)
after_none here None = refl
after_none here (Some y) = refl

run_step : {X : Type 0} (p : ℕ → Bool) (h : List ℕ → X) (g : List ℕ → Option X) (b : ℕ) (bs : List ℕ) (v : Bool) → p b ≡ v → EndsAt p g
    → (p b ≡ true → longest (run_or p (λ r. h (b ∷ r)) (λ r. g (b ∷ r))) bs
    ≡ Some (after_run (prefix_len p bs) (h (b ∷ take (prefix_len p bs) bs)) (past_run (λ r. g (b ∷ r)) (prefix_len p bs) bs)))
    → longest (run_or p h g) (b ∷ bs) ≡ Some (after_run (prefix_len p (b ∷ bs)) (h (take (prefix_len p (b ∷ bs)) (b ∷ bs)))
    (past_run g (prefix_len p (b ∷ bs)) (b ∷ bs)))
unfolding longest
run_step p h g b bs true e ends so =
    let one : 1 + prefix_len p bs ≡ suc (prefix_len p bs) = omega arith in
    ap (further (Some (h []))) (longest_same (λ front. run_or p h g (b ∷ front)) (run_or p (λ r. h (b ∷ r)) (λ r. g (b ∷ r)))
    (λ front. rw e refl) bs ∙ so e)
    ∙ after_more (h []) (prefix_len p bs) (h (b ∷ take (prefix_len p bs) bs)) (past_run (λ r. g (b ∷ r)) (prefix_len p bs) bs)
    ∙ rw (e, one) refl
run_step p h g b bs false e ends so =
    ap (further (Some (h []))) (longest_same (λ front. run_or p h g (b ∷ front)) (λ front. g (b ∷ front)) (λ front. rw e refl) bs
    ∙ longest_first (λ front. g (b ∷ front)) (λ d front. ends [] b d front refl e) bs)
    ∙ after_none (h []) (g (b ∷ [])) ∙ rw e refl

ends_more : {X : Type 0} (p : ℕ → Bool) (g : List ℕ → Option X) (b : ℕ) → p b ≡ true → EndsAt p g → EndsAt p (λ r. g (b ∷ r))
ends_more p g b e ends = λ front c d rest all no. ends (b ∷ front) c d rest (rw e all) no

pub longest_run : {X : Type 0} (p : ℕ → Bool) (h : List ℕ → X) (g : List ℕ → Option X) (bs : List ℕ) → EndsAt p g
    → longest (run_or p h g) bs ≡ Some (after_run (prefix_len p bs) (h (take (prefix_len p bs) bs)) (past_run g (prefix_len p bs) bs))
unfolding longest
longest_run p h g [] ends = refl
longest_run p h g (b ∷ bs) ends =
    run_step p h g b bs (p b) refl ends (λ e. longest_run p (λ r. h (b ∷ r)) (λ r. g (b ∷ r)) bs (ends_more p g b e ends))

-- a run alone
pub longest_all : {X : Type 0} (p : ℕ → Bool) (h : List ℕ → X) (bs : List ℕ)
    → longest (λ front. if list_all p front then Some (h front) else None) bs ≡ Some (prefix_len p bs, h (take (prefix_len p bs) bs))
longest_all {X = X} p h bs = longest_run p h (λ front. None) bs (λ front c d rest all no. refl)
    ∙ ap (λ (o : Option X). Some (after_run (prefix_len p bs) (h (take (prefix_len p bs) bs)) o)) (past_none (prefix_len p bs) bs)
  where
    past_none : (n : ℕ) (bs : List ℕ) → past_run {X = X} (λ front. None) n bs ≡ None
    past_none zero [] = refl
    past_none zero (b ∷ bs) = refl
    past_none (suc n) [] = refl
    past_none (suc n) (b ∷ bs) = past_none n bs

-- ---- preprocessing numbers

abbrev pub number_run : {X : Type 0} → ℕ → (List ℕ → X) → List ℕ → Option X
number_run before h front = if all_in_number before front then Some (h front) else None

number_step : {X : Type 0} (before : ℕ) (h : List ℕ → X) (b : ℕ) (bs : List ℕ) (v : Bool) → in_number before b ≡ v
    → longest (number_run b (λ r. h (b ∷ r))) bs ≡ Some (number_len b bs, h (b ∷ take (number_len b bs) bs))
    → longest (number_run before h) (b ∷ bs) ≡ Some (number_len before (b ∷ bs), h (take (number_len before (b ∷ bs)) (b ∷ bs)))
unfolding longest number_len
number_step before h b bs true e so =
    ap (further (Some (h []))) (longest_same (λ front. number_run before h (b ∷ front)) (number_run b (λ r. h (b ∷ r)))
    (λ front. rw e refl) bs ∙ so) ∙ rw e refl
number_step before h b bs false e so =
    ap (further (Some (h []))) (longest_none (λ front. number_run before h (b ∷ front)) (λ front. rw e refl) bs) ∙ rw e refl

pub longest_number : {X : Type 0} (before : ℕ) (h : List ℕ → X) (bs : List ℕ)
    → longest (number_run before h) bs ≡ Some (number_len before bs, h (take (number_len before bs) bs))
unfolding longest number_len
longest_number before h [] = refl
longest_number before h (b ∷ bs) = number_step before h b bs (in_number before b) refl (longest_number b (λ r. h (b ∷ r)) bs)

-- ---- literals

abbrev pub shaped : {X : Type 0} → (Shape → List ℕ → X) → List ℕ → ℕ × Shape → ℕ × X
shaped of bs r = (r.0, of r.1 (take r.0 bs))

literal_step : {X : Type 0} (close : ℕ) (escapes escaped : Bool) (of : Shape → List ℕ → X) (b : ℕ) (bs : List ℕ) (u v : Bool)
    → (b == 10) ≡ u → (b == close && not escaped) ≡ v
    → longest (λ front. option_map (λ s. of s (b ∷ front)) (shape close escapes (escapes && b == 92 && not escaped) front)) bs
    ≡ Some (shaped (λ s r. of s (b ∷ r)) bs (literal_end close escapes (escapes && b == 92 && not escaped) bs))
    → longest (λ front. option_map (λ s. of s front) (shape close escapes escaped front)) (b ∷ bs)
    ≡ Some (shaped of (b ∷ bs) (literal_end close escapes escaped (b ∷ bs)))
unfolding longest shape literal_end
literal_step close escapes escaped of b bs true v e f so =
    ap (further (Some (of unclosed []))) (longest_none
    (λ front. option_map (λ s. of s (b ∷ front)) (shape close escapes escaped (b ∷ front))) (λ front. rw e refl) bs) ∙ rw e refl
literal_step close escapes escaped of b bs false true e f so =
    ap (further (Some (of unclosed []))) (longest_first
    (λ front. option_map (λ s. of s (b ∷ front)) (shape close escapes escaped (b ∷ front))) (λ c front. rw (e, f) refl) bs)
    ∙ rw (e, f) refl
literal_step close escapes escaped of b bs false false e f so =
    ap (further (Some (of unclosed [])))
    (longest_same (λ front. option_map (λ s. of s (b ∷ front)) (shape close escapes escaped (b ∷ front)))
    (λ front. option_map (λ s. of s (b ∷ front)) (shape close escapes (escapes && b == 92 && not escaped) front))
    (λ front. rw (e, f) refl) bs ∙ so)
    ∙ rw (e, f) refl

pub longest_literal : {X : Type 0} (close : ℕ) (escapes escaped : Bool) (of : Shape → List ℕ → X) (bs : List ℕ)
    → longest (λ front. option_map (λ s. of s front) (shape close escapes escaped front)) bs
    ≡ Some (shaped of bs (literal_end close escapes escaped bs))
unfolding longest shape literal_end
longest_literal close escapes escaped of [] = refl
longest_literal close escapes escaped of (b ∷ bs) =
    literal_step close escapes escaped of b bs (b == 10) (b == close && not escaped) refl refl
    (longest_literal close escapes (escapes && b == 92 && not escaped) (λ s r. of s (b ∷ r)) bs)

-- ---- comments

abbrev pub commented : ℕ × Shape → ℕ × Piece
commented r = (r.0, comment_piece r.1)

comment_step : (star : Bool) (b : ℕ) (bs : List ℕ) (v : Bool) → (star && b == 47) ≡ v
    → longest (comment (b == 42)) bs ≡ Some (commented (comment_end (b == 42) bs))
    → longest (comment star) (b ∷ bs) ≡ Some (commented (comment_end star (b ∷ bs)))
unfolding longest comment comment_end
comment_step star b bs true e so =
    ap (further (Some (Refused OpenComment 0))) (longest_first (λ front. comment star (b ∷ front)) (λ c front. rw e refl) bs) ∙ rw e refl
comment_step star b bs false e so =
    ap (further (Some (Refused OpenComment 0))) (longest_same (λ front. comment star (b ∷ front)) (comment (b == 42))
    (λ front. rw e refl) bs ∙ so) ∙ rw e refl

pub longest_comment : (star : Bool) (bs : List ℕ) → longest (comment star) bs ≡ Some (commented (comment_end star bs))
unfolding longest comment comment_end
longest_comment star [] = refl
longest_comment star (b ∷ bs) = comment_step star b bs (star && b == 47) refl (longest_comment (b == 42) bs)

-- ---- what is left behind a place

pub some_left : {A : Type 0} (xs : List A) (at : ℕ) → at < length xs → 0 < length (drop at xs)
some_left xs at lt = omega (arith, length-drop at xs)
