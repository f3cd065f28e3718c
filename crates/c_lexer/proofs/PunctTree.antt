-- The punctuator that the reader finds by bytes is the one of the table.
use Rattle.std.proofs.Common.{◌≡◌, ℕ, ◌==◌, ◌&&◌, Bool, true, false, if◌then◌else◌, List, [], ◌∷◌, Option, Some, None, refl, sym, ap, ◌∙◌}
use Rattle.std.specs.List.{list_all}
use Rattle.std.specs.Str.{bytes_eq}
use Rattle.std.proofs.lemmas.Slice.Eq.{bytes_eq-Decides}
use Rattle.std.proofs.lemmas.Bool.{and_parts, eqb-true}
use Rattle.c_tokens.specs.declared.puncts.Punct.{Punct}
use Rattle.c_tokens.specs.declared.puncts.Punct.TheVariants as p
use Rattle.c_tokens.specs.Puncts.{punct_spelling, punctuator}
use Rattle.c_tokens.proofs.PunctLaw as table
use Rattle.c_lexer.specs.Runs.{operator, one_byte, with_assign, doubled, two_bytes, three_bytes}

-- a table of punctuators by a byte, and what another byte gives
abbrev pick : List (ℕ × Punct) → Option Punct → ℕ → Option Punct
pick [] last a = last
pick (r ∷ rs) last a = if a == r.0 then Some r.1 else pick rs last a

-- each row's text is its spelling
abbrev told : (ℕ → List ℕ) → List (ℕ × Punct) → Bool
told text = list_all (λ r. bytes_eq (text r.0) (punct_spelling r.1))

pick_step : (text : ℕ → List ℕ) (n : ℕ) (q p : Punct) (rest : Option Punct) (a : ℕ) (v : Bool) → (a == n) ≡ v
    → bytes_eq (text n) (punct_spelling q) ≡ true → (rest ≡ Some p → text a ≡ punct_spelling p)
    → (if a == n then Some q else rest) ≡ Some p → text a ≡ punct_spelling p
pick_step text n q p rest a true e t so found =
    let at : a ≡ n = eqb-true a n e in
    let found' : Some q ≡ Some p = rw e at found in
    let is : q ≡ p = cc in
    ap text at ∙ (bytes_eq-Decides (text n) (punct_spelling q)).0 t ∙ ap punct_spelling is
pick_step text n q p rest a false e t so found = so (rw e at found)

picked : (text : ℕ → List ℕ) (rows : List (ℕ × Punct)) (last : Option Punct) (a : ℕ) (p : Punct) → told text rows ≡ true
    → (last ≡ Some p → text a ≡ punct_spelling p) → pick rows last a ≡ Some p → text a ≡ punct_spelling p
picked text [] last a p t so found = so found
picked text (r ∷ rs) last a p t so found =
    let parts = and_parts (bytes_eq (text r.0) (punct_spelling r.1)) (told text rs) t in
    pick_step text r.0 r.1 p (pick rs last a) a (a == r.0) refl parts.0 (picked text rs last a p parts.1 so) found

abbrev operators : List (ℕ × Punct)
operators =
    (43, p.Plus) ∷ (45, p.Minus) ∷ (42, p.Star) ∷ (47, p.Slash) ∷ (37, p.Percent) ∷ (38, p.Ampersand) ∷ (124, p.Bar) ∷ (94, p.Caret)
    ∷ (126, p.Tilde) ∷ (33, p.Exclamation) ∷ (60, p.Less) ∷ (62, p.Greater) ∷ (61, p.Assign) ∷ []

abbrev separators : List (ℕ × Punct)
separators =
    (91, p.LeftBracket) ∷ (93, p.RightBracket) ∷ (40, p.LeftParen) ∷ (41, p.RightParen) ∷ (123, p.LeftBrace) ∷ (125, p.RightBrace)
    ∷ (46, p.Dot) ∷ (44, p.Comma) ∷ (59, p.Semicolon) ∷ (58, p.Colon) ∷ (63, p.Question) ∷ (35, p.Hash) ∷ []

abbrev assigns : List (ℕ × Punct)
assigns =
    (43, p.PlusAssign) ∷ (45, p.MinusAssign) ∷ (42, p.StarAssign) ∷ (47, p.SlashAssign) ∷ (37, p.PercentAssign) ∷ (38, p.AmpersandAssign)
    ∷ (124, p.BarAssign) ∷ (94, p.CaretAssign) ∷ (33, p.NotEqual) ∷ (60, p.LessEqual) ∷ (62, p.GreaterEqual) ∷ (61, p.EqualEqual) ∷ []

abbrev doubles : List (ℕ × Punct)
doubles =
    (43, p.PlusPlus) ∷ (45, p.MinusMinus) ∷ (38, p.AndAnd) ∷ (124, p.OrOr) ∷ (60, p.ShiftLeft) ∷ (62, p.ShiftRight) ∷ (35, p.HashHash) ∷ []

operator_text : (a : ℕ) (punct : Punct) → operator a ≡ Some punct → a ∷ [] ≡ punct_spelling punct
unfolding operator
operator_text a punct found = picked (λ b. b ∷ []) operators None a punct refl (λ e. absurd cc) found

one_text : (a : ℕ) (punct : Punct) → one_byte a ≡ Some punct → a ∷ [] ≡ punct_spelling punct
unfolding one_byte
one_text a punct found = picked (λ b. b ∷ []) separators (operator a) a punct refl (operator_text a punct) found

assign_text : (a : ℕ) (punct : Punct) → with_assign a ≡ Some punct → a ∷ 61 ∷ [] ≡ punct_spelling punct
unfolding with_assign
assign_text a punct found = picked (λ b. b ∷ 61 ∷ []) assigns None a punct refl (λ e. absurd cc) found

double_text : (a : ℕ) (punct : Punct) → doubled a ≡ Some punct → a ∷ a ∷ [] ≡ punct_spelling punct
unfolding doubled
double_text a punct found = picked (λ b. b ∷ b ∷ []) doubles None a punct refl (λ e. absurd cc) found

arrow_text : (a b : ℕ) (punct : Punct) (v : Bool) → (a == 45 && b == 62) ≡ v
    → (if a == 45 && b == 62 then Some p.Arrow else None) ≡ Some punct → a ∷ b ∷ [] ≡ punct_spelling punct
arrow_text a b punct true e found =
    let parts = and_parts (a == 45) (b == 62) e in
    let found' : Some p.Arrow ≡ Some punct = rw e at found in
    let is : p.Arrow ≡ punct = cc in
    let first : a ≡ 45 = eqb-true a 45 parts.0 in
    let second : b ≡ 62 = eqb-true b 62 parts.1 in
    rw (first, second) (ap punct_spelling is)
arrow_text a b punct false e found = let none : None ≡ Some punct = rw e at found in absurd cc

two_text : (a b : ℕ) (punct : Punct) (v w : Bool) → (b == 61) ≡ v → (a == b) ≡ w → two_bytes a b ≡ Some punct
    → a ∷ b ∷ [] ≡ punct_spelling punct
two_text a b punct true w e f found =
    let at : b ≡ 61 = eqb-true b 61 e in
    rw at (assign_text a punct (rw e at found))
two_text a b punct false true e f found =
    let at : a ≡ b = eqb-true a b f in
    ap (λ (n : ℕ). a ∷ n ∷ []) (sym at) ∙ double_text a punct (rw (e, f) at found)
two_text a b punct false false e f found = arrow_text a b punct (a == 45 && b == 62) refl (rw (e, f) at found)

-- three bytes that are these
all_three : (a b c k l m : ℕ) → (a == k && b == l && c == m) ≡ true → a ∷ b ∷ c ∷ [] ≡ k ∷ l ∷ m ∷ []
all_three a b c k l m e =
    let outer = and_parts (a == k && b == l) (c == m) e in
    let inner = and_parts (a == k) (b == l) outer.0 in
    let first : a ≡ k = eqb-true a k inner.0 in
    let second : b ≡ l = eqb-true b l inner.1 in
    let third : c ≡ m = eqb-true c m outer.1 in
    rw (first, second, third) refl

three_step : (a b c k l m : ℕ) (q punct : Punct) (rest : Option Punct) (v : Bool) → (a == k && b == l && c == m) ≡ v
    → k ∷ l ∷ m ∷ [] ≡ punct_spelling q → (rest ≡ Some punct → a ∷ b ∷ c ∷ [] ≡ punct_spelling punct)
    → (if a == k && b == l && c == m then Some q else rest) ≡ Some punct → a ∷ b ∷ c ∷ [] ≡ punct_spelling punct
three_step a b c k l m q punct rest true e t so found =
    let found' : Some q ≡ Some punct = rw e at found in
    let is : q ≡ punct = cc in
    all_three a b c k l m e ∙ t ∙ ap punct_spelling is
three_step a b c k l m q punct rest false e t so found = so (rw e at found)

three_text : (a b c : ℕ) (punct : Punct) → three_bytes a b c ≡ Some punct → a ∷ b ∷ c ∷ [] ≡ punct_spelling punct
three_text a b c punct found =
    three_step a b c 46 46 46 p.Ellipsis punct _ (a == 46 && b == 46 && c == 46) refl refl
    (three_step a b c 60 60 61 p.ShiftLeftAssign punct _ (a == 60 && b == 60 && c == 61) refl refl
    (three_step a b c 62 62 61 p.ShiftRightAssign punct None (a == 62 && b == 62 && c == 61) refl refl (λ e. absurd cc)))
    found

-- what these bytes spell as a whole
abbrev pub by_bytes : List ℕ → Option Punct
by_bytes [] = None
by_bytes (a ∷ []) = one_byte a
by_bytes (a ∷ b ∷ []) = two_bytes a b
by_bytes (a ∷ b ∷ c ∷ []) = three_bytes a b c
by_bytes (a ∷ b ∷ c ∷ d ∷ ds) = None

by_bytes_text : (text : List ℕ) (punct : Punct) → by_bytes text ≡ Some punct → text ≡ punct_spelling punct
by_bytes_text [] punct found = absurd cc
by_bytes_text (a ∷ []) punct found = one_text a punct found
by_bytes_text (a ∷ b ∷ []) punct found = two_text a b punct (b == 61) (a == b) refl refl found
by_bytes_text (a ∷ b ∷ c ∷ []) punct found = three_text a b c punct found
by_bytes_text (a ∷ b ∷ c ∷ d ∷ ds) punct found = absurd cc

by_bytes_back : (punct : Punct) → by_bytes (punct_spelling punct) ≡ Some punct
unfolding operator one_byte with_assign doubled
by_bytes_back p.LeftBracket = refl
by_bytes_back _ = refl

same_found : (text : List ℕ) (o q : Option Punct) → punctuator text ≡ o → by_bytes text ≡ q → o ≡ q
same_found text None None e f = refl
same_found text (Some punct) q e f = sym (by_bytes_back punct) ∙ ap by_bytes (sym (table.punct_text text punct e)) ∙ f
same_found text None (Some punct) e f = sym e ∙ ap punctuator (by_bytes_text text punct f) ∙ table.punct_back punct

pub by_bytes_is : (text : List ℕ) → punctuator text ≡ by_bytes text
by_bytes_is text = same_found text (punctuator text) (by_bytes text) refl refl
