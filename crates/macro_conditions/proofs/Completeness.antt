-- The machine reads each expression of the grammar, and has its value.
use Rattle.std.proofs.Common.{◌≡◌, ℕ, ◌≤◌, nat_le, Bool, true, false, not, ◌&&◌, if◌then◌else◌, List, [], ◌∷◌, Option, Some, None, refl, ap, ◌∙◌, arith}
use Rattle.std.specs.Prelude.{option_and_then}
use Rattle.std.proofs.lemmas.Bool.Decides.{nat_tests}
use Rattle.c_tokens.specs.declared.Punct.{Punct}
use Rattle.c_tokens.specs.declared.Punct.TheVariants as punct
use Rattle.c_tokens.specs.declared.TokenKind.{TokenKind}
use Rattle.c_tokens.specs.declared.TokenKind.TheVariants as token
use Rattle.macro_conditions.specs.declared.values.Value.{Value}
use Rattle.macro_conditions.specs.Values.{is_true, combined, evaluates_right, prefixed, chosen}
use Rattle.macro_conditions.specs.Trees.{Tree, sequence, level_of, Reads, tighter, number, constant, name, brackets, operand, operation, conditional_of, comma, value, conditional}
use Rattle.macro_conditions.specs.declared.machine.Frame.{Frame}
use Rattle.macro_conditions.specs.declared.machine.Frame.TheVariants.{Bracket, Sign, Left, Question as Asks, Colon as Chooses, Comma as Follows}
use Rattle.macro_conditions.specs.Machine.{completes, applied, restored, Operand, reduced, wants, has, on_operator, holds_comma, own_level, run, alone}
use Rattle.macro_conditions.proofs.Levels.{level_bounds, pull_of, pull_bound, own_is, pull_is, on_punct_is, on_prefix_is, need, stuck, stuck_loose, operand as read}

abbrev pub resume : List Frame → Bool → Option Value → List TokenKind → Option Value
resume fs e None ts = None
resume fs e (Some v) ts = run (has fs e v) ts

through : (fs gs : List Frame) (e d : Bool) (o : Option Value) (F : Value → Option Value) (ts us : List TokenKind)
    → ((a : Value) → run (has fs e a) ts ≡ resume gs d (F a) us) → resume fs e o ts ≡ resume gs d (option_and_then F o) us
through fs gs e d None F ts us h = refl
through fs gs e d (Some a) F ts us h = h a

taken : (f : Frame) (fs : List Frame) (l : ℕ) (e : Bool) (v : Value) → completes l f ≡ true
    → reduced l (f ∷ fs) e v ≡ option_and_then (reduced l fs (restored f e)) (applied f v)
taken f fs l e v h = rw h refl

-- a frame that the next token completes
pub popped : (f : Frame) (fs : List Frame) (e : Bool) (v : Value) (ts : List TokenKind) → completes (pull_of ts) f ≡ true
    → run (has (f ∷ fs) e v) ts ≡ resume fs (restored f e) (applied f v) ts
popped f fs e v [] h = ap (option_and_then alone) (taken f fs 0 e v h) ∙ by (applied f v)
  where
    by : (o : Option Value) → option_and_then alone (option_and_then (reduced 0 fs (restored f e)) o) ≡ resume fs (restored f e) o []
    by None = refl
    by (Some w) = refl
popped f fs e v (t ∷ ts) h =
    ap (λ (o : Option Operand). option_and_then (λ next. run next ts) (option_and_then (on_operator t) o))
    (taken f fs (pull_of (t ∷ ts)) e v h) ∙ by (applied f v)
  where
    by : (o : Option Value)
        → option_and_then (λ next. run next ts) (option_and_then (on_operator t)
        (option_and_then (reduced (pull_of (t ∷ ts)) fs (restored f e)) o)) ≡ resume fs (restored f e) o (t ∷ ts)
    by None = refl
    by (Some w) = refl

within : (l k : ℕ) → l ≤ k → nat_le l k ≡ true
within l k le = grind (arith, nat_tests)

-- an operator that completes nothing of the stack is asked at once
asked : (t : TokenKind) (fs : List Frame) (e : Bool) (v : Value) (ts : List TokenKind) → reduced (pull_of (t ∷ ts)) fs e v ≡ read fs e v
    → run (has fs e v) (t ∷ ts) ≡ option_and_then (λ next. run next ts) (on_operator t (record { stack = fs; evaluated = e; value = v }))
asked t fs e v ts h = ap (λ (o : Option Operand). option_and_then (λ next. run next ts) (option_and_then (on_operator t) o)) h

on_binary_token : (p : Punct) (l : ℕ) (fs : List Frame) (e : Bool) (a : Value) (ts : List TokenKind) → level_of p ≡ Some l → need fs ≤ l
    → run (has fs e a) (token.Punct p ∷ ts) ≡ run (wants (Left p a e ∷ fs) (evaluates_right e p a)) ts
on_binary_token p l fs e a ts h n =
    let b = level_bounds p l h in
    let s : reduced (pull_of (token.Punct p ∷ ts)) fs e a ≡ read fs e a = rw (pull_is p l h) (stuck fs l e a n b.0) in
    asked (token.Punct p) fs e a ts s
    ∙ ap (option_and_then (λ next. run next ts)) (on_punct_is p l (record { stack = fs; evaluated = e; value = a }) h)

on_question_token : (fs : List Frame) (e : Bool) (c : Value) (ts : List TokenKind) → need fs ≤ 1
    → run (has fs e c) (token.Punct punct.Question ∷ ts) ≡ run (wants (Asks c e ∷ fs) (e && is_true c)) ts
on_question_token fs e c ts n = asked (token.Punct punct.Question) fs e c ts (stuck fs 2 e c (omega arith) (omega arith))

comma_held : (fs : List Frame) → need fs ≤ 0 → holds_comma fs ≡ true
comma_held [] n = absurd (omega arith)
comma_held (Bracket x ∷ fs) n = refl
comma_held (Sign p ∷ fs) n = absurd (omega arith)
comma_held (Left p a x ∷ fs) n = absurd (omega arith)
comma_held (Asks c x ∷ fs) n = refl
comma_held (Chooses c a x ∷ fs) n = absurd (omega arith)
comma_held (Follows ∷ fs) n = absurd (omega arith)

on_comma_token : (fs : List Frame) (e : Bool) (v : Value) (ts : List TokenKind) → need fs ≤ 0
    → run (has fs e v) (token.Punct punct.Comma ∷ ts) ≡ (if e then None else run (wants (Follows ∷ fs) false) ts)
on_comma_token fs e v ts n = asked (token.Punct punct.Comma) fs e v ts (stuck_loose fs 0 e v n) ∙ by e
  where
    by : (d : Bool)
        → option_and_then (λ next. run next ts) (if holds_comma fs && not d then Some (wants (Follows ∷ fs) false) else None)
        ≡ (if d then None else run (wants (Follows ∷ fs) false) ts)
    by true = rw (comma_held fs n) refl
    by false = rw (comma_held fs n) refl

some_of : (fs : List Frame) (o : Option Value) (u : List TokenKind)
    → resume fs false (option_and_then (λ b. Some b) o) u ≡ resume fs false o u
some_of fs None u = refl
some_of fs (Some b) u = refl

none_of : (fs : List Frame) (o : Option Value) (t : List TokenKind) → need fs ≤ 0 → resume fs true o (token.Punct punct.Comma ∷ t) ≡ None
none_of fs None t n = refl
none_of fs (Some a) t n = on_comma_token fs true a t n

on_sequence : (fs : List Frame) (e : Bool) (x y : Tree) (t u : List TokenKind) → need fs ≤ 0 → pull_of u ≤ 0
    → run (wants (Follows ∷ fs) false) t ≡ resume (Follows ∷ fs) false (value false y) u
    → resume fs e (value e x) (token.Punct punct.Comma ∷ t) ≡ resume fs e (value e (sequence x y)) u
on_sequence fs true x y t u n h r = none_of fs (value true x) t n
on_sequence fs false x y t u n h r =
    through fs fs false false (value false x) (λ a. value false y) (token.Punct punct.Comma ∷ t) u (λ a.
    on_comma_token fs false a t n ∙ r
    ∙ through (Follows ∷ fs) fs false false (value false y) (λ b. Some b) u u (λ b. popped Follows fs false b u (within (pull_of u) 0 h))
    ∙ some_of fs (value false y) u)

pub complete : {l : ℕ} {s t : List TokenKind} {x : Tree} → Reads l s x t → (fs : List Frame) (e : Bool) → need fs ≤ l → pull_of t ≤ l
    → run (wants fs e) s ≡ resume fs e (value e x) t
complete (tighter r) fs e n h = complete r fs e (omega arith) (omega arith)
complete number fs e n h = refl
complete constant fs e n h = refl
complete name fs e n h = refl
complete (brackets {t = t} {x = x} r) fs e n h = complete r (Bracket e ∷ fs) e (omega arith) (omega arith) ∙ by (value e x)
  where
    by : (o : Option Value) → resume (Bracket e ∷ fs) e o (token.Punct punct.RightParen ∷ t) ≡ resume fs e o t
    by None = refl
    by (Some v) = refl
complete (operand {p = p} {s = s} {t = t} {x = x} q r) fs e n h =
    ap (option_and_then (λ next. run next s)) (on_prefix_is p fs e q)
    ∙ complete r (Sign p ∷ fs) e (omega arith) h
    ∙ through (Sign p ∷ fs) fs e e (value e x) (λ a. Some (prefixed p a)) t t
    (λ a. popped (Sign p) fs e a t (within (pull_of t) 11 (pull_bound t)))
complete (operation {l = l} {p = p} {t = t} {u = u} {x = x} {y = y} q r w) fs e n h =
    complete r fs e n (let same = pull_is p l q in omega arith)
    ∙ through fs fs e e (value e x) (λ a. option_and_then (λ b. combined e p a b) (value (evaluates_right e p a) y))
    (token.Punct p ∷ t) u (λ a.
    on_binary_token p l fs e a t q n
    ∙ complete w (Left p a e ∷ fs) (evaluates_right e p a) (let same = own_is p l q in omega arith) (omega arith)
    ∙ through (Left p a e ∷ fs) fs (evaluates_right e p a) e (value (evaluates_right e p a) y) (λ b. combined e p a b) u u (λ b.
    popped (Left p a e) fs (evaluates_right e p a) b u (within (pull_of u) (own_level p) (let same = own_is p l q in omega arith))))
complete (conditional_of {t = t} {u = u} {v = v} {c = c} {x = x} {y = y} q r w) fs e n h =
    complete q fs e (omega arith) (omega arith)
    ∙ through fs fs e e (value e c) (λ k. option_and_then (λ a. option_and_then (λ b. Some (chosen k a b)) (value (e && not (is_true k)) y))
    (value (e && is_true k) x)) (token.Punct punct.Question ∷ t) v (λ k.
    on_question_token fs e k t n
    ∙ complete r (Asks k e ∷ fs) (e && is_true k) (omega arith) (omega arith)
    ∙ through (Asks k e ∷ fs) fs (e && is_true k) e (value (e && is_true k) x)
    (λ a. option_and_then (λ b. Some (chosen k a b)) (value (e && not (is_true k)) y)) (token.Punct punct.Colon ∷ u) v (λ a.
    complete w (Chooses k a e ∷ fs) (e && not (is_true k)) (omega arith) h
    ∙ through (Chooses k a e ∷ fs) fs (e && not (is_true k)) e (value (e && not (is_true k)) y) (λ b. Some (chosen k a b)) v v (λ b.
    popped (Chooses k a e) fs (e && not (is_true k)) b v (within (pull_of v) 1 h))))
complete (comma {t = t} {u = u} {x = x} {y = y} r w) fs e n h =
    complete r fs e n (omega arith) ∙ on_sequence fs e x y t u n h (complete w (Follows ∷ fs) false (omega arith) (omega arith))

whole_value : (o : Option Value) → resume [] true o [] ≡ o
whole_value None = refl
whole_value (Some v) = refl

pub complete_whole : (ts : List TokenKind) (x : Tree) → Reads conditional ts x [] → run (wants [] true) ts ≡ value true x
complete_whole ts x r = complete r [] true (omega arith) (omega arith) ∙ whole_value (value true x)
