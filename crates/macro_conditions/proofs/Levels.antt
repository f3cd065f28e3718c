-- The levels of operators and of the frames that wait.
use Rattle.std.proofs.Common.{◌≡◌, ℕ, suc, ◌≤◌, nat_le, Bool, true, false, ◌&&◌, if◌then◌else◌, List, [], ◌∷◌, Option, Some, None, refl, sym, ap, ◌∙◌, arith}
use Rattle.std.specs.Option.{unwrap_or}
use Rattle.std.proofs.lemmas.Bool.Decides.{nat_tests}
use Rattle.c_tokens.specs.declared.Punct.{Punct}
use Rattle.c_tokens.specs.declared.Punct.TheVariants as punct
use Rattle.c_tokens.specs.declared.TokenKind.{TokenKind}
use Rattle.c_tokens.specs.declared.TokenKind.TheVariants as token
use Rattle.macro_conditions.specs.declared.values.Value.{Value}
use Rattle.macro_conditions.specs.Values.{evaluates_right}
use Rattle.macro_conditions.specs.Trees.{level_of, is_prefix}
use Rattle.macro_conditions.specs.declared.machine.Frame.{Frame}
use Rattle.macro_conditions.specs.declared.machine.Frame.TheVariants.{Bracket, Sign, Left, Question as Asks, Colon as Chooses, Comma as Follows}
use Rattle.macro_conditions.specs.Machine.{completes, Operand, reduced, wants, on_prefix, own_level, punct_pull, pull, on_binary, on_punct}

-- ---- operators

abbrev in_range : Option ℕ → Bool
in_range None = true
in_range (Some l) = nat_le 2 l && nat_le l 11

ranges : (p : Punct) → in_range (level_of p) ≡ true
ranges punct.Star = refl
ranges _ = refl

both : (l : ℕ) → (nat_le 2 l && nat_le l 11) ≡ true → (2 ≤ l) × (l ≤ 11)
both l e = (grind (arith, nat_tests), grind (arith, nat_tests))

pub level_bounds : (p : Punct) (l : ℕ) → level_of p ≡ Some l → (2 ≤ l) × (l ≤ 11)
level_bounds p l e = both l (sym (ap in_range e) ∙ ranges p)

abbrev low : ℕ → Bool
low l = nat_le l 11

lows : (p : Punct) → low (punct_pull p) ≡ true
lows punct.Star = refl
lows _ = refl

below : (l : ℕ) → low l ≡ true → l ≤ 11
below l e = grind (arith, nat_tests)

abbrev pub pull_of : List TokenKind → ℕ
pull_of [] = 0
pull_of (t ∷ ts) = pull t

pub pull_bound : (ts : List TokenKind) → pull_of ts ≤ 11
pull_bound [] = omega arith
pull_bound (token.Punct p ∷ ts) = below (punct_pull p) (lows p)
pull_bound (token.Name n ∷ ts) = omega arith
pull_bound (token.Number n k ∷ ts) = omega arith
pull_bound (token.CharConst n ∷ ts) = omega arith
pull_bound (token.Str n ∷ ts) = omega arith
pull_bound (token.HeaderName n ∷ ts) = omega arith
pull_bound (token.Header n ∷ ts) = omega arith

pub own_is : (p : Punct) (l : ℕ) → level_of p ≡ Some l → own_level p ≡ l
own_is p l e = ap (λ o. unwrap_or o 0) e

pub pull_is : (p : Punct) (l : ℕ) → level_of p ≡ Some l → punct_pull p ≡ l
pull_is punct.Question l e = cc
pull_is _ l e = ap (λ o. unwrap_or o 0) e

pub on_punct_is : (p : Punct) (l : ℕ) (o : Operand) → level_of p ≡ Some l
    → on_punct p o ≡ Some (wants (Left p o.value o.evaluated ∷ o.stack) (evaluates_right o.evaluated p o.value))
on_punct_is punct.Question l o e = cc
on_punct_is punct.Colon l o e = cc
on_punct_is punct.RightParen l o e = cc
on_punct_is punct.Comma l o e = cc
on_punct_is p l o e = ap (on_binary o p) e

pub on_prefix_is : (p : Punct) (fs : List Frame) (e : Bool) → is_prefix p ≡ true → on_prefix fs e p ≡ Some (wants (Sign p ∷ fs) e)
on_prefix_is punct.LeftParen fs e h = cc
on_prefix_is p fs e h = ap (λ (b : Bool). if b then Some (wants (Sign p ∷ fs) e) else None) h

-- ---- frames

-- the loosest operand that a stack takes
abbrev pub need : List Frame → ℕ
need [] = 1
need (Bracket e ∷ fs) = 0
need (Sign p ∷ fs) = 12
need (Left p a e ∷ fs) = suc (own_level p)
need (Asks c e ∷ fs) = 0
need (Chooses c a e ∷ fs) = 1
need (Follows ∷ fs) = 1

over : (l k : ℕ) → suc k ≤ l → nat_le l k ≡ false
over l k le = grind (arith, nat_tests)

abbrev pub operand : List Frame → Bool → Value → Option Operand
operand fs e v = Some (record { stack = fs; evaluated = e; value = v })

stays : (f : Frame) (fs : List Frame) (l : ℕ) (e : Bool) (v : Value) → completes l f ≡ false
    → reduced l (f ∷ fs) e v ≡ operand (f ∷ fs) e v
stays f fs l e v h = rw h refl

pub stuck : (fs : List Frame) (l : ℕ) (e : Bool) (v : Value) → need fs ≤ l → 2 ≤ l → reduced l fs e v ≡ operand fs e v
stuck [] l e v n h = refl
stuck (Bracket x ∷ fs) l e v n h = refl
stuck (Sign p ∷ fs) l e v n h = stays (Sign p) fs l e v (over l 11 n)
stuck (Left p a x ∷ fs) l e v n h = stays (Left p a x) fs l e v (over l (own_level p) n)
stuck (Asks c x ∷ fs) l e v n h = refl
stuck (Chooses c a x ∷ fs) l e v n h = stays (Chooses c a x) fs l e v (over l 1 h)
stuck (Follows ∷ fs) l e v n h = stays Follows fs l e v (over l 0 (omega arith))

-- what takes an operand looser than any stays at each level
pub stuck_loose : (fs : List Frame) (l : ℕ) (e : Bool) (v : Value) → need fs ≤ 0 → reduced l fs e v ≡ operand fs e v
stuck_loose [] l e v n = absurd (omega arith)
stuck_loose (Bracket x ∷ fs) l e v n = refl
stuck_loose (Sign p ∷ fs) l e v n = absurd (omega arith)
stuck_loose (Left p a x ∷ fs) l e v n = absurd (omega arith)
stuck_loose (Asks c x ∷ fs) l e v n = refl
stuck_loose (Chooses c a x ∷ fs) l e v n = absurd (omega arith)
stuck_loose (Follows ∷ fs) l e v n = absurd (omega arith)
