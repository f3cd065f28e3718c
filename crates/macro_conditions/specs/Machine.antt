-- A condition read from the left with the operators that wait for an operand, innermost first. No public contract names
-- this: `Decides` is what it gives.
use Rattle.std.specs.Prelude.{ℕ, nat_le, Bool, true, false, not, ◌&&◌, if◌then◌else◌, List, [], ◌∷◌, Option, Some, None, option_and_then, option_map}
use Rattle.std.specs.Option.{unwrap_or}
use Rattle.c_tokens.specs.declared.Punct.{Punct}
use Rattle.c_tokens.specs.declared.Punct.TheVariants.{LeftParen, RightParen, Question, Colon, Comma}
use Rattle.c_tokens.specs.declared.TokenKind.{TokenKind}
use Rattle.c_tokens.specs.declared.TokenKind.TheVariants as token
use Rattle.macro_conditions.specs.declared.values.Value.{Value}
use Rattle.macro_conditions.specs.Values.{is_true, truth, literal_value, character_value, combined, evaluates_right, prefixed, chosen}
use Rattle.macro_conditions.specs.Trees.{expression, conditional, logical_or, multiplicative, level_of, is_prefix}
use Rattle.macro_conditions.specs.declared.machine.Frame.{Frame}
use Rattle.macro_conditions.specs.declared.machine.Frame.TheVariants.{Bracket, Sign, Left, Question as Asks, Colon as Chooses, Comma as Follows}

-- the level of an operator, and the loosest one of any other punctuator
abbrev pub own_level : Punct → ℕ
own_level p = unwrap_or (level_of p) expression

-- an operator of this level or a looser one completes the frame
abbrev pub completes : ℕ → Frame → Bool
completes l (Bracket e) = false
completes l (Sign p) = nat_le l multiplicative
completes l (Left p a e) = nat_le l (own_level p)
completes l (Asks v e) = false
completes l (Chooses v a e) = nat_le l conditional
completes l Follows = nat_le l expression

-- the value of a frame with its last operand
abbrev pub applied : Frame → Value → Option Value
applied (Bracket e) v = None
applied (Sign p) v = Some (prefixed p v)
applied (Left p a e) v = combined e p a v
applied (Asks c e) v = None
applied (Chooses c a e) v = Some (chosen c a v)
applied Follows v = Some v

-- whether operands are evaluated behind the frame's expression
abbrev pub restored : Frame → Bool → Bool
restored (Left p a e) now = e
restored (Chooses c a e) now = e
restored _ now = now

pub record Operand : Type 0 where
  pub stack : List Frame
  pub evaluated : Bool
  pub value : Value

-- the frames that an operator of the level completes are taken off
abbrev pub reduced : ℕ → List Frame → Bool → Value → Option Operand
reduced l [] e v = Some (record { stack = []; evaluated = e; value = v })
reduced l (f ∷ fs) e v =
    if completes l f then option_and_then (reduced l fs (restored f e)) (applied f v)
    else Some (record { stack = f ∷ fs; evaluated = e; value = v })

-- an operand is wanted, or one was read
pub data Phase : Type 0 where
  wants : List Frame → Bool → Phase
  has : List Frame → Bool → Value → Phase

-- ---- where an operand is wanted

abbrev pub on_prefix : List Frame → Bool → Punct → Option Phase
on_prefix fs e LeftParen = Some (wants (Bracket e ∷ fs) e)
on_prefix fs e p = if is_prefix p then Some (wants (Sign p ∷ fs) e) else None

abbrev pub on_operand : List Frame → Bool → TokenKind → Option Phase
on_operand fs e (token.Number n k) = Some (has fs e (literal_value n k.unsigned))
on_operand fs e (token.CharConst byte) = Some (has fs e (character_value byte))
on_operand fs e (token.Name n) = Some (has fs e (truth false))
on_operand fs e (token.Punct p) = on_prefix fs e p
on_operand fs e _ = None

-- ---- where an operand was read

-- the level of the frames that a token completes
abbrev pub punct_pull : Punct → ℕ
punct_pull Question = logical_or
punct_pull p = own_level p

abbrev pub pull : TokenKind → ℕ
pull (token.Punct p) = punct_pull p
pull _ = expression

abbrev pub on_binary : Operand → Punct → Option ℕ → Option Phase
on_binary o p None = None
on_binary o p (Some l) = Some (wants (Left p o.value o.evaluated ∷ o.stack) (evaluates_right o.evaluated p o.value))

abbrev pub on_colon : List Frame → Value → Option Phase
on_colon (Asks c e ∷ fs) v = Some (wants (Chooses c v e ∷ fs) (e && not (is_true c)))
on_colon _ v = None

abbrev pub on_close : List Frame → Value → Option Phase
on_close (Bracket e ∷ fs) v = Some (has fs e v)
on_close _ v = None

abbrev pub holds_comma : List Frame → Bool
holds_comma (Bracket e ∷ fs) = true
holds_comma (Asks c e ∷ fs) = true
holds_comma _ = false

abbrev pub on_punct : Punct → Operand → Option Phase
on_punct Question o = Some (wants (Asks o.value o.evaluated ∷ o.stack) (o.evaluated && is_true o.value))
on_punct Colon o = on_colon o.stack o.value
on_punct RightParen o = on_close o.stack o.value
on_punct Comma o = if holds_comma o.stack && not o.evaluated then Some (wants (Follows ∷ o.stack) false) else None
on_punct p o = on_binary o p (level_of p)

abbrev pub on_operator : TokenKind → Operand → Option Phase
on_operator (token.Punct p) o = on_punct p o
on_operator _ o = None

-- ---- the whole

abbrev pub step : Phase → TokenKind → Option Phase
step (wants fs e) t = on_operand fs e t
step (has fs e v) t = option_and_then (on_operator t) (reduced (pull t) fs e v)

abbrev pub whole : List Frame → Value → Option Value
whole [] v = Some v
whole _ v = None

abbrev pub alone : Operand → Option Value
alone o = whole o.stack o.value

abbrev pub finish : Phase → Option Value
finish (wants fs e) = None
finish (has fs e v) = option_and_then alone (reduced expression fs e v)

abbrev pub run : Phase → List TokenKind → Option Value
run ph [] = finish ph
run ph (t ∷ ts) = option_and_then (λ next. run next ts) (step ph t)

-- whether the line holds, none where it is no condition
abbrev pub decision : List TokenKind → Option Bool
decision ts = option_map is_true (run (wants [] true) ts)
