-- Steps of a reading that may fail, and the tokens that one wants.
use Rattle.std.proofs.Common.{◌≡◌, ℕ, ◌≤◌, List, [], ◌∷◌, Option, Some, None, Bool, true, false, refl}
use Rattle.std.specs.Prelude.{IfSome, if◌then◌else◌}
use Rattle.c_tokens.specs.declared.puncts.Punct.{Punct}
use Rattle.c_tokens.specs.declared.puncts.Punct.TheVariants as p
use Rattle.c_tokens.specs.declared.tokens.Token.{Token}
use Rattle.parse_meaning.specs.declared.terminals.Terminal.TheVariants as k
use Rattle.parse_meaning.specs.Terminals.{Lexeme, at}
use Rattle.parse_reading.specs.Reading.{Read, ◌>>=◌, after_left_paren, after_right_paren, after_left_bracket, after_right_bracket, after_comma, after_colon}

pub bind_all : {A B : Type 0} (P : A → Type 0) (Q : B → Type 0) (o : Option A) (f : A → Option B) → IfSome o P
    → ((x : A) → P x → IfSome (f x) Q) → IfSome (o >>= f) Q
bind_all P Q None f h g = tt
bind_all P Q (Some x) f h g = g x h

-- a test, whose outcome the branches know
pub if_all : {A : Type 0} (P : A → Type 0) (b : Bool) (x y : Option A) → (b ≡ true → IfSome x P) → (b ≡ false → IfSome y P)
    → IfSome (if b then x else y) P
if_all P true x y g h = g refl
if_all P false x y g h = h refl

pub weaken : {A : Type 0} (P Q : A → Type 0) (o : Option A) → IfSome o P → ((x : A) → P x → Q x) → IfSome o Q
weaken P Q None h g = tt
weaken P Q (Some x) h g = g x h

-- what a reader found is in the grammar
pub record Found {A : Type 0} (Is : List Lexeme → A → ℕ → List Lexeme → Type 0) (s : List Lexeme) (r : Read A) : Type 0 where
  pub derives : Is s r.tree r.height r.rest

-- and no higher than the limit
pub record FoundLow {A : Type 0} (Is : List Lexeme → A → ℕ → List Lexeme → Type 0) (limit : ℕ) (s : List Lexeme) (r : Read A) : Type 0 where
  pub derives : Is s r.tree r.height r.rest
  pub low : r.height ≤ limit

-- what the relation has, up to a height, a reader finds
abbrev pub Behind : Punct → List Lexeme → List Lexeme → Type 0
Behind a s t = (o : Token) × (s ≡ at (k.Punct a) o ∷ t)

pub after_left_paren_sound : (s : List Lexeme) → IfSome (after_left_paren s) (Behind p.LeftParen s)
after_left_paren_sound [] = tt
after_left_paren_sound (at (k.Punct p.LeftParen) o ∷ t) = (o, refl)
after_left_paren_sound _ = tt

pub after_right_paren_sound : (s : List Lexeme) → IfSome (after_right_paren s) (Behind p.RightParen s)
after_right_paren_sound [] = tt
after_right_paren_sound (at (k.Punct p.RightParen) o ∷ t) = (o, refl)
after_right_paren_sound _ = tt

pub after_left_bracket_sound : (s : List Lexeme) → IfSome (after_left_bracket s) (Behind p.LeftBracket s)
after_left_bracket_sound [] = tt
after_left_bracket_sound (at (k.Punct p.LeftBracket) o ∷ t) = (o, refl)
after_left_bracket_sound _ = tt

pub after_right_bracket_sound : (s : List Lexeme) → IfSome (after_right_bracket s) (Behind p.RightBracket s)
after_right_bracket_sound [] = tt
after_right_bracket_sound (at (k.Punct p.RightBracket) o ∷ t) = (o, refl)
after_right_bracket_sound _ = tt

pub after_comma_sound : (s : List Lexeme) → IfSome (after_comma s) (Behind p.Comma s)
after_comma_sound [] = tt
after_comma_sound (at (k.Punct p.Comma) o ∷ t) = (o, refl)
after_comma_sound _ = tt

pub after_colon_sound : (s : List Lexeme) → IfSome (after_colon s) (Behind p.Colon s)
after_colon_sound [] = tt
after_colon_sound (at (k.Punct p.Colon) o ∷ t) = (o, refl)
after_colon_sound _ = tt
