-- Where an expression in a list of tokens ends, and what it is. This project's own.
use Rattle.std.specs.Prelude.{◌≤◌, ℕ, zero, suc, pred, List, [], ◌∷◌, map, Bool, true, false, if◌then◌else◌, ◌==◌, ◌&&◌}
use Rattle.c_tokens.specs.declared.puncts.Punct.TheVariants as p
use Rattle.c_tokens.specs.declared.tokens.Token.{Token}
use Rattle.c_tokens.specs.declared.tokens.TokenKind.{TokenKind}
use Rattle.c_tokens.specs.declared.tokens.TokenKind.TheVariants as kind
use Rattle.c_tree.specs.declared.nodes.Expr.{Expr}
use Rattle.c_tree.specs.Heights.{highest_tree}
use Rattle.parse_meaning.specs.Terminals.{lexeme}
use Rattle.parse_meaning.specs.Expressions.{IsExpr}
use Rattle.parse_meaning.specs.File.{Bracket, opens, closes, neither, bracket}

-- Whether a token outside brackets ends a span: `;`, `)`, `]`, `{` and `}` do, and `:` while no `?` is open. A comma
-- does too while none is, where commas end it.
abbrev pub ends : Bool → ℕ → TokenKind → Bool
ends commas questions (kind.Punct p.Semicolon) = true
ends commas questions (kind.Punct p.RightParen) = true
ends commas questions (kind.Punct p.RightBracket) = true
ends commas questions (kind.Punct p.LeftBrace) = true
ends commas questions (kind.Punct p.RightBrace) = true
ends commas questions (kind.Punct p.Colon) = questions == 0
ends commas questions (kind.Punct p.Comma) = commas && (questions == 0)
ends commas questions _ = false

-- how many are open behind a token: a `?` until its `:`, and brackets
abbrev pub questions_after : ℕ → TokenKind → ℕ
questions_after n (kind.Punct p.Question) = suc n
questions_after n (kind.Punct p.Colon) = pred n
questions_after n _ = n

abbrev pub brackets_by : ℕ → Bracket → ℕ
brackets_by n opens = suc n
brackets_by n closes = pred n
brackets_by n neither = n

abbrev pub brackets_after : ℕ → TokenKind → ℕ
brackets_after n o = brackets_by n (bracket o)

-- The tokens of a span, where so many brackets and question marks are open. It goes up to the first token that ends it,
-- or to the end of the list.
abbrev pub span : Bool → ℕ → ℕ → List Token → List Token
span commas brackets questions [] = []
span commas zero questions (o ∷ s) =
    if ends commas questions o.kind then [] else o ∷ span commas (brackets_after zero o.kind) (questions_after questions o.kind) s
span commas (suc n) questions (o ∷ s) = o ∷ span commas (brackets_after (suc n) o.kind) questions s

-- the tokens are an expression of the level, whose tree is not too high, where these are the names of types
pub record Spells (types : List (List ℕ)) (level : ℕ) (s : List Token) (x : Expr) : Type 0 where
  pub height : ℕ
  pub low : height ≤ highest_tree
  pub derives : IsExpr level (map (lexeme types) s) x height []
