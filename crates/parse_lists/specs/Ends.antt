-- What stands behind an item of a list: whether the list ends there, and the tokens behind.
use Rattle.std.specs.Prelude.{List, ◌∷◌, Option, Some, None, Bool, true, false}
use Rattle.c_tokens.specs.declared.puncts.Punct.TheVariants as p
use Rattle.parse_meaning.specs.declared.terminals.Terminal.TheVariants as k
use Rattle.parse_meaning.specs.Terminals.{Lexeme, at}

-- parameters (C11 6.7.6)
abbrev pub params_end_at : List Lexeme → Option (Bool × List Lexeme)
params_end_at (at (k.Punct p.Comma) o ∷ t) = Some (false, t)
params_end_at (at (k.Punct p.RightParen) o ∷ t) = Some (true, t)
params_end_at _ = None

-- the declarators of members (C11 6.7.2.1)
abbrev pub declarators_end_at : List Lexeme → Option (Bool × List Lexeme)
declarators_end_at (at (k.Punct p.Comma) o ∷ t) = Some (false, t)
declarators_end_at (at (k.Punct p.Semicolon) o ∷ t) = Some (true, t)
declarators_end_at _ = None

-- the members of a structure or union (C11 6.7.2.1)
abbrev pub body_end_at : List Lexeme → Bool × List Lexeme
body_end_at (at (k.Punct p.RightBrace) o ∷ t) = (true, t)
body_end_at t = (false, t)

-- enumerators, behind the last of which a comma may stand (C11 6.7.2.2)
abbrev pub enumerators_end_at : List Lexeme → Option (Bool × List Lexeme)
enumerators_end_at (at (k.Punct p.RightBrace) o ∷ t) = Some (true, t)
enumerators_end_at (at (k.Punct p.Comma) o ∷ t) = Some (body_end_at t)
enumerators_end_at _ = None
