-- What a `Tokens` shows: each token with what it is to the grammar, where some names are those of types.
use Rattle.std.specs.Prelude.{List, map}
use Rattle.parse_meaning.specs.Terminals.{Lexeme, lexeme}
use Rattle.parse_tokens.specs.declared.tokens.Tokens.TheInside.{Inside}

abbrev pub lexemes_of : Inside → List Lexeme
lexemes_of t = map (lexeme t.types.now) t.rest.now
