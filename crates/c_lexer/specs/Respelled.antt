-- What a spelling is read as.
use Rattle.std.specs.Prelude.{◌≡◌, ℕ, true, false, List, [], ◌∷◌, ◌++◌, codes, Ok}
use Rattle.c_tokens.specs.declared.puncts.Punct.TheVariants as p
use Rattle.c_tokens.specs.declared.tokens.Token.{Token}
use Rattle.c_tokens.specs.declared.tokens.TokenKind.{TokenKind}
use Rattle.c_tokens.specs.declared.tokens.TokenKind.TheVariants as k
use Rattle.c_headers.specs.Headers.{header_name}
use Rattle.c_lexer.specs.Places.{place_at}
use Rattle.c_lexer.specs.Outcomes.{token_at}
use Rattle.c_lexer.specs.Lexed.{lexed}

-- the tokens of an inclusion at the start of a text
abbrev pub include_tokens : List ℕ → List Token
include_tokens name =
    token_at (place_at 1 1) true false (k.Punct p.Hash)
    ∷ token_at (place_at 1 2) false false (k.Name (codes "include"))
    ∷ token_at (place_at 1 10) false true (k.HeaderName name) ∷ []

abbrev pub first_token : TokenKind → List Token
first_token kind = token_at (place_at 1 1) true false kind ∷ []

-- The text is read as one token of the kind; a header name is so behind `#include `, and an inclusion is read as the
-- tokens of its line.
abbrev pub IsReadAs : List ℕ → TokenKind → Type 0
IsReadAs text (k.Header h) = lexed text ≡ Ok (include_tokens (header_name h))
IsReadAs text (k.HeaderName name) = lexed (codes "#include " ++ text) ≡ Ok (include_tokens name)
IsReadAs text kind = lexed text ≡ Ok (first_token kind)
