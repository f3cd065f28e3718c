-- What is said of tokens in several places.
use Rattle.std.specs.Prelude.{ℕ, Bool, true, false}
use Rattle.c_tokens.specs.declared.puncts.Punct.TheVariants.{Hash}
use Rattle.c_tokens.specs.declared.tokens.TokenKind.{TokenKind}
use Rattle.c_tokens.specs.declared.tokens.TokenKind.TheVariants.{Punct}

-- how many tokens a source may have; this project's own
abbrev pub token_limit : ℕ
token_limit = 1000000

-- the punctuator `#`, with which a directive begins (C11 6.10p2)
abbrev pub is_hash : TokenKind → Bool
is_hash (Punct Hash) = true
is_hash _ = false
