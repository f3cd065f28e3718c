-- What is spelled, as clauses say it.
use Rattle.std.proofs.Common.{◌≡◌, ℕ, suc, ◌^◌, ◌<◌, Fits, w8, List, [], ◌∷◌, get_or, Result, Ok, Err, refl, arith}
use Rattle.std.specs.Result.{IfOk}
use Rattle.c_tokens.specs.declared.tokens.TokenKind.{TokenKind}
use Rattle.c_tokens.specs.declared.tokens.TokenKind.TheVariants as k
use Rattle.c_tokens.specs.Pieces.{IsLexedKind, HasBytes, Spells}
use Rattle.c_tokens.specs.Spelling.{spelling_of}
use Rattle.c_tokens.proofs.LiteralSpelling.{AreBytes, spells_string, spells_constant, spells_header}
use Rattle.c_tokens.proofs.NumberSpelling.{spells_number}
use Rattle.c_tokens.proofs.WordSpelling.{spells_name, spells_punct}

pub spells_so : {V E : Type 0} (items : V → List ℕ) (r : Result V E) (text : List ℕ) (kind : TokenKind) → IfOk r (λ v. items v ≡ text)
    → Spells text kind → IfOk r (λ v. Spells (items v) kind)
spells_so items (Ok v) text kind e s = rw e s
spells_so items (Err f) text kind e s = tt

is_byte : (b : ℕ) → Fits w8 b → b < 2 ^ 8
is_byte b fits = omega arith

pub are_bytes : (bytes : List ℕ) → ((i : ℕ) → Fits w8 (get_or bytes i 0)) → AreBytes bytes
are_bytes [] fits = tt
are_bytes (b ∷ bs) fits = (is_byte b (fits 0), are_bytes bs (λ i. fits (suc i)))

-- each kind has its spelling
pub kind_spelled : (kind : TokenKind) → IsLexedKind kind → HasBytes kind → Spells (spelling_of kind) kind
kind_spelled (k.Name text) lexed bytes = spells_name text lexed
kind_spelled (k.Number value kind) lexed bytes = spells_number value kind lexed.0 lexed.1 lexed.2
kind_spelled (k.CharConst b) lexed bytes = spells_constant b bytes
kind_spelled (k.Str text) lexed bytes = spells_string text bytes
kind_spelled (k.Punct punct) lexed bytes = spells_punct punct
kind_spelled (k.HeaderName name) lexed bytes = spells_header name lexed
kind_spelled (k.Header header) lexed bytes = refl
