-- A number is what its decimal digits are lexed as.
use Rattle.std.proofs.Common.{◌≡◌, ℕ, zero, suc, ◌<◌, ◌^◌, ◌==◌, true, false, not, decimal, Ok, Some, sym, ap, ◌∙◌, arith}
use Rattle.std.proofs.lemmas.Bool.Decides.{nat_tests}
use Rattle.std.proofs.lemmas.Fmt.{decimal_digit}
use Rattle.std.proofs.lemmas.List.{append-nil}
use Rattle.c_tokens.specs.declared.TokenKind.TheVariants as kind
use Rattle.c_tokens.specs.declared.Piece.TheVariants.{Token}
use Rattle.c_tokens.specs.Pieces.{spelled}
use Rattle.c_tokens.proofs.NumberSpelling.{spells_number}
use Rattle.c_lexer.specs.Lexed.{lexed}
use Rattle.c_lexer.specs.Respelled.{first_token}
use Rattle.c_lexer.proofs.LawLemmas.{spelling_read}
use Rattle.macro_meaning.specs.Definitions.{number_token}

spelled_so : (n : ℕ) → n < 2 ^ 64 → spelled false (decimal n) ≡ Some (Token (number_token n))
spelled_so zero small =
    ap (spelled false) (decimal_digit 0 (omega arith)) ∙ spells_number 0 (record { decimal = false; unsigned = false; longs = 0 }) small (omega arith) (λ e. absurd (cc))
spelled_so (suc n) small =
    let not_zero : (suc n == 0) ≡ false = grind (arith, nat_tests) in
    ap (spelled false) (sym (append-nil (decimal (suc n))))
    ∙ spells_number (suc n) (record { decimal = true; unsigned = false; longs = 0 }) small (omega arith) (λ e. omega arith)
    ∙ ap (λ zero_too. Some (Token (kind.Number (suc n) (record { decimal = not zero_too; unsigned = false; longs = 0 })))) (sym not_zero)

pub number_lexed : (n : ℕ) → n < 2 ^ 64 → lexed (decimal n) ≡ Ok (first_token (number_token n))
number_lexed n small = spelling_read (decimal n) (number_token n) (spelled_so n small)
