-- Looking a keyword up row by row.
use Rattle.std.proofs.Common.{◌≡◌, ℕ, zero, suc, ◌+◌, ◌<◌, List, [], ◌∷◌, length, get_or, drop, false, refl, sym, ap, ◌∙◌, add-one, arith}
use Rattle.std.specs.Str.{bytes_eq}
use Rattle.parse_meaning.specs.declared.terminals.Keyword.{Keyword}
use Rattle.parse_meaning.specs.Terminals.{keyword_in}
use Rattle.parse_tokens.specs.Words.{spelling_of, rows_of}

keyword_next : (words : List Keyword) (name : List ℕ) (i : ℕ) (other : Keyword) → i < length words →
    bytes_eq (spelling_of (get_or words i other)) name ≡ false →
    keyword_in (rows_of (drop i words)) name ≡ keyword_in (rows_of (drop (suc i) words)) name
keyword_next [] name i other low e = absurd (omega arith)
keyword_next (w ∷ ws) name zero other low e = rw e refl
keyword_next (w ∷ ws) name (suc i) other low e = keyword_next ws name i other (omega arith) e

pub keyword_on : (words : List Keyword) (name : List ℕ) (i : ℕ) (other : Keyword) → i < length words →
    bytes_eq (spelling_of (get_or words i other)) name ≡ false →
    keyword_in (rows_of (drop i words)) name ≡ keyword_in (rows_of (drop (i + 1) words)) name
keyword_on words name i other low e =
    keyword_next words name i other low e ∙ ap (λ j. keyword_in (rows_of (drop j words)) name) (sym (add-one i))
