-- The punctuators of C11 6.4.6 without its digraphs, and the line that includes a header.
use Rattle.std.specs.Prelude.{ℕ, Bool, List, [], ◌∷◌, ◌++◌, codes, Option}
use Rattle.std.specs.List.{find}
use Rattle.std.specs.Str.{bytes_eq}
use Rattle.c_tokens.specs.declared.puncts.Punct.{Punct}
use Rattle.c_tokens.specs.declared.puncts.Punct.TheVariants as p
use Rattle.c_headers.specs.declared.headers.HeaderId.{HeaderId}
use Rattle.c_headers.specs.Headers.{header_name}

-- how each punctuator is spelled
abbrev pub punct_spelling : Punct → List ℕ
punct_spelling p.LeftBracket = codes "["
punct_spelling p.RightBracket = codes "]"
punct_spelling p.LeftParen = codes "("
punct_spelling p.RightParen = codes ")"
punct_spelling p.LeftBrace = codes "{"
punct_spelling p.RightBrace = codes "}"
punct_spelling p.Dot = codes "."
punct_spelling p.Arrow = codes "->"
punct_spelling p.PlusPlus = codes "++"
punct_spelling p.MinusMinus = codes "--"
punct_spelling p.Ampersand = codes "&"
punct_spelling p.Star = codes "*"
punct_spelling p.Plus = codes "+"
punct_spelling p.Minus = codes "-"
punct_spelling p.Tilde = codes "~"
punct_spelling p.Exclamation = codes "!"
punct_spelling p.Slash = codes "/"
punct_spelling p.Percent = codes "%"
punct_spelling p.ShiftLeft = codes "<<"
punct_spelling p.ShiftRight = codes ">>"
punct_spelling p.Less = codes "<"
punct_spelling p.Greater = codes ">"
punct_spelling p.LessEqual = codes "<="
punct_spelling p.GreaterEqual = codes ">="
punct_spelling p.EqualEqual = codes "=="
punct_spelling p.NotEqual = codes "!="
punct_spelling p.Caret = codes "^"
punct_spelling p.Bar = codes "|"
punct_spelling p.AndAnd = codes "&&"
punct_spelling p.OrOr = codes "||"
punct_spelling p.Question = codes "?"
punct_spelling p.Colon = codes ":"
punct_spelling p.Semicolon = codes ";"
punct_spelling p.Ellipsis = codes "..."
punct_spelling p.Assign = codes "="
punct_spelling p.StarAssign = codes "*="
punct_spelling p.SlashAssign = codes "/="
punct_spelling p.PercentAssign = codes "%="
punct_spelling p.PlusAssign = codes "+="
punct_spelling p.MinusAssign = codes "-="
punct_spelling p.ShiftLeftAssign = codes "<<="
punct_spelling p.ShiftRightAssign = codes ">>="
punct_spelling p.AmpersandAssign = codes "&="
punct_spelling p.CaretAssign = codes "^="
punct_spelling p.BarAssign = codes "|="
punct_spelling p.Comma = codes ","
punct_spelling p.Hash = codes "#"
punct_spelling p.HashHash = codes "##"

-- punctuators are the same where they are spelled alike
abbrev pub same_punct : Punct → Punct → Bool
same_punct a b = bytes_eq (punct_spelling a) (punct_spelling b)

-- all of them, as C11 6.4.6 lists them
unfoldable pub puncts : List Punct
puncts =
    p.LeftBracket ∷ p.RightBracket ∷ p.LeftParen ∷ p.RightParen ∷ p.LeftBrace ∷ p.RightBrace ∷ p.Dot ∷ p.Arrow
    ∷ p.PlusPlus ∷ p.MinusMinus ∷ p.Ampersand ∷ p.Star ∷ p.Plus ∷ p.Minus ∷ p.Tilde ∷ p.Exclamation
    ∷ p.Slash ∷ p.Percent ∷ p.ShiftLeft ∷ p.ShiftRight ∷ p.Less ∷ p.Greater ∷ p.LessEqual ∷ p.GreaterEqual ∷ p.EqualEqual
    ∷ p.NotEqual ∷ p.Caret ∷ p.Bar ∷ p.AndAnd ∷ p.OrOr
    ∷ p.Question ∷ p.Colon ∷ p.Semicolon ∷ p.Ellipsis
    ∷ p.Assign ∷ p.StarAssign ∷ p.SlashAssign ∷ p.PercentAssign ∷ p.PlusAssign ∷ p.MinusAssign ∷ p.ShiftLeftAssign
    ∷ p.ShiftRightAssign ∷ p.AmpersandAssign ∷ p.CaretAssign ∷ p.BarAssign
    ∷ p.Comma ∷ p.Hash ∷ p.HashHash ∷ []

-- the punctuator whose spelling the text is
unfoldable pub punctuator : List ℕ → Option Punct
punctuator text = find (λ punct. bytes_eq text (punct_spelling punct)) puncts

-- the line that includes a header (C11 6.10.2)
abbrev pub include_line : HeaderId → List ℕ
include_line header = codes "#include <" ++ header_name header ++ codes ">"
