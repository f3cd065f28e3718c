-- What a token is to the grammar: a keyword, the name of a type, another name, a constant, a string literal, a
-- punctuator, or an inclusion (C11 6.4).
use Rattle.std.specs.Prelude.{ℕ, List, [], ◌∷◌, map, Option, Some, None, Bool, true, false, if◌then◌else◌, codes}
use Rattle.std.specs.Str.{bytes_eq}
use Rattle.std.specs.List.{list_any}
use Rattle.fc_base.specs.declared.refusals.Place.{Place}
use Rattle.c_headers.specs.declared.headers.HeaderId.{HeaderId}
use Rattle.c_headers.specs.Headers.{header_row}
use Rattle.c_tokens.specs.declared.tokens.Token.{Token}
use Rattle.c_tokens.specs.declared.tokens.TokenKind.{TokenKind}
use Rattle.c_tokens.specs.declared.tokens.TokenKind.TheVariants as kind
use Rattle.parse_meaning.specs.declared.terminals.Keyword.{Keyword}
use Rattle.parse_meaning.specs.declared.terminals.Keyword.TheVariants as w
use Rattle.parse_meaning.specs.declared.terminals.Terminal.{Terminal}
use Rattle.parse_meaning.specs.declared.terminals.Terminal.TheVariants as k

-- a token as the grammar sees it
pub data Lexeme : Type 0 where
  at : Terminal → Token → Lexeme

-- the spellings of the keywords (C11 6.4.1; GCC manual, "Attribute Syntax" and "Object Size Checking")
abbrev pub keywords : List (List ℕ × Keyword)
keywords =
    (codes "__attribute__", w.Attribute) ∷ (codes "__builtin_dynamic_object_size", w.DynamicObjectSize)
    ∷ (codes "break", w.Break) ∷ (codes "case", w.Case) ∷ (codes "char", w.Char) ∷ (codes "const", w.Const)
    ∷ (codes "continue", w.Continue) ∷ (codes "default", w.Default) ∷ (codes "do", w.Do) ∷ (codes "else", w.Else)
    ∷ (codes "enum", w.Enum) ∷ (codes "extern", w.Extern) ∷ (codes "for", w.For) ∷ (codes "if", w.If)
    ∷ (codes "inline", w.Inline) ∷ (codes "int", w.Int) ∷ (codes "long", w.Long) ∷ (codes "restrict", w.Restrict)
    ∷ (codes "return", w.Return) ∷ (codes "short", w.Short) ∷ (codes "signed", w.Signed) ∷ (codes "sizeof", w.Sizeof)
    ∷ (codes "static", w.Static) ∷ (codes "struct", w.Struct) ∷ (codes "switch", w.Switch) ∷ (codes "typedef", w.Typedef)
    ∷ (codes "union", w.Union) ∷ (codes "unsigned", w.Unsigned) ∷ (codes "void", w.Void) ∷ (codes "while", w.While) ∷ []

-- the keyword of a spelling in a table, where it has one
abbrev pub keyword_in : List (List ℕ × Keyword) → List ℕ → Option Keyword
keyword_in [] name = None
keyword_in (row ∷ rows) name = if bytes_eq row.0 name then Some row.1 else keyword_in rows name

-- the keywords of C11 6.4.1 that the grammar leaves out
abbrev pub left_out_keywords : List (List ℕ)
left_out_keywords =
    codes "goto" ∷ codes "float" ∷ codes "double" ∷ codes "_Bool" ∷ codes "_Complex" ∷ codes "_Imaginary"
    ∷ codes "_Atomic" ∷ codes "_Thread_local" ∷ codes "_Generic" ∷ codes "_Alignas" ∷ codes "_Alignof"
    ∷ codes "_Static_assert" ∷ codes "_Noreturn" ∷ codes "volatile" ∷ codes "auto" ∷ codes "register" ∷ []

abbrev pub has : List (List ℕ) → List ℕ → Bool
has names name = list_any (λ other. bytes_eq other name) names

-- a name, where these are the names of types
abbrev pub named : List (List ℕ) → List ℕ → Option Keyword → Terminal
named types name (Some word) = k.Word word
named types name None = if has types name then k.Type else k.Name

abbrev pub terminal : List (List ℕ) → TokenKind → Terminal
terminal types (kind.Name name) = named types name (keyword_in keywords name)
terminal types (kind.Number value spelled) = k.Constant
terminal types (kind.CharConst byte) = k.Constant
terminal types (kind.Str bytes) = k.Str
terminal types (kind.Punct p) = k.Punct p
terminal types (kind.HeaderName bytes) = k.Other
terminal types (kind.Header id) = k.Header

abbrev pub lexeme : List (List ℕ) → Token → Lexeme
lexeme types token = at (terminal types token.kind) token

-- the bytes of a name or of a string literal
abbrev pub bytes_of : TokenKind → List ℕ
bytes_of (kind.Name name) = name
bytes_of (kind.Str bytes) = bytes
bytes_of _ = []

abbrev pub text_of : Token → List ℕ
text_of token = bytes_of token.kind

-- a tag or member: a name, which may be that of a type (C11 6.2.3)
abbrev pub is_tag : Terminal → Bool
is_tag k.Name = true
is_tag k.Type = true
is_tag _ = false

-- any name, a keyword too, as the name of an attribute (GCC manual, "Attribute Syntax")
abbrev pub is_word : Terminal → Bool
is_word k.Name = true
is_word k.Type = true
is_word (k.Word word) = true
is_word _ = false

-- the place of the first token, and of the file's start where there is none
abbrev pub place_of : List Lexeme → Place
place_of [] = record { line = 1; col = 1 }
place_of (at c o ∷ t) = o.place

-- the names of types that the declarations of a header make
abbrev pub header_types : HeaderId → List (List ℕ)
header_types id = map (λ t. t.name) (header_row id).types
