-- The one form of source that is compiled so far, as a list of tokens. This project's own.
use Rattle.std.specs.Prelude.{◌≡◌, ℕ, ◌≤◌, List, [], ◌∷◌, codes, slice_get, Some, option_map}
use Rattle.c_tokens.specs.declared.Punct.{Punct}
use Rattle.c_tokens.specs.declared.Punct.TheVariants as punct
use Rattle.c_headers.specs.declared.headers.HeaderId.TheVariants as header
use Rattle.c_tokens.specs.declared.Token.{Token}
use Rattle.c_tokens.specs.declared.TokenKind.{TokenKind}
use Rattle.c_tokens.specs.declared.TokenKind.TheVariants as kind
use Rattle.macro_meaning.specs.Definitions.{number_token}
use Rattle.macro_meaning.specs.Origins.{kinds as kinds_of}
use Rattle.fort_forms.specs.declared.forms.Form.{Form}

-- the numbers of a form are within their bounds: the array's bytes, the byte that is set, how often, and the result
pub record IsForm (form : Form) : Type 0 where
  pub some : 1 ≤ form.size
  pub size : form.size ≤ 4096
  pub byte : form.byte ≤ 255
  pub count : form.count ≤ 65535
  pub result : form.result ≤ 255

abbrev pub name : List ℕ → TokenKind
name text = kind.Name text

abbrev pub mark : Punct → TokenKind
mark p = kind.Punct p

-- The tokens of
--     #include <string.h>
--     int main(void) { char b[SIZE]; memset(b, BYTE, COUNT); return RESULT; }
-- once the inclusion has been carried out. Each number is the token that its decimal digits are lexed as: a literal
-- without a suffix, decimal but for 0, which is octal (C11 6.4.4.1). So 0, 00 and 0x0 are one token here, and each may
-- stand for it; no other octal or hexadecimal literal is such a token.
unfoldable pub form_kinds : Form → List TokenKind
form_kinds form =
    kind.Header header.String
    ∷ name (codes "int") ∷ name (codes "main") ∷ mark punct.LeftParen ∷ name (codes "void") ∷ mark punct.RightParen ∷ mark punct.LeftBrace
    ∷ name (codes "char") ∷ name (codes "b") ∷ mark punct.LeftBracket ∷ number_token form.size ∷ mark punct.RightBracket ∷ mark punct.Semicolon
    ∷ name (codes "memset") ∷ mark punct.LeftParen ∷ name (codes "b") ∷ mark punct.Comma ∷ number_token form.byte ∷ mark punct.Comma ∷ number_token form.count
    ∷ mark punct.RightParen ∷ mark punct.Semicolon
    ∷ name (codes "return") ∷ number_token form.result ∷ mark punct.Semicolon ∷ mark punct.RightBrace ∷ []

-- how many tokens stand before `memset`
abbrev pub before_call : ℕ
before_call = 13

-- The tokens are the form's, whatever their places and flags, and its call stands where the token `memset` does.
pub record IsListOf (tokens : List Token) (form : Form) : Type 0 where
  pub kinds : kinds_of tokens ≡ form_kinds form
  pub call : option_map (λ t. t.place) (slice_get tokens before_call) ≡ Some form.call

-- the tokens are those of no form
abbrev pub HaveNoForm : List Token → Type 0
HaveNoForm tokens = (form : Form) → IsForm form → IsListOf tokens form → ⊥
