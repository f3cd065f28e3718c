-- What a list of tokens begins with: a text, or a directive with its line (C11 6.10p1 and p2).
use Rattle.std.specs.Prelude.{Bool, true, false, not, ◌&&◌, if◌then◌else◌, List, [], ◌∷◌, take, drop, codes}
use Rattle.std.specs.List.{prefix_len}
use Rattle.c_tokens.specs.declared.TokenKind.{TokenKind}
use Rattle.c_tokens.specs.declared.TokenKind.TheVariants as kind
use Rattle.c_tokens.specs.declared.Token.{Token}
use Rattle.c_tokens.specs.Tokens.{is_hash}
use Rattle.macro_meaning.specs.declared.words.Word.{Word}
use Rattle.macro_meaning.specs.declared.words.Word.TheVariants.{If, Ifdef, Ifndef, Elif, Else, Endif, Include, Define, Undef, Unknown}
use Rattle.macro_meaning.specs.Macros.{Name, same_name}

abbrev pub is_directive : Token → Bool
is_directive t = is_hash t.kind && t.starts_line

abbrev pub in_text : Token → Bool
in_text t = not (is_directive t)

abbrev pub in_line : Token → Bool
in_line t = not t.starts_line

pub data Part : Type 0 where
  nothing : Part
  -- the text up to the next directive, and the tokens after it
  text : List Token → List Token → Part
  -- a directive: its `#`, the further tokens of its line, and the tokens after it
  directive : Token → List Token → List Token → Part

abbrev pub text_or_directive : Bool → Token → List Token → Part
text_or_directive true t ts = directive t (take (prefix_len in_line ts) ts) (drop (prefix_len in_line ts) ts)
text_or_directive false t ts = text (take (prefix_len in_text (t ∷ ts)) (t ∷ ts)) (drop (prefix_len in_text (t ∷ ts)) (t ∷ ts))

unfoldable pub part_of : List Token → Part
part_of [] = nothing
part_of (t ∷ ts) = text_or_directive (is_directive t) t ts

-- the tokens after what a list begins with
abbrev pub rest_of : Part → List Token
rest_of nothing = []
rest_of (text now rest) = rest
rest_of (directive hash line rest) = rest

-- the word that a directive begins with, of a type that is shared with the code (src/words.rt)
abbrev pub directive_named : Name → Word
directive_named name =
    if same_name name (codes "if") then If else (
    if same_name name (codes "ifdef") then Ifdef else (
    if same_name name (codes "ifndef") then Ifndef else (
    if same_name name (codes "elif") then Elif else (
    if same_name name (codes "else") then Else else (
    if same_name name (codes "endif") then Endif else (
    if same_name name (codes "include") then Include else (
    if same_name name (codes "define") then Define else (
    if same_name name (codes "undef") then Undef else Unknown))))))))

abbrev pub directive_word : TokenKind → Word
directive_word (kind.Name name) = directive_named name
directive_word _ = Unknown
