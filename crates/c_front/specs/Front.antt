-- What a source comes to, phase after phase: its preprocessed tokens, or the first refusal. This project's own.
use Rattle.std.specs.Prelude.{◌≡◌, ℕ, List, Result, Ok, Err}
use Rattle.fc_base.specs.declared.Level.{Level}
use Rattle.fc_base.specs.declared.Refusal.{Refusal}
use Rattle.c_tokens.specs.declared.Token.{Token}
use Rattle.c_tree.specs.declared.externals.FileTree.{FileTree}
use Rattle.c_lexer.specs.Lexed.{lexed}
use Rattle.macro_meaning.specs.Expansion.{IsExpanded}
use Rattle.parse_meaning.specs.File.{Derives}

-- what is kept of an accepted source: its preprocessed tokens
abbrev pub Accepted : Type 0
Accepted = List Token

-- Front level source outcome: where `_FORTIFY_SOURCE` is the level. The source is lexed whole, then its tokens are
-- preprocessed whole, then what they came to is parsed whole; the phase that refuses first gives the outcome. A source
-- that no phase refuses is accepted.
pub data Front (level : Level) (source : List ℕ) : Result Accepted Refusal → Type 0 where
  unlexed : {refusal : Refusal} → lexed source ≡ Err refusal → Front level source (Err refusal)
  unexpanded : {tokens : List Token} {refusal : Refusal} → lexed source ≡ Ok tokens → IsExpanded level tokens (Err refusal)
      → Front level source (Err refusal)
  underived : {tokens expanded : List Token} {refusal : Refusal} → lexed source ≡ Ok tokens → IsExpanded level tokens (Ok expanded)
      → Derives expanded (Err refusal) → Front level source (Err refusal)
  accepted : {tokens expanded : List Token} {file : FileTree} → lexed source ≡ Ok tokens → IsExpanded level tokens (Ok expanded)
      → Derives expanded (Ok file) → Front level source (Ok expanded)
