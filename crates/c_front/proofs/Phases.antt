-- The outcome of a source, phase after phase.
use Rattle.std.proofs.Common.{◌≡◌, ℕ, List, length, Result, Ok, Err, refl, sym, ap, subst, ◌∙◌}
use Rattle.fc_base.specs.declared.Level.{Level}
use Rattle.fc_base.specs.declared.Refusal.{Refusal}
use Rattle.fc_base.specs.declared.Fault.{Fault}
use Rattle.fc_base.specs.declared.Fault.TheVariants.{Refused, NoMemory}
use Rattle.c_tokens.specs.declared.Token.{Token}
use Rattle.c_tree.specs.declared.externals.FileTree.{FileTree}
use Rattle.c_lexer.specs.Lexed.{lexed}
use Rattle.fc_base.specs.Answers.{Fails}
use Rattle.macro_meaning.specs.Expansion.{Expanded, IsExpanded}
use Rattle.macro_meaning.specs.Moves.{start}
use Rattle.macro_meaning.proofs.ExpansionLaws as expansion
use Rattle.parse_meaning.specs.File.{Derives}
use Rattle.parse_reading.proofs.Uniqueness.{derives_once, derives_some}
use Rattle.c_front.specs.Front.{Front, unlexed, unexpanded, underived, accepted}

-- the outcome of tokens that were preprocessed, where this is what they derive
abbrev after_parsing : List Token → Result FileTree Refusal → Result (List Token) Refusal
after_parsing tokens (Ok file) = Ok tokens
after_parsing tokens (Err refusal) = Err refusal

abbrev after_expansion : Expanded → Result (List Token) Refusal
after_expansion (Ok tokens) = after_parsing tokens (derives_some tokens).0
after_expansion (Err refusal) = Err refusal

-- the tokens derive nothing else
derives_that : (tokens : List Token) {derived : Result FileTree Refusal} → Derives tokens derived → after_parsing tokens derived ≡ after_expansion (Ok tokens)
derives_that tokens derives = let d = derives_some tokens in ap (after_parsing tokens) (derives_once tokens _ _ derives d.1)

-- ---- there is an outcome

module _ (level : Level) (source : List ℕ) where
  derives_so : {tokens expanded : List Token} (derived : Result FileTree Refusal) → lexed source ≡ Ok tokens → IsExpanded level tokens (Ok expanded) → Derives expanded derived
      → Front level source (after_parsing expanded derived)
  derives_so (Ok file) lexes expands derives = accepted lexes expands derives
  derives_so (Err refusal) lexes expands derives = underived lexes expands derives

  expands_so : {tokens : List Token} (out : Expanded) → lexed source ≡ Ok tokens → IsExpanded level tokens out → Front level source (after_expansion out)
  expands_so (Ok expanded) lexes expands = let d = derives_some expanded in derives_so d.0 lexes expands d.1
  expands_so (Err refusal) lexes expands = unexpanded lexes expands

  pub some : (out : Result (List Token) Refusal) × Front level source out
  some = by_tokens (lexed source) refl where
    by_tokens : (r : Result (List Token) Refusal) → lexed source ≡ r → (out : Result (List Token) Refusal) × Front level source out
    by_tokens (Err refusal) e = (Err refusal, unlexed e)
    by_tokens (Ok tokens) e =
        let out = expansion.some (start level) (length tokens) tokens in
        (after_expansion out.0, expands_so out.0 e out.1)

  -- ---- and one only

  -- where the source is lexed, the outcome is what its preprocessed tokens come to
  data Comes : Result (List Token) Refusal → Type 0 where
    refused : {refusal : Refusal} → lexed source ≡ Err refusal → Comes (Err refusal)
    lexed_so : {tokens : List Token} {out : Expanded} {result : Result (List Token) Refusal} → lexed source ≡ Ok tokens → IsExpanded level tokens out
        → result ≡ after_expansion out → Comes result

  comes : {out : Result (List Token) Refusal} → Front level source out → Comes out
  comes (unlexed e) = refused e
  comes (unexpanded e expands) = lexed_so e expands refl
  comes (underived {expanded = expanded} e expands derives) = lexed_so e expands (derives_that expanded derives)
  comes (accepted {expanded = expanded} e expands derives) = lexed_so e expands (derives_that expanded derives)

  one_of : {a b : Result (List Token) Refusal} → Comes a → Comes b → a ≡ b
  one_of (refused e) (refused f) = cc
  one_of (refused e) (lexed_so f x g) = absurd (cc)
  one_of (lexed_so e x f) (refused g) = absurd (cc)
  one_of (lexed_so {tokens = tokens} {out = out} e x f) (lexed_so {tokens = tokens'} {out = out'} g y h) =
      let same : tokens' ≡ tokens = cc in
      f ∙ (ap after_expansion (expansion.one x (subst (λ ts. IsExpanded level ts out') same y)) ∙ sym h)

  pub one : {a b : Result (List Token) Refusal} → Front level source a → Front level source b → a ≡ b
  one x y = one_of (comes x) (comes y)

  -- ---- what a call answers

  pub refused_lexing : (fault : Fault) → Fails {Y = List Token} fault (λ out. lexed source ≡ out) → Fails fault (Front level source)
  refused_lexing NoMemory gives = tt
  refused_lexing (Refused refusal) gives = unlexed gives

  pub refused_expansion : {tokens : List Token} (fault : Fault) → lexed source ≡ Ok tokens → Fails fault (IsExpanded level tokens) → Fails fault (Front level source)
  refused_expansion NoMemory lexes fails = tt
  refused_expansion (Refused refusal) lexes fails = unexpanded lexes fails

  pub refused_parsing : {tokens expanded : List Token} (fault : Fault) → lexed source ≡ Ok tokens → IsExpanded level tokens (Ok expanded)
      → Fails fault (Derives expanded) → Fails fault (Front level source)
  refused_parsing NoMemory lexes expands answers = tt
  refused_parsing (Refused refusal) lexes expands derives = underived lexes expands derives
