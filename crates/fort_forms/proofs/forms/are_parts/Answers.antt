-- One token and one part are compared, and then the rest.
use Rattle.std.proofs.Common.{◌≡◌, ℕ, ◌<◌, false, List, length, get_or, drop, map, refl, sym, ◌∙◌, drop-cons, arith}
use Rattle.c_tokens.specs.declared.Token.{Token}
use Rattle.macro_meaning.specs.Sameness.{same_kind}
use Rattle.fort_forms.specs.declared.forms.Expected.{Expected}
use Rattle.macro_meaning.specs.Origins.{kinds as kinds_of}
use Rattle.fort_forms.specs.Reading.{part_kind, same_kinds}
use Rattle.fort_forms.proofs.forms.are_parts.Goals as goal

-- a token that isn't its part, so that the rest isn't the rest of the parts
differs : (tokens : List Token) (parts : List Expected) (i : ℕ) (token : Token) (part : Expected) → i < length tokens → i < length parts
    → same_kind (get_or tokens i token).kind (part_kind (get_or parts i part)) ≡ false → same_kinds (kinds_of (drop i tokens)) (map part_kind (drop i parts)) ≡ false
differs tokens parts i token part l m e = rw (drop-cons tokens i token l, drop-cons parts i part m, e) refl

pub returns-then-not-is : goal.returns-then-not-is
returns-then-not-is c =
    sym (sym c.loop-i.invariant
    ∙ differs c.args.tokens.now c.args.parts.now c.loop-i.i c.index-tokens-i.result _ (omega arith) (omega arith) (sym c.is.ensures ∙ c.if-not-is.true))
