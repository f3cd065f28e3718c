use Rattle.std.proofs.Common.{arith}
use Rattle.c_tokens.specs.declared.tokens.TokenKind.TheVariants as k
use Rattle.c_tokens.proofs.LiteralSpelling.{spells_constant}
use Rattle.c_tokens.proofs.Spelled.{spells_so}
use Rattle.c_tokens.proofs.spellings.constant.Goals as goal

pub returns-clause-spells : goal.returns-clause-spells
returns-clause-spells c =
    spells_so (λ v. v.items) c.quoted.result _ (k.CharConst c.args.b) c.quoted.ensures (spells_constant c.args.b (omega arith))
