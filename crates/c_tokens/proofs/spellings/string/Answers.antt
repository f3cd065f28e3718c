use Rattle.c_tokens.specs.declared.tokens.TokenKind.TheVariants as k
use Rattle.c_tokens.proofs.LiteralSpelling.{spells_string}
use Rattle.c_tokens.proofs.Spelled.{spells_so, are_bytes}
use Rattle.c_tokens.proofs.spellings.string.Goals as goal

pub returns-clause-spells : goal.returns-clause-spells
returns-clause-spells c =
    spells_so (λ v. v.items) c.quoted.result _ (k.Str c.args.bytes.now) c.quoted.ensures
    (spells_string c.args.bytes.now (are_bytes c.args.bytes.now c.type_inv.bytes))
