use Rattle.c_tokens.specs.declared.tokens.TokenKind.TheVariants as k
use Rattle.c_tokens.proofs.LiteralSpelling.{spells_header}
use Rattle.c_tokens.proofs.NumberSpelling.{spells_number}
use Rattle.c_tokens.proofs.WordSpelling.{spells_name, spells_punct}
use Rattle.c_tokens.proofs.Spelled.{spells_so}
use Rattle.c_tokens.proofs.spellings.spelling_bytes.Goals as goal

pub returns-in-Name-clause-spells : goal.returns-in-Name-clause-spells
returns-in-Name-clause-spells c =
    let named = rw c.in-Name.is at c.requires in
    rw c.in-Name.is (spells_so (λ v. v.items) c.from_slice.result _ (k.Name c.in-Name.name)
    (rw c.bytes.ensures at c.from_slice.ensures.items) (spells_name c.in-Name.name named))

pub returns-in-Number-clause-spells : goal.returns-in-Number-clause-spells
returns-in-Number-clause-spells c =
    let lexed = rw c.in-Number.is at c.requires in
    rw c.in-Number.is (spells_so (λ v. v.items) c.number.result _ (k.Number c.in-Number.value c.in-Number.kind) c.number.ensures
    (spells_number c.in-Number.value c.in-Number.kind lexed.0 lexed.1 lexed.2))

pub returns-in-Punct-clause-spells : goal.returns-in-Punct-clause-spells
returns-in-Punct-clause-spells c =
    rw c.in-Punct.is (spells_so (λ v. v.items) c.from_slice-in-Punct.result _ (k.Punct c.in-Punct.punct)
    (rw (c.as_bytes.ensures.value, c.spelling.ensures) at c.from_slice-in-Punct.ensures.items) (spells_punct c.in-Punct.punct))

pub returns-in-HeaderName-clause-spells : goal.returns-in-HeaderName-clause-spells
returns-in-HeaderName-clause-spells c =
    let lexed = rw c.in-HeaderName.is at c.requires in
    rw c.in-HeaderName.is (spells_so (λ v. v.items) c.between.result _ (k.HeaderName c.in-HeaderName.name)
    (rw c.bytes-in-HeaderName.ensures at c.between.ensures) (spells_header c.in-HeaderName.name lexed))
