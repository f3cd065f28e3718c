-- The bytes that were formatted are the line.
use Rattle.std.proofs.Common.{◌≡◌, [], ◌∷◌, ◌++◌, codes, decimal, ap, sym, ◌∙◌}
use Rattle.fc_base.specs.Names.{kind_name}
use Rattle.fort_words.specs.declared.outcomes.Outcome.TheVariants as outcomes
use Rattle.fort_words.specs.Outcomes.{fault_text}
use Rattle.fort_words.proofs.Lines.{undefined_line}
use Rattle.fort_words.proofs.outcomes.undefined_line.Goals as goal

pub returns : goal.returns
returns c =
    let row = decimal c.args.place.line in
    let column = decimal c.args.place.col in
    let written : c.as_bytes.result.now ≡ fault_text (outcomes.Undefined c.args.kind c.args.place) =
    c.as_bytes.ensures.value ∙ (c.in_ok-text.ensures.ok
    ∙ (ap (λ name. codes "fortc: undefined " ++ (name ++ (codes " at " ++ (row ++ (codes ":" ++ (column ++ 10 ∷ [])))))) c.name-kind.ensures
    ∙ sym (undefined_line row column (kind_name c.args.kind)))) in
    rw (← written) c.from_bytes.ensures
