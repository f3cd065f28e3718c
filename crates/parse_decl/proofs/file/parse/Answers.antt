use Rattle.std.proofs.Common.{◌≡◌, sym, ◌∙◌, rules}
use Rattle.std.specs.Result.{IsErrAnd}
use Rattle.parse_meaning.specs.File as f
use Rattle.parse_decl.proofs.FileSteps.{err_derives, derives_read}
use Rattle.parse_decl.proofs.file.parse.Goals as goal

pub returns-in-Some : goal.returns-in-Some
returns-in-Some c = rw c.refused.ensures (f.left_out (sym c.left_out_keyword.ensures ∙ c.in-Some.is))

pub returns-in-Some-deep_bracket : goal.returns-in-Some-deep_bracket
returns-in-Some-deep_bracket c =
    rw c.refused-in-Some-deep_bracket.ensures (f.deep (sym c.left_out_keyword.ensures ∙ c.in_default.is)
    (sym c.deep_bracket.ensures ∙ c.in-Some-deep_bracket.is))

pub returns-in_err-externals : goal.returns-in_err-externals
returns-in_err-externals c =
    let same : IsErrAnd c.from_residual.result (λ f. c.in_err-externals.field-0.0 ≡ f) = search rules in
    err_derives _ _ _ (sym c.left_out_keyword.ensures ∙ c.in_default.is)
    (sym c.deep_bracket.ensures ∙ c.in_default-deep_bracket.is) same c.in_err-externals.ensures

pub returns : goal.returns
returns c =
    derives_read _ _ (sym c.left_out_keyword.ensures ∙ c.in_default.is)
    (sym c.deep_bracket.ensures ∙ c.in_default-deep_bracket.is) c.in_ok-externals.ensures
