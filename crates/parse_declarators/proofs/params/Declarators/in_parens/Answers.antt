use Rattle.std.proofs.Common.{◌≡◌, ◌≤◌, ◌<◌, suc, length, refl, ap, arith}
use Rattle.std.proofs.lemmas.Result.{IfOk-weaker}
use Rattle.parse_declarators.proofs.Openings.{paren_taken}
use Rattle.parse_declarators.proofs.params.Declarators.in_parens.Goals as goal

pub closed-requires : goal.closed-requires
closed-requires g c κs =
    let both = c.in_ok-parts.ensures.ok in
    let taken : length c.args.tokens.now ≡ suc (length c.expect_right_paren-paren.new.self) = paren_taken _ _
    (rw both.1 at c.expect_right_paren-paren.ensures) in
    let height : c.in_ok-parts.parts.1.height ≡ c.args.inner.height = ap (λ p. p.1.height) both.0 in
    ((refl, tt), (c.requires.nests, (omega (arith, taken, c.requires.few.0), omega (arith, taken, height, c.requires.few.1))))

pub returns-clause-on : goal.returns-clause-on
returns-clause-on g c =
    let taken : length c.args.tokens.now ≡ suc (length c.expect_right_paren-paren.new.self) = paren_taken _ _
    (rw c.in_ok-parts.ensures.ok.1 at c.expect_right_paren-paren.ensures) in
    IfOk-weaker c.closed.result (λ _. length c.closed.new.tokens ≤ length c.expect_right_paren-paren.new.self)
    (λ _. length c.closed.new.tokens < length c.args.tokens.now)
    (λ _ on. omega (arith, taken, on)) c.closed.ensures.on
