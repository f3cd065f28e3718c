-- A number is read where the word is its digits, and only there.
use Rattle.std.proofs.Common.{◌≡◌, ◌<◌, ◌^◌, decimal, sym, ◌∙◌, ap, arith}
use Rattle.std.proofs.lemmas.Fmt.{parse-decimal}
use Rattle.fort_words.proofs.Reading.{number_none, number_some, texts_are, texts_differ}
use Rattle.fort_words.proofs.parts.number_of.Goals as goal

pub returns-in_default : goal.returns-in_default
returns-in_default c = number_none c.args.low c.args.high c.args.word.now (λ n least most is.
    let small : n < 2 ^ 64 = omega (arith, c.ranges.high.fits, most) in
    absurd (cc (parse-decimal 64 n _ _ small small is c.parse.ensures.value.0)))

pub returns-then-ne : goal.returns-then-ne
returns-then-ne c = number_none c.args.low c.args.high c.args.word.now (λ n least most is.
    let small : n < 2 ^ 64 = omega (arith, c.ranges.high.fits, most) in
    let read : n ≡ c.in-Ok.number = cc (parse-decimal 64 n _ _ small small is c.parse.ensures.value.0) in
    absurd (texts_differ _ _ _ c.ne.ensures c.if-ne.true (c.format.ensures.text ∙ (ap decimal (sym read) ∙ sym is))))

pub returns-then-number-low : goal.returns-then-number-low
returns-then-number-low c = number_none c.args.low c.args.high c.args.word.now (λ n least most is.
    let small : n < 2 ^ 64 = omega (arith, c.ranges.high.fits, most) in
    let read : n ≡ c.in-Ok.number = cc (parse-decimal 64 n _ _ small small is c.parse.ensures.value.0) in
    grind (arith, c.then-number-low.either))

pub returns : goal.returns
returns c =
    let is = sym (texts_are _ _ _ c.ne.ensures c.if-ne.false) ∙ c.format.ensures.text in
    number_some c.args.low c.args.high c.in-Ok.number c.args.word.now (omega (arith, c.in-Ok.ensures.value.0)) is c.if-number-low.false c.if-high-number.false
