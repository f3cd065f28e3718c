use Rattle.std.proofs.Common.{◌∙◌, ap, sym, arith}
use Rattle.std.specs.Str.{bytes_eq}
use Rattle.parse_tokens.proofs.Found.{keyword_on}
use Rattle.parse_tokens.proofs.words.word_among.Goals as goal

pub loop-word-preserved : goal.loop-word-preserved
loop-word-preserved c =
    c.loop-word.invariant
    ∙ keyword_on c.args.words.now c.args.name.now c.loop-word.word-index _ (omega arith)
    (ap (λ text. bytes_eq text c.args.name.now) (sym (c.as_bytes.ensures.value ∙ c.spelling.ensures)) ∙ sym c.if-eq.ensures)
