use Rattle.std.proofs.Common.{◌+◌, drop, refl}
use Rattle.fort_words.proofs.Reading.{names_here, second_here}
use Rattle.fort_words.proofs.parts.names_at.Goals as goal

pub returns-in_err-file-clause-none : goal.returns-in_err-file-clause-none
returns-in_err-file-clause-none c = λ none. names_here (drop c.args.at c.args.words.now) (c.in_err-file.ensures.none refl)

pub returns-in_err-image-clause-none : goal.returns-in_err-image-clause-none
returns-in_err-image-clause-none c =
    let words = c.args.words.now in
    let at = c.args.at in
    λ none. second_here (drop at words) (drop (at + 1) words) c.in_ok-file.file.now c.in_ok-file.ensures.some.1 (c.in_err-image.ensures.none refl)
