-- What `run` is told, by each of its parts.
use Rattle.std.proofs.Common.{◌≡◌, ◌+◌, drop, None, refl, sym, ◌∙◌}
use Rattle.fort_words.specs.Commands.{Run, only_steps}
use Rattle.fort_words.proofs.Reading.{run_named, run_unnamed}
use Rattle.fort_words.proofs.commands.run_of.Goals as goal

pub returns-in_err-file-clause-command : goal.returns-in_err-file-clause-command
returns-in_err-file-clause-command c =
    let words = c.args.words.now in
    let none : c.from_residual.result ≡ None = c.from_residual.ensures in
    rw none (run_unnamed (drop 1 words) (drop c.steps_at-steps.result.1 words) c.steps_at-steps.ensures.rest (c.in_err-file.ensures.none refl))

pub returns-in_err-args-clause-command : goal.returns-in_err-args-clause-command
returns-in_err-args-clause-command c =
    let words = c.args.words.now in
    let steps = c.steps_at-steps.result.0 in
    let at = c.steps_at-steps.result.1 in
    let file = c.in_ok-file.file.now in
    let image = c.in_ok-file.image.now in
    let none : c.from_residual-in_err-args.result ≡ None = c.from_residual-in_err-args.ensures in
    rw none (sym (c.in_err-args.ensures.args (Run (only_steps steps) file image))
    ∙ run_named (drop 1 words) (drop at words) (drop (at + 2) words) steps file image c.steps_at-steps.ensures.steps c.steps_at-steps.ensures.rest c.in_ok-file.ensures.some)

pub returns-clause-command : goal.returns-clause-command
returns-clause-command c =
    let words = c.args.words.now in
    let steps = c.steps_at-steps.result.0 in
    let at = c.steps_at-steps.result.1 in
    let file = c.in_ok-file.file.now in
    let image = c.in_ok-file.image.now in
    sym (c.in_ok-args.ensures.args (Run (only_steps steps) file image))
    ∙ run_named (drop 1 words) (drop at words) (drop (at + 2) words) steps file image c.steps_at-steps.ensures.steps c.steps_at-steps.ensures.rest c.in_ok-file.ensures.some
