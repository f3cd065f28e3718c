-- What `exec` is told, by each of its parts.
use Rattle.std.proofs.Common.{◌≡◌, ◌+◌, drop, None, refl, sym, ◌∙◌}
use Rattle.fort_words.specs.Commands.{Exec, only_steps}
use Rattle.fort_words.proofs.Reading.{exec_named, exec_unnamed}
use Rattle.fort_words.proofs.commands.exec_of.Goals as goal

pub returns-in_err-image-clause-command : goal.returns-in_err-image-clause-command
returns-in_err-image-clause-command c =
    let words = c.args.words.now in
    let none : c.from_residual.result ≡ None = c.from_residual.ensures in
    rw none (exec_unnamed (drop 1 words) (drop c.steps_at-steps.result.1 words) c.steps_at-steps.ensures.rest (c.in_err-image.ensures.none refl))

pub returns-in_err-args-clause-command : goal.returns-in_err-args-clause-command
returns-in_err-args-clause-command c =
    let words = c.args.words.now in
    let steps = c.steps_at-steps.result.0 in
    let at = c.steps_at-steps.result.1 in
    let image = c.in_ok-image.image.now in
    let none : c.from_residual-in_err-args.result ≡ None = c.from_residual-in_err-args.ensures in
    rw none (sym (c.in_err-args.ensures.args (Exec (only_steps steps) image))
    ∙ exec_named (drop 1 words) (drop at words) (drop (at + 1) words) steps image c.steps_at-steps.ensures.steps c.steps_at-steps.ensures.rest
    c.in_ok-image.ensures.some.0 c.in_ok-image.ensures.some.1)

pub returns-clause-command : goal.returns-clause-command
returns-clause-command c =
    let words = c.args.words.now in
    let steps = c.steps_at-steps.result.0 in
    let at = c.steps_at-steps.result.1 in
    let image = c.in_ok-image.image.now in
    sym (c.in_ok-args.ensures.args (Exec (only_steps steps) image))
    ∙ exec_named (drop 1 words) (drop at words) (drop (at + 1) words) steps image c.steps_at-steps.ensures.steps c.steps_at-steps.ensures.rest
    c.in_ok-image.ensures.some.0 c.in_ok-image.ensures.some.1
