-- The test by the end of the frame is that by the sum of the frames.
use Rattle.std.proofs.Common.{◌≡◌, ◌+◌, sym, ◌∙◌, ap}
use Rattle.std.proofs.lemmas.List.{get_or_default}
use Rattle.bm_image.specs.Images.{function_at, no_function}
use Rattle.byte_machine.specs.State.{frame_of, is_full}
use Rattle.byte_machine.specs.View.{program_in}
use Rattle.byte_machine.proofs.Steps.{function_read}
use Rattle.byte_machine.proofs.Calling.{full_by_frames, full_by_weights}
use Rattle.byte_machine.proofs.machine.Machine.is_full.Goals as goal

pub returns-then-end : goal.returns-then-end
returns-then-end c =
    let l = c.args.self.now in
    let which = function_read c.self.inside l c.args.function c.index-callee.result.now c.self.view_is c.index-callee.ensures c.requires in
    full_by_frames c.self.inside l c.index-callee.result.now c.frame_end.result c.self.view_is c.self.invariant c.frame_end.ensures c.if-end.true
    ∙ ap (λ f. is_full l.program f l.core) which

pub returns-else-end : goal.returns-else-end
returns-else-end c =
    let l = c.args.self.now in
    let which = function_read c.self.inside l c.args.function c.index-callee.result.now c.self.view_is c.index-callee.ensures c.requires in
    full_by_weights c.self.inside l c.index-callee.result.now c.frame_end.result c.self.view_is c.self.invariant c.frame_end.ensures c.if-end.false
    ∙ ap (λ f. is_full l.program f l.core) which
