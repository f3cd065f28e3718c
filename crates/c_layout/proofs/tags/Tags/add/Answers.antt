use Rattle.c_layout.proofs.LaidOut.{laid_out-push}
use Rattle.c_layout.proofs.tags.Tags.add.Goals as goal

pub invariant_of-self-2 : goal.invariant_of-self-2
invariant_of-self-2 c =
    let es = c.self.inside.entries.items in
    let items = c.in_ok-push.ensures.items in
    let view = c.self.view_is in
    rw items (laid_out-push es (record { def = c.args.def; layout = c.definition_extent-layout.result; depth = c.definition_depth-depth.result; offsets = c.definition_offsets-offsets.result }) c.self.invariant (rw view c.requires) (rw view c.definition_extent-layout.ensures) (rw view c.definition_depth-depth.ensures)
    (rw view c.definition_offsets-offsets.ensures))
