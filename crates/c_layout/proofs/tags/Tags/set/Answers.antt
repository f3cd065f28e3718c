use Rattle.std.proofs.Common.{List, ◌∙◌, ap}
use Rattle.std.specs.Prelude.{slice_set}
use Rattle.c_layout.specs.declared.tags.TagDef.{TagDef}
use Rattle.c_layout.proofs.LaidOut.{laid_out-set, definitions-set}
use Rattle.c_layout.proofs.tags.Tags.set.Goals as goal

pub invariant_of-self : goal.invariant_of-self
invariant_of-self c =
    let view = c.self.view_is in
    laid_out-set c.self.inside.entries.items c.args.tag (record { def = c.args.def; layout = c.definition_extent-layout.result; depth = c.definition_depth-depth.result; offsets = c.definition_offsets-offsets.result })
    (rw view c.requires.incomplete) c.self.invariant (rw view c.requires.sizes) (rw view c.definition_extent-layout.ensures) (rw view c.definition_depth-depth.ensures)
    (rw view c.definition_offsets-offsets.ensures)

pub returns : goal.returns
returns c =
    definitions-set c.self.inside.entries.items c.args.tag (record { def = c.args.def; layout = c.definition_extent-layout.result; depth = c.definition_depth-depth.result; offsets = c.definition_offsets-offsets.result }) ∙
    ap (λ (ds : List TagDef). slice_set ds c.args.tag c.args.def) c.self.view_is
