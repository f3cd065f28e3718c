use Rattle.std.proofs.Common.{◌≡◌, true, rules}
use Rattle.c_layout.proofs.KeptOffsets.{are_kept}
use Rattle.c_layout.proofs.tags.Tags.definition_offsets.Goals as goal

pub returns : goal.returns
returns c =
    let complete : c.args.def.now.complete ≡ true = search rules in
    are_kept c.args.self.now c.args.def.now complete c.offsets.result (rw c.as_slice.ensures at c.offsets.ensures)
