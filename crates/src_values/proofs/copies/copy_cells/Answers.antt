use Rattle.src_values.proofs.Exchanges.{exchanged}
use Rattle.src_values.proofs.copies.copy_cells.Goals as goal

pub returns-else-to-from : goal.returns-else-to-from
returns-else-to-from c =
    exchanged c.args.objects.now c.args.from.object c.args.to.object c.replace-source.new.dest c.at_mut.result.now c.replace-source.result
    c.at_mut-target.result.now c.copy_between.new.to c.args.to.start c.args.from.start c.args.count c.if-to-from.false
    c.replace-source.ensures.value c.at_mut.ensures.value c.at_mut-target.ensures.value c.copy_between.ensures
