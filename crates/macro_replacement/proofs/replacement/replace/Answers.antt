use Rattle.macro_meaning.proofs.ReplacementLaws.{only_outcome}
use Rattle.macro_items.specs.Views.{views, table}
use Rattle.macro_replacement.proofs.Arguments.{turned}
use Rattle.macro_replacement.proofs.replacement.replace.Goals as goal

pub returns-clause-is : goal.returns-clause-is
returns-clause-is c = let r = rw (c.reverse.ensures.items, turned) at c.run.ensures.outcome in r

pub returns-clause-only : goal.returns-clause-only
returns-clause-only c =
    let r = rw (c.reverse.ensures.items, turned) at c.run.ensures.outcome in
    only_outcome (table c.args.macros.now) 0 c.args.count (views c.args.tokens.items) _ c.run.result r
