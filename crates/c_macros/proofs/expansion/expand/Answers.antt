use Rattle.std.proofs.Common.{length}
use Rattle.macro_meaning.specs.Moves.{start}
use Rattle.macro_meaning.proofs.ExpansionLaws.{only_expanded}
use Rattle.macro_meaning.proofs.OriginLaws.{spelled_answer}
use Rattle.c_macros.proofs.expansion.expand.Goals as goal

pub returns-clause-only : goal.returns-clause-only
returns-clause-only c =
    only_expanded (start c.args.level) (length c.args.tokens.now) c.args.tokens.now _ c.run-list.result c.run-list.ensures

pub returns-clause-kinds : goal.returns-clause-kinds
returns-clause-kinds c = λ h. spelled_answer c.args.level c.args.tokens.now (λ v. v.items) c.run-list.result c.run-list.ensures h
