use Rattle.parse_leaves.proofs.SpecSteps.{word_basic}
use Rattle.parse_leaves.proofs.specifiers.word_spec.Goals as goal

pub returns-in_default-clause-reads : goal.returns-in_default-clause-reads
returns-in_default-clause-reads c =
    let other = c.in_default in
    rw (word_basic c.args.word c.args.place c.args.tokens.now other.not-Typedef other.not-Extern other.not-Static other.not-Inline
    other.not-Const other.not-Attribute
    other.not-Struct other.not-Union other.not-Enum) (c.basic_spec.ensures.reads c.args.tokens.now)
