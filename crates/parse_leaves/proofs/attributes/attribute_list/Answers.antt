use Rattle.parse_reading.specs.Reading as spec
use Rattle.parse_tokens.specs.Gives.{GivesPart}
use Rattle.parse_leaves.proofs.Lengths.{attribute_list_shorter, part_given}
use Rattle.parse_leaves.proofs.attributes.attribute_list.Goals as goal

pub returns-clause-on : goal.returns-clause-on
unfolding spec.attribute_list
returns-clause-on c =
    let reads : GivesPart (spec.attribute_list c.args.tokens.now) c.attributes_within.result c.attributes_within.new.tokens =
    rw (c.in_ok-expect_left_paren.ensures, c.in_ok-expect_left_paren-2.ensures) c.attributes_within.ensures in
    part_given (spec.attribute_list c.args.tokens.now) c.attributes_within.result c.args.tokens.now c.attributes_within.new.tokens reads
    (attribute_list_shorter c.args.tokens.now)
