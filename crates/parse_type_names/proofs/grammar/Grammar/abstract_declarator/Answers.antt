use Rattle.std.proofs.Common.{suc, Option, sym, subst}
use Rattle.c_tree.specs.declared.nodes.Declarator.{Declarator}
use Rattle.parse_reading.specs.Reading as spec
use Rattle.parse_tokens.specs.Gives.{Gives}
use Rattle.parse_type_names.proofs.Parts.{pointer_parts, star_taken, low_behind}
use Rattle.parse_type_names.proofs.grammar.Grammar.abstract_declarator.Goals as goal

pub returns-in-Some-Punct-Star-clause-reads : goal.returns-in-Some-Punct-Star-clause-reads
returns-in-Some-Punct-Star-clause-reads g c =
    let sub = spec.expression c.args.self.now.depth in
    let seen = c.in-Some-Punct-Star.ensures.next in
    let given : Option (spec.Read Declarator) → Type 0 = λ r. Gives r c.abstract_pointer.result c.abstract_pointer.new.tokens in
    subst given
    (sym (pointer_parts sub (suc c.args.self.now.depth) c.args.place seen.0 c.args.tokens.now seen.1
    (rw (c.in-Some-Punct-Star.field-0-is, c.in-Some-Punct-Star.field-0-0-is) at seen.2))) c.abstract_pointer.ensures.reads

pub returns-in-Some-Punct-Star-clause-low : goal.returns-in-Some-Punct-Star-clause-low
returns-in-Some-Punct-Star-clause-low g c =
    let seen = c.in-Some-Punct-Star.ensures.next in
    low_behind c.args.self.now.depth c.abstract_pointer.result c.args.tokens.now
    (spec.pointer_words c.args.tokens.now).1 c.abstract_pointer.new.tokens
    (star_taken seen.0 c.args.tokens.now seen.1 (rw (c.in-Some-Punct-Star.field-0-is, c.in-Some-Punct-Star.field-0-0-is) at seen.2))
    c.abstract_pointer.ensures.low
