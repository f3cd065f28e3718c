use Rattle.std.proofs.Common.{◌≡◌, suc, ◌∙◌, Option, ap, sym, subst}
use Rattle.c_tree.specs.declared.nodes.Declarator.{Declarator}
use Rattle.parse_reading.specs.Reading as spec
use Rattle.parse_tokens.specs.Gives.{Gives}
use Rattle.parse_type_names.specs.Abstracts.{group_at}
use Rattle.parse_type_names.proofs.Cursor.{rest_taken}
use Rattle.parse_type_names.proofs.Parts.{group_parts}
use Rattle.parse_type_names.proofs.grammar.Grammar.abstract_direct.Goals as goal

pub returns-in-Some-Punct-LeftParen-clause-reads : goal.returns-in-Some-Punct-LeftParen-clause-reads
returns-in-Some-Punct-LeftParen-clause-reads g c =
    let sub = spec.expression c.args.self.now.depth in
    let seen = c.in-Some-Punct-LeftParen.ensures.next in
    let opens = rw (c.in-Some-Punct-LeftParen.field-0-is, c.in-Some-Punct-LeftParen.field-0-0-is) at seen.2 in
    let rest = rest_taken c.next.result _ seen.0 c.args.tokens.now seen.1 c.next.new.self seen.2 c.next.ensures.next in
    let begins = rw seen.2 at c.place-start.ensures in
    let same : spec.abstract_direct sub (suc c.args.self.now.depth) c.args.place c.args.tokens.now
    ≡ group_at sub c.args.place c.place-start.result c.next.new.self =
    group_parts sub (suc c.args.self.now.depth) c.args.place seen.0 c.args.tokens.now seen.1 opens
    ∙ ap (λ t. group_at sub c.args.place seen.0.place t) (sym rest)
    ∙ ap (λ place. group_at sub c.args.place place c.next.new.self) (sym begins) in
    let given : Option (spec.Read Declarator) → Type 0 = λ r. Gives r c.group.result c.group.new.tokens in
    subst given (sym same) c.group.ensures.reads
