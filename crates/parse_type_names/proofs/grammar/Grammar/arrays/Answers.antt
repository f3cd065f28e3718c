use Rattle.std.proofs.Common.{◌≡◌, ◌∙◌, ℕ, suc, None, not, length, refl, rules, arith}
use Rattle.c_tree.specs.declared.nodes.Declarator.TheVariants as d
use Rattle.parse_meaning.specs.Terminals.{place_of}
use Rattle.parse_reading.specs.Reading as spec
use Rattle.parse_tokens.proofs.Turns.{one_more, no_more}
use Rattle.parse_type_names.specs.Abstracts.{with_bound}
use Rattle.parse_type_names.proofs.Bounds.{arrays_end, arrays_full, arrays_fail, arrays_go, bracket_taken}
use Rattle.parse_type_names.proofs.Keeping.{kept_gives, not_held, held}
use Rattle.parse_type_names.proofs.grammar.Grammar.arrays.Goals as goal

pub returns-then-not-take_left_bracket-clause-reads : goal.returns-then-not-take_left_bracket-clause-reads
returns-then-not-take_left_bracket-clause-reads g c =
    let whole = c.loop-turn.whole in
    let other = c.if-not-take_left_bracket.ensures.other refl in
    rw other.1
    (c.loop-turn.invariant.reads
    ∙ arrays_end (spec.expression c.args.self.now.depth) (suc c.args.self.now.depth) c.args.place
    (place_of c.args.tokens.now) whole.tree whole.height c.loop-turn.tokens _ other.0)

pub returns-in_err-whole-clause-reads : goal.returns-in_err-whole-clause-reads
returns-in_err-whole-clause-reads g c =
    let sub = spec.expression c.args.self.now.depth in
    let limit = suc c.args.self.now.depth in
    let start = place_of c.args.tokens.now in
    let all = length c.args.tokens.now in
    let whole = c.loop-turn.whole in
    let below = rw c.left-turn-end.ensures.all at c.loop-turn-test.true in
    let read = λ (m : ℕ). spec.arrays sub limit c.args.place m start (spec.found whole.tree whole.height c.loop-turn.tokens) in
    let e = one_more read all c.loop-turn._turn below c.loop-turn.invariant.reads in
    let taken = c.if-not-take_left_bracket.ensures.taken refl in
    let fails : with_bound sub limit c.place-start.result whole.tree whole.height c.take_left_bracket.new.self ≡ None
    → spec.arrays sub limit c.args.place all start (spec.found (d.Omitted c.args.place) 1 c.args.tokens.now) ≡ None =
    λ f. e ∙ arrays_fail sub limit c.args.place start whole.tree whole.height c.loop-turn.tokens _ c.take_left_bracket.new.self taken
    (rw c.place-start.ensures at f) in
    search rules

pub loop-turn-preserved : goal.loop-turn-preserved
loop-turn-preserved g c =
    let sub = spec.expression c.args.self.now.depth in
    let limit = suc c.args.self.now.depth in
    let start = place_of c.args.tokens.now in
    let whole = c.loop-turn.whole in
    let below = rw c.left-turn-end.ensures.all at c.loop-turn-test.true in
    let read = λ (m : ℕ). spec.arrays sub limit c.args.place m start (spec.found whole.tree whole.height c.loop-turn.tokens) in
    let e = one_more read (length c.args.tokens.now) c.loop-turn._turn below c.loop-turn.invariant.reads in
    let taken = c.if-not-take_left_bracket.ensures.taken refl in
    let shorter = bracket_taken c.loop-turn.tokens c.take_left_bracket.new.self taken in
    let on = c.in_ok-whole.ensures.on in
    record {
      low = c.in_ok-whole.ensures.low;
      on = omega (arith, shorter, on, c.loop-turn.invariant.on);
      reads =
          e ∙ arrays_go sub limit c.args.place start whole.tree whole.height c.loop-turn.tokens _ c.take_left_bracket.new.self _ taken
          (rw c.place-start.ensures at c.in_ok-whole.ensures.reads);
    }

pub returns-clause-reads : goal.returns-clause-reads
returns-clause-reads g c =
    let sub = spec.expression c.args.self.now.depth in
    let limit = suc c.args.self.now.depth in
    let start = place_of c.args.tokens.now in
    let all = length c.args.tokens.now in
    let whole = c.loop-turn.whole in
    let done = rw c.left-turn-end.ensures.all at c.loop-turn-test.false in
    let read = λ (m : ℕ). spec.arrays sub limit c.args.place m start (spec.found whole.tree whole.height c.loop-turn.tokens) in
    kept_gives (spec.arrays sub limit c.args.place all start (spec.found (d.Omitted c.args.place) 1 c.args.tokens.now))
    whole (not c.take_left_bracket-ends.result) c.take_left_bracket-ends.new.self c.kept.result c.kept.ensures.ok c.kept.ensures.err
    (λ t. let other = c.take_left_bracket-ends.ensures.other (not_held c.take_left_bracket-ends.result t) in
    rw other.1 (c.loop-turn.invariant.reads ∙ arrays_end sub limit c.args.place start whole.tree whole.height c.loop-turn.tokens _ other.0))
    (λ t. let taken = c.take_left_bracket-ends.ensures.taken (held c.take_left_bracket-ends.result t) in
    no_more read all c.loop-turn._turn done c.loop-turn.invariant.reads
    ∙ arrays_full sub limit c.args.place start whole.tree whole.height c.loop-turn.tokens 0 c.take_left_bracket-ends.new.self refl taken)
