use Rattle.std.proofs.Common.{◌≡◌, suc, ◌+◌, ◌-◌, ◌≤◌, length}
use Rattle.c_tree.specs.declared.nodes.Declarator.TheVariants as d
use Rattle.parse_meaning.specs.Terminals.{place_of}
use Rattle.parse_reading.specs.Reading as spec
use Rattle.parse_type_names.proofs.grammar.Grammar.arrays.Given as goal

abbrev pub invariant-loop-turn : goal.invariant-loop-turn
invariant-loop-turn g l = record {
  low : l.whole.height ≤ l.self.depth + 1;
  on : length l.tokens ≤ length l.fn.tokens;
  reads : spec.arrays (spec.expression l.self.depth) (suc l.self.depth) l.fn.place (length l.fn.tokens) (place_of l.fn.tokens)
      (spec.found (d.Omitted l.fn.place) 1 l.fn.tokens)
      ≡ spec.arrays (spec.expression l.self.depth) (suc l.self.depth) l.fn.place (length l.fn.tokens - l._turn) (place_of l.fn.tokens)
      (spec.found l.whole.tree l.whole.height l.tokens);
}
