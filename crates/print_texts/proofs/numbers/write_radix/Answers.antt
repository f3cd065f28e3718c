use Rattle.std.proofs.Common.{◌≡◌, ◌∷◌, ◌+◌, ◌-◌, ◌/◌, drop, sym, ap, ◌∙◌, arith}
use Rattle.std.proofs.lemmas.List.{drop-set, drop_all, length-set}
use Rattle.print_texts.specs.Numbers.{unwritten}
use Rattle.print_texts.proofs.Radix.{begun, fits, last, more, some_left}
use Rattle.print_texts.proofs.numbers.write_radix.Goals as goal

pub loop-left-init : goal.loop-left-init
loop-left-init c = record {
  some = omega arith;
  inside = omega arith;
  size = c.requires.size;
  small = omega arith;
  is = begun c.args.base 22 c.args.value c.args.upper (drop 22 c.args.room.now) (omega arith) (drop_all 22 c.args.room.now (omega (arith, c.requires.size)));
}

pub returns-then-left-eq0-clause-digits : goal.returns-then-left-eq0-clause-digits
returns-then-left-eq0-clause-digits c =
    let room = c.loop-left.room in
    let at = c.loop-left.at in
    let back : at - 1 + 1 ≡ at = omega arith in
    drop-set room (at - 1) c.digit.result (omega arith) ∙ ap (λ k. c.digit.result ∷ drop k room) back ∙ ap (λ g. g ∷ drop at room) c.digit.ensures
    ∙ sym (last c.args.base c.loop-left.left c.args.upper (drop at room) at c.loop-left.invariant.some c.if-left-eq0.true) ∙ c.loop-left.invariant.is

pub loop-left-preserved : goal.loop-left-preserved
loop-left-preserved c =
    let room = c.loop-left.room in
    let at = c.loop-left.at in
    let left = c.loop-left.left in
    let base = c.args.base in
    let back : at - 1 + 1 ≡ at = omega arith in
    let small = fits base at left c.requires.base.0 c.loop-left.invariant.some c.loop-left.invariant.small in
    record {
      some = some_left (at - 1) (left / base) small c.if-left-eq0.false;
      inside = omega arith;
      size = length-set room (at - 1) c.digit.result ∙ c.loop-left.invariant.size;
      small = small;
      is = ap (unwritten base c.args.upper (at - 1) (left / base)) (drop-set room (at - 1) c.digit.result (omega arith) ∙ ap (λ k. c.digit.result ∷ drop k room) back ∙ ap (λ g. g ∷ drop at room) c.digit.ensures)
          ∙ sym (more base left c.args.upper (drop at room) at c.loop-left.invariant.some c.if-left-eq0.false) ∙ c.loop-left.invariant.is;
    }
