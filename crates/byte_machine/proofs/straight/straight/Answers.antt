-- One instruction after another.
use Rattle.std.proofs.Common.{length, refl}
use Rattle.bm_isa.specs.declared.instructions.Instr.TheVariants as instr
use Rattle.bm_image.specs.Images.{bounds_of}
use Rattle.byte_machine.specs.State.{Program, Window}
use Rattle.byte_machine.specs.Stack.{window}
use Rattle.byte_machine.specs.Straight.{running_at}
use Rattle.byte_machine.proofs.Steps.{call_in_code}
use Rattle.byte_machine.proofs.Stretches.{after-none, straight-more, fits_count, goes_behind, goes_elsewhere}
use Rattle.byte_machine.proofs.straight.straight.Goals.{in-Behind, in-To}
use Rattle.byte_machine.proofs.straight.straight.Goals as goal

pub loop-turn-init : goal.loop-turn-init
loop-turn-init c = record { call = c.requires.call; stays = λ a. after-none _ _ }

pub perform-requires-clause-fits : goal.perform-requires-clause-fits
perform-requires-clause-fits c =
    let program : Program = record { functions = c.args.functions.records.now; code = c.args.functions.code.now } in
    let w : Window = record (window c.args.mark c.loop-turn.registers) { at = c.loop-turn.at } in
    (bounds_of program.functions (length program.code) w.function, fits_count program w _ _ c.requires.code c.loop-turn.invariant.call refl)

pub loop-turn-preserved : goal.loop-turn-preserved
loop-turn-preserved c =
    let program : Program = record { functions = c.args.functions.records.now; code = c.args.functions.code.now } in
    let base = c.args.mark.base in
    let at = c.loop-turn.at in
    let d = instr.Const 0 0 in
    let w : Window = record (window c.args.mark c.loop-turn.registers) { at = at } in
    let bounds = bounds_of program.functions (length program.code) w.function in
    let call = c.loop-turn.invariant.call in
    let here = call_in_code program w c.requires.code call in
    let fit = fits_count program w d (length w.registers) c.requires.code call refl in
    elim c.match-perform.branch [
      | in-Behind b ↦ rw b.at-is (record {
        call = goes_behind program w _ d c.requires.code call (cc) (b.in-Behind.ensures.stays bounds fit);
        stays = λ a. straight-more program c.loop-turn.turn _ (running_at a base at c.loop-turn.registers c.loop-turn.memory c.loop-turn.slots) _ d
            refl here (b.in-Behind.ensures.leads program a at) (c.loop-turn.invariant.stays a);
      })
      | in-To b ↦ rw b.at-is (record {
        call = let place = b.in-To.ensures.stays bounds fit in goes_elsewhere program w _ _ call (cc) place.0 place.1;
        stays = λ a. straight-more program c.loop-turn.turn _ (running_at a base at c.loop-turn.registers c.loop-turn.memory c.loop-turn.slots) _ d
            refl here (b.in-To.ensures.leads program a at) (c.loop-turn.invariant.stays a);
      })
    ]
