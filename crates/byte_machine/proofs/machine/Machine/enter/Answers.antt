-- There is room for the call, and the machine is runnable in it.
use Rattle.std.proofs.Common.{◌+◌, refl, sym, ◌∙◌, ap}
use Rattle.byte_machine.specs.State.{frame_of}
use Rattle.byte_machine.proofs.Steps.{function_in, function_there}
use Rattle.byte_machine.proofs.Calling.{has_room, entered_runnable, given_length}
use Rattle.byte_machine.proofs.machine.Machine.enter.Goals as goal

pub enter-requires-clause-room : goal.enter-requires-clause-room
enter-requires-clause-room c =
    let m = c.self.inside in
    let which = function_in m c.args.self.now c.args.function c.index-callee.result.now c.self.view_is c.index-callee.ensures c.requires.there in
    (has_room m c.args.self.now c.args.function c.index-callee.result.now c.self.view_is c.self.invariant c.requires which).callers

pub enter-requires-clause-registers : goal.enter-requires-clause-registers
enter-requires-clause-registers c =
    let m = c.self.inside in
    let which = function_in m c.args.self.now c.args.function c.index-callee.result.now c.self.view_is c.index-callee.ensures c.requires.there in
    (has_room m c.args.self.now c.args.function c.index-callee.result.now c.self.view_is c.self.invariant c.requires which).registers

pub invariant_of-self : goal.invariant_of-self
invariant_of-self c =
    let m = c.self.inside in
    let which = function_in m c.args.self.now c.args.function c.index-callee.result.now c.self.view_is c.index-callee.ensures c.requires.there in
    entered_runnable m c.args.self.now c.args.function _ c.index-callee.result.now _ _ c.self.view_is c.self.invariant c.requires which
    c.enter.ensures refl refl
    (c.frame_end-base.ensures ∙ sym (ap (λ x. x.core.running.base + frame_of x.program x.core.running) c.self.view_is))
    (given_length m c.index-callee.result.now c.args.function c.self.invariant which c.self.told (function_there m c.args.self.now c.args.function c.self.view_is c.requires.there)) refl
