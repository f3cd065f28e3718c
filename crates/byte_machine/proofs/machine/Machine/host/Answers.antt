-- Each call is one of those that are carried out.
use Rattle.std.proofs.Common.{◌≡◌, sym, ◌∙◌, subst, true, Option, Some, Bool}
use Rattle.c_library.specs.declared.functions.LibFn.{LibFn}
use Rattle.c_library.specs.Library.{call_of}
use Rattle.bm_image.specs.Images.{call_takes}
use Rattle.byte_machine.proofs.Moved.{moves_streams}
use Rattle.byte_machine.proofs.machine.Machine.host.Goals as goal

pub use_streams-requires-clause-uses : goal.use_streams-requires-clause-uses
use_streams-requires-clause-uses g c =
    moves_streams c.in-Some.f (sym c.is_plain.ensures ∙ c.if-is_plain.false) (sym c.acts.ensures ∙ c.if-acts.false)
    (sym c.is_variadic.ensures ∙ c.if-is_variadic.false)

pub print-requires-clause-call : goal.print-requires-clause-call
print-requires-clause-call g c =
    let is : call_of c.args.call ≡ Some (c.in-Some.f, c.in-Some.checked) = sym c.host_call.ensures ∙ c.in-Some.is in
    record {
      number = c.args.call;
      stands = c.requires.instruction;
      is = is;
      takes = subst (λ (o : Option (LibFn × Bool)). call_takes o c.args.count ≡ true) is c.requires.takes;
    }
