-- The list in the code is that of the definition.
use Rattle.std.proofs.Common.{sym, ap, arith}
use Rattle.std.specs.Option.{option_map}
use Rattle.std.proofs.lemmas.Option.{slice_get-get_or, slice_get_past}
use Rattle.c_library.specs.Library.{library}
use Rattle.c_library.proofs.numbers.call_at.Goals as goal

pub returns-then-place : goal.returns-then-place
returns-then-place c = sym (ap (option_map (λ call. (call, c.args.checked))) (slice_get-get_or library c.args.place _ (omega arith)))

pub returns-else-place : goal.returns-else-place
returns-else-place c = sym (ap (option_map (λ call. (call, c.args.checked))) (slice_get_past library c.args.place (omega arith)))
