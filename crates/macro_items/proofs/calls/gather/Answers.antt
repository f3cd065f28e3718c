use Rattle.std.proofs.lemmas.List.{map_push}
use Rattle.macro_items.proofs.calls.gather.Goals as goal

pub returns-clause-found : goal.returns-clause-found
returns-clause-found c = let f = rw c.in-Some.is at c.in_ok-take_call.ensures.found in rw (c.in_ok-push-in-Some.ensures.ok, map_push) f
