use Rattle.std.proofs.Common.{◌∷◌, [], refl, arith}
use Rattle.std.proofs.lemmas.Bool.{lt-ltb}
use Rattle.library_meaning.specs.declared.stops.HostStop.TheVariants as host
use Rattle.host_bytes.proofs.Endings.{does_stop}
use Rattle.mem_chk.proofs.memmove_c.Goals as goal

pub returns-then-n-size : goal.returns-then-n-size
returns-then-n-size c =
    does_stop (c.args.d ∷ c.args.s ∷ c.args.n ∷ []) c.args.mem.now c.args.mem.now _ host.Overflow (rw (lt-ltb c.args.size c.args.n (omega arith)) refl) refl
