use Rattle.std.proofs.Common.{sym}
use Rattle.macro_replacement.proofs.replacement.push_hidden.Goals as goal

pub push_joined-requires : goal.push_joined-requires
push_joined-requires c = rw (c.in_ok-both.ensures, c.in_ok-own.ensures) (sym c.args.hides.now.grown)
