use Rattle.std.proofs.lemmas.List.{reverse-reverse}
use Rattle.c_macros.proofs.directives.add_header.Goals as goal

pub returns : goal.returns
returns c = let r = rw (c.reverse.ensures.items, reverse-reverse, c.in_ok-entries.ensures) at c.add_macros.ensures in r
