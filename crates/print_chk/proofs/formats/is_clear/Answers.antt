use Rattle.std.proofs.Common.{sym}
use Rattle.print_chk.proofs.formats.is_clear.Goals as goal

pub returns-then-format : goal.returns-then-format
returns-then-format c = sym (c.requires.known c.if-format.true)
