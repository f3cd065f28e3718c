use Rattle.std.proofs.Common.{◌++◌, take}
use Rattle.parse_tokens.proofs.Names.{SameNames}
use Rattle.parse_decl.proofs.file.grow.Given as goal

abbrev pub invariant-loop-name : goal.invariant-loop-name
invariant-loop-name l = SameNames l.types (l.fn.types ++ take l.name-index l.names)
