use Rattle.std.proofs.Common.{◌≡◌, map, take}
use Rattle.c_layout.specs.Library.{lib_ctype}
use Rattle.c_layout.proofs.library.lib_parameters.Given as goal

abbrev pub invariant-loop-of : goal.invariant-loop-of
invariant-loop-of l = l.ctypes ≡ map lib_ctype (take l.of-index l.of-items)
