use Rattle.std.proofs.Common.{◌≡◌, drop}
use Rattle.c_headers.specs.Headers.{header_row, function_named}
use Rattle.c_headers.proofs.headers.HeaderId.function.Given as goal

-- the function is among those that are left, if it is there
abbrev pub invariant-loop-f : goal.invariant-loop-f
invariant-loop-f l = function_named (drop l.f-index l.f-items) l.name ≡ function_named (header_row l.fn.self).functions l.name
