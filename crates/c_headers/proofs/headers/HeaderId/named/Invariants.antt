use Rattle.std.proofs.Common.{◌≡◌, drop}
use Rattle.std.specs.Prelude.{find}
use Rattle.std.specs.Str.{bytes_eq}
use Rattle.c_headers.specs.Headers.{header_name, header_named}
use Rattle.c_headers.proofs.headers.HeaderId.named.Given as goal

-- the header is among those that are left, if it is there
abbrev pub invariant-loop-header : goal.invariant-loop-header
invariant-loop-header l = find (λ h. bytes_eq (header_name h) l.name) (drop l.header-index l.header-items) ≡ header_named l.name
