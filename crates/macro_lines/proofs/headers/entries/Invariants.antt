use Rattle.std.proofs.Common.{◌≡◌, map, take}
use Rattle.c_headers.specs.Headers.{macro_view}
use Rattle.macro_meaning.specs.Definitions.{header_macro}
use Rattle.macro_lines.specs.Lines.{entry_views}
use Rattle.macro_lines.proofs.headers.entries.Given as goal

-- those so far
abbrev pub invariant-loop-m : goal.invariant-loop-m
invariant-loop-m l = entry_views l.entries.items ≡ map (λ m. header_macro (macro_view m)) (take l.m-index l.macros)
