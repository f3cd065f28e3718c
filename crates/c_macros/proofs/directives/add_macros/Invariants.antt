use Rattle.std.proofs.Common.{◌≡◌, reverse, vec_len}
use Rattle.macro_meaning.specs.Moves.{with_definitions}
use Rattle.macro_items.specs.Views.{table}
use Rattle.macro_lines.specs.Lines.{entry_views}
use Rattle.c_macros.proofs.directives.add_macros.Given as goal

abbrev pub invariant-loop-name : goal.invariant-loop-name
invariant-loop-name l =
    with_definitions (entry_views (reverse l.entries.items)) (table l.macros) ≡ with_definitions
    (entry_views (reverse l.initial.entries.items)) (table l.initial.macros)

abbrev pub decreases-loop-name : goal.decreases-loop-name
decreases-loop-name l = vec_len l.entries
