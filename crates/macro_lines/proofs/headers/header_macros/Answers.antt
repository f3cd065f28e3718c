use Rattle.std.proofs.Common.{◌≡◌, map, sym, ap, ◌∙◌, List}
use Rattle.std.proofs.lemmas.Simd.{map-map}
use Rattle.std.proofs.lemmas.Result.{IfOk-weaker}
use Rattle.c_headers.specs.Headers.{macro_view}
use Rattle.macro_meaning.specs.Macros.{Name, Meaning}
use Rattle.macro_meaning.specs.Definitions.{header_macro, header_macros}
use Rattle.macro_lines.specs.Lines.{entry_views}
use Rattle.macro_lines.proofs.headers.header_macros.Goals as goal

pub returns : goal.returns
returns c =
    let macros : List (Name × Meaning) = header_macros c.args.header in
    let same : map (λ m. header_macro (macro_view m)) c.macros.result.now ≡ macros =
    sym (map-map header_macro macro_view c.macros.result.now) ∙ ap (map header_macro) c.macros.ensures in
    IfOk-weaker c.entries.result (λ v. entry_views v.items ≡ map (λ m. header_macro (macro_view m)) c.macros.result.now)
    (λ v. entry_views v.items ≡ macros) (λ v e. e ∙ same) c.entries.ensures
