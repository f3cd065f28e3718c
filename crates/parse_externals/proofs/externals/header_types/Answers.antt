use Rattle.std.proofs.Common.{◌≡◌, map, sym, ap, ◌∙◌, ℕ, List}
use Rattle.std.proofs.lemmas.Simd.{map-map}
use Rattle.std.proofs.lemmas.Result.{IfOk-weaker}
use Rattle.c_headers.specs.Headers.{TypeName, type_view}
use Rattle.parse_meaning.specs.Terminals.{header_types}
use Rattle.parse_externals.proofs.externals.header_types.Goals as goal

pub returns : goal.returns
returns c =
    let types : List (List ℕ) = header_types c.args.header in
    let same : map (λ t. (type_view t).name) c.types.result.now ≡ types =
    sym (map-map (λ (t : TypeName). t.name) type_view c.types.result.now) ∙ ap (map (λ (t : TypeName). t.name)) c.types.ensures in
    IfOk-weaker c.names_of_types.result (λ names. names ≡ map (λ t. (type_view t).name) c.types.result.now) (λ names. names ≡ types)
    (λ names e. e ∙ same) c.names_of_types.ensures
