use Rattle.std.proofs.Common.{◌≡◌, ◌+◌, ap, sym, ◌∙◌, [], ◌∷◌, ◌++◌, take, append_assoc}
use Rattle.std.proofs.lemmas.List.{take_more, take_all}
use Rattle.parse_meaning.specs.Terminals.{has}
use Rattle.parse_tokens.proofs.Names.{append_same, with_name_same}
use Rattle.parse_decl.proofs.file.grow.Goals as goal

pub loop-name-preserved : goal.loop-name-preserved
loop-name-preserved c = λ other.
    let old = c.args.types.now in
    let names = c.args.names.now in
    let i = c.loop-name.name-index in
    let item = c.name-item.result in
    let n = c.in_ok-from_bytes.field-0 in
    let copied : item ≡ n = sym (c.in_ok-from_bytes.ensures ∙ c.bytes.ensures) in
    let grown : take (i + 1) names ≡ take i names ++ n ∷ [] =
    take_more names i item c.loop-name-test.true ∙ ap (λ x. take i names ++ x ∷ []) (sym c.name-item.is ∙ copied) in
    let longer : (old ++ take i names) ++ n ∷ [] ≡ old ++ take (i + 1) names = append_assoc old (take i names) (n ∷ [])
    ∙ ap (λ l. old ++ l) (sym grown) in
    let added = c.in_ok-push.ensures in
    ap (λ l. has l other) added.ok ∙ with_name_same c.loop-name.types n other
    ∙ append_same c.loop-name.types (old ++ take i names) (n ∷ []) c.loop-name.invariant other ∙ ap (λ l. has l other) longer

pub returns : goal.returns
returns c = λ name. c.loop-name.invariant name ∙ ap (λ xs. has (c.args.types.now ++ xs) name) (take_all _ _ c.loop-name-test.false)
