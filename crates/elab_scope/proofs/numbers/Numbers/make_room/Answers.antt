use Rattle.std.proofs.Common.{◌≡◌, Option, Some, None, false, sym, ap, subst, ◌∙◌}
use Rattle.std.specs.Prelude.{is_some}
use Rattle.std.specs.Map.{lookup}
use Rattle.std.specs.Str.{bytes_eq}
use Rattle.indexmap.proofs.CallerLemmas.{insert_entry-new}
use Rattle.elab_scope.proofs.Lookups.{flat, same_with_room}
use Rattle.elab_scope.proofs.numbers.Numbers.make_room.Goals as goal

none_there : {A : Type 0} (r : Option A) → false ≡ is_some r → r ≡ None
none_there None e = cc
none_there (Some a) e = cc

pub returns-clause-same : goal.returns-clause-same
returns-clause-same c = λ name.
    let absent = subst (λ bytes. lookup (λ key. bytes_eq bytes key.items) c.args.self.now.map.entries ≡ None) (sym c.in_ok-key.ensures.items)
    (none_there _ c.if-contains_key.ensures) in
    ap (λ es. flat (lookup (λ key. bytes_eq name key.items) es))
    (c.in_ok-insert.ensures.entries ∙ insert_entry-new _ c.args.self.now.map c.in_ok-key.key None absent)
    ∙ same_with_room (λ key. bytes_eq name key.items) c.args.self.now.map.entries c.in_ok-key.key
