use Rattle.std.proofs.Common.{ap, ◌∙◌}
use Rattle.std.specs.Map.{lookup}
use Rattle.std.specs.Str.{bytes_eq}
use Rattle.elab_scope.proofs.Lookups.{flat, number_set}
use Rattle.elab_scope.proofs.numbers.Numbers.set.Goals as goal

pub returns-in-Some : goal.returns-in-Some
returns-in-Some c = λ other.
    ap (λ es. flat (lookup (λ key. bytes_eq other key.items) es)) (c.get_mut.follows.holds c.args.number).0
    ∙ number_set (λ key. key.items) c.args.name.now other c.args.self.now.map.entries c.args.number c.requires
