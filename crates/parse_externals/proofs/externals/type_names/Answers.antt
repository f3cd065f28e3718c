use Rattle.std.proofs.Common.{◌≡◌, ◌≢◌, ℕ, false, List, [], ◌∷◌, map, refl, ap, ◌∙◌, arith}
use Rattle.std.specs.Prelude.{◌==◌}
use Rattle.std.proofs.lemmas.Bool.Decides.{nat_tests}
use Rattle.parse_meaning.specs.File.{type_names}
use Rattle.parse_leaves.specs.Counts.{tally_of}
use Rattle.parse_leaves.specs.declared.tallies.Tally.{Tally}
use Rattle.parse_initialisers.specs.declared.declarations.Declared.{Declared}
use Rattle.parse_initialisers.specs.Declarations.{declared_of}
use Rattle.parse_externals.proofs.externals.type_names.Goals as goal

other_number : (m : ℕ) → m ≢ 0 → (m == 0) ≡ false
other_number m e = grind (arith, nat_tests)

names_declared : (xs : List Declared) → map (λ (one : Declared). one.name.now) xs ≡ map (λ n. n.name) (map declared_of xs)
names_declared [] = refl
names_declared (x ∷ xs) = ap (λ l. x.name.now ∷ l) (names_declared xs)

types_declared : (a : Tally) (xs : List Declared) → a.typedef ≢ 0
    → map (λ (one : Declared). one.name.now) xs ≡ type_names (tally_of a) (map declared_of xs)
types_declared a xs some = rw (other_number a.typedef some) (names_declared xs)

pub returns-in_ok-names-clause-names : goal.returns-in_ok-names-clause-names
returns-in_ok-names-clause-names c = c.in_ok-names.ensures ∙ types_declared c.args.tally c.args.declared.now c.if-tally-eq0.false
