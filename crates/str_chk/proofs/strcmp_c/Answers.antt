use Rattle.std.proofs.Common.{◌≡◌, false, sym, ◌∙◌, refl, inl, inr, ◌∷◌, []}
use Rattle.library_meaning.specs.Memory.{are_valid}
use Rattle.library_meaning.specs.declared.stops.HostStop.TheVariants as host
use Rattle.host_bytes.proofs.Endings.{does_stop}
use Rattle.str_chk.proofs.Compares.{no_bytes, strcmp_stops}
use Rattle.str_chk.proofs.strcmp_c.Goals as goal

pub returns-then-not-is_valid : goal.returns-then-not-is_valid
returns-then-not-is_valid c =
    let m = c.args.mem.now in
    let bad : are_valid c.args.a 1 ≡ false = sym c.is_valid.ensures ∙ c.if-not-is_valid.true in
    does_stop (c.args.a ∷ c.args.b ∷ []) m m _ host.BadAddress (strcmp_stops m c.args.a c.args.b (inl (no_bytes m c.args.a c.requires bad))) refl

pub returns-then-not-is_valid-2 : goal.returns-then-not-is_valid-2
returns-then-not-is_valid-2 c =
    let m = c.args.mem.now in
    let bad : are_valid c.args.b 1 ≡ false = sym c.is_valid-2.ensures ∙ c.if-not-is_valid-2.true in
    does_stop (c.args.a ∷ c.args.b ∷ []) m m _ host.BadAddress (strcmp_stops m c.args.a c.args.b (inr (no_bytes m c.args.b c.requires bad))) refl
