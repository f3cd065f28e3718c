use Rattle.std.proofs.Common.{◌≡◌, ◌+◌, true, false, sym, ◌∙◌, refl, ◌∷◌, ltb, arith}
use Rattle.std.proofs.Math.Nat.{add-zero}
use Rattle.std.proofs.lemmas.Bool.{le-ltb, lt-ltb}
use Rattle.library_meaning.specs.Memory.{are_valid}
use Rattle.library_meaning.specs.declared.stops.HostStop.TheVariants as host
use Rattle.host_bytes.proofs.Endings.{does_stop}
use Rattle.str_chk.proofs.Shapes.{appended_is, does_well}
use Rattle.str_chk.proofs.append.Goals as goal

pub returns-then-k-tail : goal.returns-then-k-tail
returns-then-k-tail c touched rest =
    let m = c.args.mem.now in
    let tail = c.in-Ok.tail in
    let over : ltb c.args.size (c.args.k + tail.len + 1) ≡ true = lt-ltb c.args.size (c.args.k + tail.len + 1) (omega arith) in
    does_stop (c.args.d ∷ c.args.s ∷ rest) m m _ host.Overflow
    (appended_is touched rest m c.args.d c.args.s c.args.size c.args.k c.args.most tail.len _ c.requires.memory c.in-Ok.ensures.found c.in-Ok.ensures.lies.long ∙ rw over refl)
    refl

pub returns-then-not-is_valid : goal.returns-then-not-is_valid
returns-then-not-is_valid c touched rest =
    let m = c.args.mem.now in
    let tail = c.in-Ok.tail in
    let fits : ltb c.args.size (c.args.k + tail.len + 1) ≡ false = le-ltb c.args.size (c.args.k + tail.len + 1) (omega arith) in
    let invalid : are_valid (c.args.d + c.args.k) (tail.len + 1) ≡ false = sym c.is_valid.ensures ∙ c.if-not-is_valid.true in
    does_stop (c.args.d ∷ c.args.s ∷ rest) m m _ host.BadAddress
    (appended_is touched rest m c.args.d c.args.s c.args.size c.args.k c.args.most tail.len _ c.requires.memory c.in-Ok.ensures.found c.in-Ok.ensures.lies.long ∙ rw (fits, invalid) refl)
    refl

pub returns : goal.returns
returns c touched rest =
    let m = c.args.mem.now in
    let tail = c.in-Ok.tail in
    let fits : ltb c.args.size (c.args.k + tail.len + 1) ≡ false = le-ltb c.args.size (c.args.k + tail.len + 1) (omega arith) in
    let valid : are_valid (c.args.d + c.args.k) (tail.len + 1) ≡ true = sym c.is_valid.ensures ∙ c.if-not-is_valid.false in
    does_well (c.args.d ∷ c.args.s ∷ rest) _ m _ _ c.args.d
    (appended_is touched rest m c.args.d c.args.s c.args.size c.args.k c.args.most tail.len _ c.requires.memory c.in-Ok.ensures.found c.in-Ok.ensures.lies.long ∙ rw (fits, valid) refl)
    (sym (add-zero c.args.d)) c.copy_and_fill.ensures
