use Rattle.std.proofs.Common.{◌≡◌, ◌+◌, true, sym, ap, ◌∙◌, refl, Ok, ◌∷◌, []}
use Rattle.library_meaning.specs.Memory.{are_valid}
use Rattle.library_meaning.specs.declared.stops.HostStop.TheVariants as host
use Rattle.str_chk.proofs.Characters.{finds, leaves, reads_well, place_there, place_nowhere}
use Rattle.host_bytes.proofs.Endings.{does_stop}
use Rattle.str_chk.proofs.strchr_c.Goals as goal
use Rattle.library_meaning.specs.Rows.{answer}
use Rattle.library_meaning.specs.OnBytes.{quiet}

pub returns-then-mem-start : goal.returns-then-mem-start
returns-then-mem-start c =
    let m = c.args.mem.now in
    let valid : are_valid c.args.s 1 ≡ true = sym c.is_valid.ensures ∙ c.if-not-is_valid.false in
    let found = finds m c.args.s c.args.c c.requires valid c.in-Some.k (rw c.in-Some.is at c.memchr2.ensures) in
    reads_well (c.args.s ∷ c.args.c ∷ []) m _ _ _ (found.0 ∙ ap (λ g. Ok (answer m quiet g)) (place_there _ _ _ c.if-mem-start.true)) (ap (λ k. c.args.s + k) (sym found.1))

pub returns-else-mem-start : goal.returns-else-mem-start
returns-else-mem-start c =
    let m = c.args.mem.now in
    let valid : are_valid c.args.s 1 ≡ true = sym c.is_valid.ensures ∙ c.if-not-is_valid.false in
    let found = finds m c.args.s c.args.c c.requires valid c.in-Some.k (rw c.in-Some.is at c.memchr2.ensures) in
    reads_well (c.args.s ∷ c.args.c ∷ []) m _ _ _ (found.0 ∙ ap (λ g. Ok (answer m quiet g)) (place_nowhere _ _ _ c.if-mem-start.false)) refl

pub returns-in-None : goal.returns-in-None
returns-in-None c =
    let m = c.args.mem.now in
    let valid : are_valid c.args.s 1 ≡ true = sym c.is_valid.ensures ∙ c.if-not-is_valid.false in
    does_stop (c.args.s ∷ c.args.c ∷ []) m m _ host.BadAddress (leaves m c.args.s c.args.c c.requires valid (rw c.in-None.is at c.memchr2.ensures)) refl
