use Rattle.std.proofs.Common.{true, false, sym, ◌∙◌, refl, ◌∷◌, []}
use Rattle.std.proofs.Math.Nat.{add-zero}
use Rattle.std.proofs.lemmas.Bool.{not-false}
use Rattle.library_meaning.specs.Rows.{Behind}
use Rattle.library_meaning.specs.declared.stops.HostStop.TheVariants as host
use Rattle.host_bytes.proofs.Endings.{does_giving, does_stop}
use Rattle.str_chk.proofs.Shapes.{copied_is}
use Rattle.str_chk.proofs.strcpy_c.Goals as goal

pub returns-then-not-is_valid : goal.returns-then-not-is_valid
returns-then-not-is_valid c =
    let m = c.args.mem.now in
    does_stop (c.args.d ∷ c.args.s ∷ []) m m _ host.BadAddress
    (copied_is (λ k. Behind 0 0) m c.args.d c.args.s c.args.size c.in_ok-text.text false c.in_ok-text.ensures.found c.in_ok-text.ensures.lies (not-false _ c.if-not-text.false) (sym c.is_valid.ensures ∙ c.if-not-is_valid.true)) refl

pub returns : goal.returns
returns c =
    let m = c.args.mem.now in
    does_giving (c.args.d ∷ c.args.s ∷ []) _ m _ _ (Behind 0 0) c.args.d
    (copied_is (λ k. Behind 0 0) m c.args.d c.args.s c.args.size c.in_ok-text.text true c.in_ok-text.ensures.found c.in_ok-text.ensures.lies (not-false _ c.if-not-text.false) (sym c.is_valid.ensures ∙ c.if-not-is_valid.false)) (sym (add-zero c.args.d)) c.copy.ensures
