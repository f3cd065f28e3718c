use Rattle.std.proofs.Common.{◌≡◌, true, sym, ◌∙◌, refl, ◌∷◌, [], ltb, false}
use Rattle.std.proofs.Math.Nat.{add-zero}
use Rattle.std.proofs.lemmas.Bool.{le-ltb}
use Rattle.library_meaning.specs.Memory.{are_valid}
use Rattle.str_chk.proofs.Shapes.{strncpy_is, does_well}
use Rattle.str_chk.proofs.strncpy_c.Goals as goal

pub returns : goal.returns
returns c =
    let m = c.args.mem.now in
    let fits : ltb c.args.size c.args.n ≡ false = le-ltb _ _ c.if-n-size.false in
    let valid : are_valid c.args.d c.args.n ≡ true = sym c.is_valid.ensures ∙ c.if-not-is_valid.false in
    let lies = c.in_ok-text.ensures.lies in
    does_well (c.args.d ∷ c.args.s ∷ c.args.n ∷ []) _ m _ _ c.args.d
    (strncpy_is m c.args.d c.args.s c.args.n c.args.size c.in_ok-text.text.len _ c.requires fits c.in_ok-text.ensures.found lies.short lies.inside ∙ rw valid refl)
    (sym (add-zero c.args.d)) c.copy_and_fill.ensures
