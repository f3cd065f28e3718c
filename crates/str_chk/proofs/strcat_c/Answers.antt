use Rattle.std.proofs.Common.{◌-◌, sym, ◌∙◌, ap, subst, Ok, ◌∷◌, []}
use Rattle.std.proofs.Math.Nat.{add-zero}
use Rattle.std.proofs.lemmas.Bool.{not-false}
use Rattle.library_meaning.specs.Table.{appended, pointers}
use Rattle.library_meaning.specs.OnBytes.{Does}
use Rattle.str_chk.proofs.Shapes.{ended_is, found_ended}
use Rattle.str_chk.proofs.strcat_c.Goals as goal

pub returns : goal.returns
returns c =
    let m = c.args.mem.now in
    let head = c.in_ok-head.head in
    let e = ended_is (c.args.d ∷ c.args.s ∷ []) c.args.d c.args.size head.len (λ h. appended pointers c.args.size h (c.args.size - h)) m (add-zero c.args.d)
    (c.in_ok-head.ensures.found ∙ ap Ok (found_ended 0 m c.args.d head (not-false _ c.if-not-head.false))) c.in_ok-head.ensures.lies.long in
    subst (λ r. Does (c.args.d ∷ c.args.s ∷ []) r m c.append.new.mem c.append.result) (sym e) (c.append.ensures pointers [])
