use Rattle.std.proofs.Common.{◌-◌, min, sym, ◌∙◌, ap, subst, Ok, ◌∷◌, []}
use Rattle.std.proofs.Math.Nat.{add-zero}
use Rattle.std.proofs.lemmas.Bool.{not-false}
use Rattle.library_meaning.specs.Rows.{run}
use Rattle.library_meaning.specs.Table.{appended, second_for}
use Rattle.library_meaning.specs.OnBytes.{Does, on_bytes, quiet}
use Rattle.str_chk.proofs.Shapes.{ended_is, found_ended}
use Rattle.str_chk.proofs.strncat_c.Goals as goal

pub returns : goal.returns
returns c =
    let m = c.args.mem.now in
    let head = c.in_ok-head.head in
    let args = c.args.d ∷ c.args.s ∷ c.args.n ∷ [] in
    let e = ended_is args c.args.d c.args.size head.len (λ h. appended (second_for c.args.n) c.args.size h (min c.args.n (c.args.size - h))) m (add-zero c.args.d)
    (c.in_ok-head.ensures.found ∙ ap Ok (found_ended 0 m c.args.d head (not-false _ c.if-not-head.false))) c.in_ok-head.ensures.lies.long in
    subst (λ r. Does args r m c.append.new.mem c.append.result) (sym e)
    (subst (λ z. Does args (run (on_bytes args) (appended (second_for c.args.n) c.args.size head.len z) m quiet) m c.append.new.mem c.append.result) c.min.ensures (c.append.ensures (second_for c.args.n) (c.args.n ∷ [])))
