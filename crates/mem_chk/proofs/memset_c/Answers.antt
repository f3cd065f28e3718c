use Rattle.std.proofs.Common.{◌≡◌, ◌%◌, ◌∷◌, [], true, refl, sym, ◌∙◌, arith}
use Rattle.std.proofs.Math.Nat.{add-zero}
use Rattle.std.proofs.lemmas.Bool.{le-ltb}
use Rattle.std.proofs.lemmas.List.{length-replicate}
use Rattle.library_meaning.specs.Memory.{are_valid}
use Rattle.library_meaning.specs.Rows.{Behind}
use Rattle.host_bytes.proofs.Endings.{does_giving}
use Rattle.mem_chk.proofs.memset_c.Goals as goal

pub returns : goal.returns
returns c =
    let valid : are_valid c.args.d c.args.n ≡ true = sym c.is_valid.ensures ∙ c.if-not-is_valid.false in
    does_giving (c.args.d ∷ c.args.c ∷ c.args.n ∷ []) _ c.args.mem.now _ _ (Behind 0 0) c.args.d
    (rw (le-ltb c.args.size c.args.n (omega arith), add-zero c.args.d, length-replicate c.args.n (c.args.c % 256), valid) refl)
    (sym (add-zero c.args.d)) c.fill.ensures
