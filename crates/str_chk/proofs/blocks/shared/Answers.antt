use Rattle.std.proofs.Common.{ℕ, false, cond, eqb, length, get_or, replicate, ap, ◌∙◌, arith, w8}
use lib.Lanes.{zip2, sel_l}
use Rattle.std.proofs.lemmas.Simd.{tops_compared, length-zip2, length-sel_l, get_or-sel_l, get_or-zip2, get_or-replicate, length-replicate}
use Rattle.str_chk.proofs.blocks.shared.Goals as goal

pub returns-clause-long : goal.returns-clause-long
returns-clause-long c =
    let l = c.args.left in
    let r = c.args.right in
    let same = zip2 eqb l r in
    let is = ap (λ ms. sel_l ms l (replicate 32 0)) (tops_compared w8 eqb l r) in
    let long = length-zip2 eqb l r (omega arith) in
    ap length is ∙ omega (arith, length-sel_l same l (replicate 32 0) (omega arith) (omega (arith, length-replicate {A = ℕ} 32 0)))

pub returns-clause-each : goal.returns-clause-each
returns-clause-each c k lt =
    let l = c.args.left in
    let r = c.args.right in
    let same = zip2 eqb l r in
    let is = ap (λ ms. sel_l ms l (replicate 32 0)) (tops_compared w8 eqb l r) in
    let long = length-zip2 eqb l r (omega arith) in
    ap (λ xs. get_or xs k 0) is ∙ get_or-sel_l same l (replicate 32 0) k 0 (omega arith) (omega arith) (omega (arith, length-replicate {A = ℕ} 32 0))
    ∙ ap (λ t. cond t (get_or l k 0) (get_or (replicate 32 0) k 0)) (get_or-zip2 eqb l r k 0 0 false (omega arith) (omega arith))
    ∙ ap (λ z. cond (eqb (get_or l k 0) (get_or r k 0)) (get_or l k 0) z) (get_or-replicate 32 k 0 0 lt)
