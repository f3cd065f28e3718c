use Rattle.std.proofs.Common.{◌≡◌, min, length, replicate, sym, ap, ◌∙◌, arith}
use Rattle.std.proofs.lemmas.List.{length-replicate}
use Rattle.library_meaning.specs.Memory.{put}
use Rattle.print_chk.proofs.Stores.{replicate_cut}
use Rattle.print_chk.proofs.storing.store_fill.Goals as goal

pub returns-clause-stores : goal.returns-clause-stores
returns-clause-stores c =
    let b = c.args.byte in
    let n = c.args.count in
    let r = c.args.room in
    let long : length (replicate n b) ≡ n = length-replicate n b in
    let least : c.min-stored.result ≡ min n r.left = c.min-stored.ensures in
    record {
      stored = c.fill.ensures ∙ ap (λ k. put r.at (replicate k b) c.args.mem.now) least ∙ ap (λ z. put r.at z c.args.mem.now) (sym (replicate_cut b n r.left));
      at = omega (arith, long, least);
      left = omega (arith, long, least);
    }
