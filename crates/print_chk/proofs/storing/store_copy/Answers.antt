use Rattle.std.proofs.Common.{◌≡◌, min, length, ap, ◌∙◌, arith}
use Rattle.library_meaning.specs.Memory.{bytes_at, put}
use Rattle.host_bytes.proofs.Shapes.{length-bytes_at}
use Rattle.fd_chk.proofs.TakingRows.{valid_fewer}
use Rattle.print_chk.proofs.Stores.{bytes_front}
use Rattle.print_chk.proofs.storing.store_copy.Goals as goal

pub returns-clause-stores : goal.returns-clause-stores
returns-clause-stores c =
    let m = c.args.mem.now in
    let r = c.args.room in
    let a = c.args.from in
    let n = c.args.count in
    let long : length (bytes_at m a n) ≡ n = length-bytes_at m a n c.requires.size c.requires.from in
    let least : c.min-stored.result ≡ min n r.left = c.min-stored.ensures in
    record {
      stored = c.copy.ensures ∙ ap (λ k. put r.at (bytes_at m a k) m) least ∙ ap (λ z. put r.at z m) (bytes_front m a n r.left);
      at = omega (arith, long, least);
      left = omega (arith, long, least);
    }

pub copy-requires-clause-from : goal.copy-requires-clause-from
copy-requires-clause-from c =
    valid_fewer c.args.from c.args.count c.min-stored.result (let least : c.min-stored.result ≡ min c.args.count c.args.room.left = c.min-stored.ensures in omega arith) c.requires.from
