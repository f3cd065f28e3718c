use Rattle.std.proofs.Common.{◌++◌, replicate, subst, arith}
use Rattle.library_meaning.specs.Memory.{bytes_at}
use Rattle.print_chk.specs.Stored.{Stores}
use Rattle.print_chk.proofs.Kept.{stored_apart}
use Rattle.print_chk.proofs.Stores.{stores_both}
use Rattle.print_chk.proofs.storing.store_string.Goals as goal

pub returns-clause-stores : goal.returns-clause-stores
returns-clause-stores c =
    let p = c.args.padding in
    let a = replicate p.before 32 in
    let z = replicate p.zeros 48 in
    let body = bytes_at c.args.mem.now c.args.from c.args.count in
    let e = replicate p.behind 32 in
    let r0 = c.args.room in
    let r1 = c.store_fill-spaced.result in
    let r2 = c.store_fill-begun.result in
    let r3 = c.store_copy-ended.result in
    let r4 = c.store_fill.result in
    let m0 = c.args.mem.now in
    let m1 = c.store_fill-spaced.new.mem in
    let m2 = c.store_fill-begun.new.mem in
    let m3 = c.store_copy-ended.new.mem in
    let m4 = c.store_fill.new.mem in
    let front = stores_both a z r0 r1 r2 m0 m1 m2 (omega arith) c.store_fill-spaced.ensures.stores c.store_fill-begun.ensures.stores in
    let same = stored_apart (a ++ z) r0 r2 m0 m2 c.args.from c.args.count (omega arith) front c.requires.apart in
    stores_both a (z ++ (body ++ e)) r0 r1 r4 m0 m1 m4 (omega arith) c.store_fill-spaced.ensures.stores
    (stores_both z (body ++ e) r1 r2 r4 m1 m2 m4 (omega arith) c.store_fill-begun.ensures.stores
    (stores_both body e r2 r3 r4 m2 m3 m4 (omega arith) (subst (λ t. Stores t r2 m2 m3 r3) same c.store_copy-ended.ensures.stores) c.store_fill.ensures.stores))
