use Rattle.std.proofs.Common.{◌++◌, replicate, subst, arith}
use Rattle.print_texts.specs.Numbers.{sign_text}
use Rattle.print_chk.specs.Stored.{Stores}
use Rattle.print_chk.proofs.Stores.{stores_both}
use Rattle.print_chk.proofs.storing.store_padded.Goals as goal

pub returns-clause-stores : goal.returns-clause-stores
returns-clause-stores c =
    let p = c.args.padding in
    let sign = sign_text c.args.negative in
    let body = c.args.body.now in
    let a = replicate p.before 32 in
    let z = replicate p.zeros 48 in
    let e = replicate p.behind 32 in
    let r0 = c.args.room in
    let r1 = c.store_fill-signed.result in
    let r2 = c.store_bytes-padded.result in
    let r3 = c.store_fill-begun.result in
    let r4 = c.store_bytes-ended.result in
    let r5 = c.store_fill.result in
    let m0 = c.args.mem.now in
    let m1 = c.store_fill-signed.new.mem in
    let m2 = c.store_bytes-padded.new.mem in
    let m3 = c.store_fill-begun.new.mem in
    let m4 = c.store_bytes-ended.new.mem in
    let m5 = c.store_fill.new.mem in
    stores_both a (sign ++ (z ++ (body ++ e))) r0 r1 r5 m0 m1 m5 (omega arith) c.store_fill-signed.ensures.stores
    (stores_both sign (z ++ (body ++ e)) r1 r2 r5 m1 m2 m5 (omega arith) (subst (λ t. Stores t r1 m1 m2 r2) c.sign_bytes.ensures c.store_bytes-padded.ensures.stores)
    (stores_both z (body ++ e) r2 r3 r5 m2 m3 m5 (omega arith) c.store_fill-begun.ensures.stores
    (stores_both body e r3 r4 r5 m3 m4 m5 (omega arith) c.store_bytes-ended.ensures.stores c.store_fill.ensures.stores)))
