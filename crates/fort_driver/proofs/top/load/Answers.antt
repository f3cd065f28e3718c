-- A fetch that gave no bytes, and bytes that gave no image.
use Rattle.std.proofs.Common.{◌≡◌, ℕ, ◌≤◌, Err, ap, subst, rules, arith}
use Rattle.std.proofs.lemmas.Grind.{common_steps}
use Rattle.std.proofs.lemmas.Result.{err_from_is_err_and}
use Rattle.fort_words.specs.Commands.{longest_image, plain_exec}
use Rattle.fort_driver.proofs.Executing.{fetch_refused, read_refused}
use Rattle.fort_driver.proofs.Kept.{told_by}
use Rattle.fort_driver.proofs.top.load.Goals as goal

pub returns-in_err-bytes : goal.returns-in_err-bytes
returns-in_err-bytes g c =
    let p = err_from_is_err_and c.from_residual.result c.from_residual.ensures.1 in
    let here = c.in_err-bytes.ensures in
    let old = told_by g.S.Store c.args.store.now in
    let new = told_by g.S.Store c.fetch.new.self in
    rw (p.1, p.2) (record {
      ready = tt;
      not_ready = fetch_refused c.in_err-bytes.field-0.0 (plain_exec c.args.command.now) old new (λ is. here.too_long (ap Err is))
          (λ is. here.failed (ap Err is));
      store = first_of (search rules, grind (arith, common_steps));
    })

-- the image's length, as its vector's
within : {len size : ℕ} → len ≡ size → len ≤ longest_image → size ≤ longest_image
within same bound = subst (λ n. n ≤ longest_image) same bound

pub returns-in_err-image : goal.returns-in_err-image
returns-in_err-image g c =
    let p = err_from_is_err_and c.from_residual-in_err-image.result c.from_residual-in_err-image.ensures.1 in
    let bytes = c.in_ok-bytes.ensures in
    let here = c.in_err-image.ensures in
    let old = told_by g.S.Store c.args.store.now in
    let new = told_by g.S.Store c.fetch.new.self in
    rw (p.1, p.2) (record {
      ready = tt;
      not_ready = read_refused c.in_err-image.field-0.0 (plain_exec c.args.command.now) old new c.in_ok-bytes.bytes.items
          c.deref.result.now (record { held = bytes.found; short = within c.in_ok-bytes.bytes.ok.0 bytes.bound }) c.deref.ensures.value
          (λ found is. here.refused found (ap Err is)) (λ found is. here.none found (ap Err is));
      store = first_of (search rules, grind (arith, common_steps));
    })
