-- Where the store doesn't fail, its file is the form's image, and the machine stands at its entry.
use Rattle.std.proofs.Common.{◌≡◌, ℕ, ◌≤◌, Err, refl, ◌∙◌, ap, subst, inr, rules, arith}
use Rattle.std.proofs.lemmas.Grind.{common_steps}
use Rattle.std.proofs.lemmas.Result.{err_from_is_err_and}
use Rattle.fort_driver.specs.Compiled.{form_image}
use Rattle.fort_words.specs.Commands.{longest_source}
use Rattle.fort_driver.proofs.Kept.{told_by, compiled_as, fetch_failed, keep_failed, kept_image}
use Rattle.fort_driver.proofs.top.prepare.Goals as goal

-- the source's length, as its vector's
within : {len size : ℕ} → len ≡ size → len ≤ longest_source → size ≤ longest_source
within same bound = subst (λ n. n ≤ longest_source) same bound

pub returns-in_err-source : goal.returns-in_err-source
returns-in_err-source g c =
    let p = err_from_is_err_and c.from_residual.result c.from_residual.ensures.1 in
    let here = c.in_err-source.ensures in
    let old = told_by g.S.Store c.args.store.now in
    let fetched = told_by g.S.Store c.fetch.new.self in
    rw (p.1, p.2) (record {
      ready = tt;
      not_ready = fetch_failed c.in_err-source.field-0.0 _ old fetched here.same_files (λ is. here.too_long (ap Err is))
          (λ is. here.failed (ap Err is)) here.same_keeps;
      counts = first_of (search rules, grind (arith, common_steps));
    })

pub returns-in_err-keep : goal.returns-in_err-keep
returns-in_err-keep g c =
    let p = err_from_is_err_and c.from_residual-in_err-keep.result c.from_residual-in_err-keep.ensures.1 in
    let source = c.in_ok-source.ensures in
    let here = c.in_err-keep.ensures in
    let old = told_by g.S.Store c.args.store.now in
    let fetched = told_by g.S.Store c.fetch.new.self in
    let new = told_by g.S.Store c.keep.new.self in
    rw (p.1, p.2) (record {
      ready = tt;
      not_ready = keep_failed c.in_err-keep.field-0.0 _ old fetched new c.in_ok-form.form
          (compiled_as _ old _ _ c.in_ok-form.form source.found (within c.in_ok-source.source.ok.0 source.bound) c.deref.ensures.value
          c.in_ok-form.ensures.is) source.same_files (source.uncounted (λ failed. absurd (cc))) source.same_keeps here.others
          (λ is. here.no_memory (ap Err is)) (λ is. here.failed (ap Err is)) here.same_fetches;
      counts = first_of (search rules, grind (arith, common_steps));
    })

pub returns-in_err-machine : goal.returns-in_err-machine
returns-in_err-machine g c =
    let p = err_from_is_err_and c.from_residual-in_err-machine.result c.from_residual-in_err-machine.ensures.1 in
    let form = c.in_ok-form.form in
    let source = c.in_ok-source.ensures in
    let old = told_by g.S.Store c.args.store.now in
    let fetched = told_by g.S.Store c.fetch.new.self in
    let new = told_by g.S.Store c.keep.new.self in
    rw (p.1, p.2) (record {
      ready = tt;
      not_ready = inr (
        form_image form,
        kept_image _ old fetched new _ _ _ form refl refl source.found (within c.in_ok-source.source.ok.0 source.bound) source.same_files
            c.deref.ensures.value c.in_ok-form.ensures.is (c.deref-2.ensures.value ∙ c.in_ok-built.ensures.bytes) c.in_ok-keep.ensures.kept,
      );
      counts = first_of (search rules, grind (arith, common_steps));
    })

pub returns : goal.returns
returns g c =
    let form = c.in_ok-form.form in
    let source = c.in_ok-source.ensures in
    let old = told_by g.S.Store c.args.store.now in
    let fetched = told_by g.S.Store c.fetch.new.self in
    let new = told_by g.S.Store c.keep.new.self in
    record {
      ready = record {
        level = refl;
        sizes = refl;
        image = form_image form;
        image_kept = kept_image _ old fetched new _ _ _ form refl refl source.found (within c.in_ok-source.source.ok.0 source.bound)
            source.same_files c.deref.ensures.value c.in_ok-form.ensures.is (c.deref-2.ensures.value ∙ c.in_ok-built.ensures.bytes)
            c.in_ok-keep.ensures.kept;
        made = refl;
        opened = rw (← c.in_ok-built.ensures.image) c.in_ok-machine.ensures;
      };
      not_ready = tt;
      counts = first_of (search rules, grind (arith, common_steps));
    }
