-- Cells that are copied from one object to another, while the other is taken out.
use Rattle.std.proofs.Common.{◌≡◌, ◌≢◌, ℕ, List, take, drop, set, ap, ◌∙◌}
use Rattle.std.specs.Prelude.{pos}
use Rattle.std.proofs.lemmas.List.{set-set, set_comm, set-get_or, get_or-set_other}
use Rattle.library_meaning.specs.Memory.{put}
use Rattle.object_meaning.specs.Objects.{Object, ended, object_at, with_cells, put_cells}

pub exchanged : (objs : List Object) (f t : ℕ) (x found source target new : Object) (at start n : ℕ) → t ≢ f
    → source ≡ found → found ≡ object_at objs f → target ≡ object_at (set objs f x) t
    → new ≡ with_cells target (put at (take n (drop start source.cells)) target.cells)
    → set (set (set objs f x) t new) f source ≡ put_cells objs t (pos at) (take n (drop start (object_at objs f).cells))
exchanged objs f t x found source target new at start n apart s o g w =
    let source_is : source ≡ object_at objs f = s ∙ o in
    let target_is : target ≡ object_at objs t = g ∙ get_or-set_other objs f t x ended apart in
    let new_is : new ≡ with_cells (object_at objs t) (put at (take n (drop start (object_at objs f).cells)) (object_at objs t).cells) =
    w ∙ ap (λ (y : Object). with_cells y (put at (take n (drop start source.cells)) y.cells)) target_is
    ∙ ap (λ (y : Object). with_cells (object_at objs t) (put at (take n (drop start y.cells)) (object_at objs t).cells)) source_is in
    let back : set (set objs f x) f source ≡ objs = set-set objs f x source ∙ ap (set objs f) source_is ∙ set-get_or objs f ended in
    set_comm (set objs f x) t f new source (λ e. apart e) ∙ ap (λ os. set os t new) back ∙ ap (set objs t) new_is
