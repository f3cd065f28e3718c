use Rattle.std.proofs.Common.{◌≡◌, ◌∙◌, ℕ, ◌+◌, ◌++◌, List, [], ◌∷◌, ap, sym, drop, rules}
use Rattle.std.specs.Option.{option_map}
use Rattle.c_layout.specs.declared.tags.Member.{Member}
use Rattle.c_layout.specs.Layouts.{tag_layout, member_layouts}
use Rattle.c_layout.specs.Capped.{offset_in, offsets_behind}
use Rattle.c_layout.proofs.Extents.{offsets_one, from_here, whole_rest}
use Rattle.c_layout.proofs.tags.Tags.offsets.Goals as goal

pub loop-index-preserved : goal.loop-index-preserved
loop-index-preserved c =
    let f = tag_layout c.args.self.now in
    let u = c.args.is_union in
    let ms = c.args.members.now in
    let m = c.index-members-index.result in
    let i = c.loop-index.index in
    let here = from_here ms i m c.loop-index-test.true c.index-members-index.is in
    let next = sym (c.in_ok-next.was {u = tt}) ∙ rw (whole_rest ms i c.loop-index-test.true) at c.place_one.ensures.next in
    let one = offsets_one f u c.loop-index.placed c.loop-index.offsets m (drop (i + 1) ms) c.in_ok-next.next next in
    let pushed : c.push.new.self ≡ c.loop-index.offsets ++ offset_in u c.in_ok-next.next ∷ [] = search rules in (
      c.loop-index.invariant.0 ∙
          ap (λ (x : List Member). option_map (λ more. c.loop-index.offsets ++ more) (option_map (offsets_behind u c.loop-index.placed) (member_layouts f x))) here ∙
          one ∙
          ap (λ (os : List ℕ). option_map (λ more. os ++ more) (option_map (offsets_behind u c.in_ok-next.next) (member_layouts f (drop (i + 1) ms)))) (sym pushed),
      c.in_ok-next.ensures.cut,
    )
