use Rattle.std.proofs.Common.{◌≡◌, Some, true, false, sym, ap, subst, ◌∙◌}
use Rattle.c_layout.specs.declared.tags.TagDef.{TagDef}
use Rattle.elab_scope.specs.Numbers.{HasRoom, SetsNumber}
use Rattle.elab_scope.specs.Tags.{AreFound, is_new}
use Rattle.elab_scope.proofs.Positions.{unchanged_or_full, added_last, the_last, no_last}
use Rattle.elab_scope.proofs.tags.KnownTags.add.Goals as goal

pub invariant_of-self : goal.invariant_of-self
invariant_of-self c =
    let known = subst (λ name. is_new c.self.inside.added name ≡ false) c.bytes.ensures (sym c.if-not-is_new.ensures) in
    unchanged_or_full c.self.inside.tags c.add.new.self c.self.inside.given c.self.inside.added c.args.def c.add.result c.self.invariant known
    c.add.ensures.added c.add.ensures.same

pub set-requires : goal.set-requires
set-requires c =
    let went = c.in_ok-number.ensures in
    let same = the_last c.self.inside.tags c.add-2.new.self c.args.def c.in-Some.def.now c.in_ok-number.number went.number went.added c.in-Some.ensures in
    subst (HasRoom c.make_room.new.self) (c.bytes-2.ensures ∙ ap (λ (def : TagDef). def.name) (sym same) ∙ sym c.bytes-in-Some.ensures)
    c.in_ok-make_room.ensures.room

pub invariant_of-self-in-Some : goal.invariant_of-self-in-Some
invariant_of-self-in-Some c =
    let went = c.in_ok-number.ensures in
    let same = the_last c.self.inside.tags c.add-2.new.self c.args.def c.in-Some.def.now c.in_ok-number.number went.number went.added c.in-Some.ensures in
    let new = subst (λ name. is_new c.self.inside.added name ≡ true) c.bytes.ensures (sym c.if-not-is_new.ensures) in
    let named = subst (λ name. SetsNumber c.make_room.new.self c.set.new.self name (Some c.in_ok-number.number))
    (c.bytes-in-Some.ensures ∙ ap (λ (def : TagDef). def.name) same) c.set.ensures in
    let sets = subst (λ n. SetsNumber c.make_room.new.self c.set.new.self c.args.def.name (Some n)) c.in_ok-number.ensures.number named in
    subst (λ defs. AreFound defs c.self.inside.given c.set.new.self) (sym c.in_ok-number.ensures.added)
    (added_last c.self.inside.tags c.self.inside.given c.self.inside.added c.make_room.new.self c.set.new.self c.args.def c.self.invariant new
    c.in_ok-make_room.ensures.same sets)

pub invariant_of-self-in_default : goal.invariant_of-self-in_default
invariant_of-self-in_default c =
    absurd (no_last c.self.inside.tags c.add-2.new.self c.args.def c.in_ok-number.number c.in_ok-number.ensures.number c.in_ok-number.ensures.added c.in_default.ensures)
