use Rattle.std.proofs.Common.{◌≡◌, ◌≢◌, ◌+◌, ◌-◌, [], ◌∷◌, ◌++◌, drop, length, refl, sym, ap, ◌∙◌}
use Rattle.std.specs.Prelude.{Err}
use Rattle.fc_base.specs.declared.refusals.Place.{Place}
use Rattle.parse_meaning.specs.Terminals.{has}
use Rattle.parse_meaning.specs.File.{Declarations}
use Rattle.parse_reading.specs.ReadingFile.{NamedExternal, file, highest_part}
use Rattle.parse_tokens.specs.declared.faults.ParseFault.TheVariants as fault
use Rattle.parse_tokens.proofs.Names.{SameNames}
use Rattle.parse_tokens.proofs.Turns.{one_more, no_more}
use Rattle.parse_decl.proofs.FileSteps.{behind_all, file_alike, file_end, file_refused, file_goes, file_over}
use Rattle.parse_decl.proofs.file.declarations.Goals as goal

abbrev at : Place → Declarations
at place = Err place

pub returns-in_default : goal.returns-in_default
returns-in_default c =
    let e = one_more (λ n. behind_all c.loop-turn.found (file highest_part n c.loop-turn.types c.loop-turn.rest.now)) _ c.loop-turn._turn
    c.loop-turn-test.true c.loop-turn.invariant in
    rw c.finish.ensures (e ∙ file_end highest_part _ _ _ _ c.in_default.ensures)

pub returns-in-Err-NoDerivation : goal.returns-in-Err-NoDerivation
returns-in-Err-NoDerivation c =
    let e = one_more (λ n. behind_all c.loop-turn.found (file highest_part n c.loop-turn.types c.loop-turn.rest.now)) _ c.loop-turn._turn
    c.loop-turn-test.true c.loop-turn.invariant in
    let first = c.in-Some.ensures in
    let other : c.in-Err-NoDerivation.field-0 ≢ fault.NoMemory = λ is. let both : fault.NoDerivation
    ≡ fault.NoMemory = sym c.in-Err-NoDerivation.field-0-is ∙ is in cc in
    rw c.refused.ensures (
      refl,
      e ∙ file_refused highest_part _ _ _ first.0 first.1 _ first.2 (c.in-Err-NoDerivation.ensures.refused other)
          ∙ ap at (sym first.3),
    )

pub loop-turn-preserved : goal.loop-turn-preserved
loop-turn-preserved c =
    let e = one_more (λ n. behind_all c.loop-turn.found (file highest_part n c.loop-turn.types c.loop-turn.rest.now)) _ c.loop-turn._turn
    c.loop-turn-test.true c.loop-turn.invariant in
    let first = c.in-Some.ensures in
    let read = c.in-Ok.ensures.found in
    let types = c.loop-turn.types in
    let rest = c.loop-turn.rest.now in
    let made = c.in-Ok.declaration in
    let m = length c.args.tokens.now - (c.loop-turn._turn + 1) in
    let behind = drop (length rest - length read.0.rest) rest in
    let longer = c.loop-turn.found ++ made.tree ∷ [] in
    let parts = c.in_ok-tree-in-Ok.ensures.ok in
    let pushed : c.push.new.self ≡ longer = c.in_ok-push-in-Ok.ensures.ok ∙ ap (λ x. c.loop-turn.found ++ x ∷ []) parts.0 in
    let names : c.as_slice.result.now ≡ made.names = c.as_slice.ensures in
    let known = rw parts.1 at c.grow-grown.ensures in
    let grown : SameNames (types ++ made.names) c.grow-grown.new.types = λ name. sym (known name ∙ ap (λ l. has (types ++ l) name) names) in
    e ∙ file_goes highest_part c.loop-turn.found types rest first.0 first.1 m read.0 first.2 read.1
    ∙ ap (λ (x : NamedExternal). behind_all (c.loop-turn.found ++ x.tree ∷ []) (file highest_part m (types ++ x.names) behind)) (sym read.2)
    ∙ ap (behind_all longer) (file_alike highest_part m (types ++ made.names) c.grow-grown.new.types behind grown)
    ∙ ap (λ s. behind_all longer (file highest_part m c.grow-grown.new.types s)) (sym read.3)
    ∙ ap (λ xs. behind_all xs (file highest_part m c.grow-grown.new.types c.in-Ok.behind.now)) (sym pushed)

pub returns-in-None : goal.returns-in-None
returns-in-None c =
    let e = no_more (λ n. behind_all c.loop-turn.found (file highest_part n c.loop-turn.types c.loop-turn.rest.now)) _ c.loop-turn._turn
    c.loop-turn-test.false c.loop-turn.invariant in
    rw c.finish-in-None.ensures (e ∙ file_end highest_part _ _ _ _ c.in-None.ensures)

pub returns : goal.returns
returns c =
    let e = no_more (λ n. behind_all c.loop-turn.found (file highest_part n c.loop-turn.types c.loop-turn.rest.now)) _ c.loop-turn._turn
    c.loop-turn-test.false c.loop-turn.invariant in
    let first = c.in-Some-first_place.ensures in
    rw c.refused-in-Some-first_place.ensures (refl, e ∙ file_over highest_part _ _ _ first.0 first.1 first.2 ∙ ap at (sym first.3))
