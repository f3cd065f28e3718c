-- The rest of the words, and the room that is left for it.
use Rattle.std.proofs.Common.{◌≡◌, ◌+◌, ◌<◌, drop, sym, ap, arith}
use Rattle.std.proofs.lemmas.Bool.{le-leb, lt-leb}
use Rattle.std.proofs.lemmas.List.{drop_all}
use Rattle.run_meaning.specs.Worlds.{arguments_size, most_arguments}
use Rattle.fort_words.proofs.Reading.{room_more}
use Rattle.fort_words.proofs.parts.do_fit.Goals as goal

pub returns-then-size-room : goal.returns-then-size-room
returns-then-size-room c =
    let more = room_more c.args.words.now c.loop-at.at c.word_at.result.now c.word_at.ensures in
    let kept : arguments_size (drop c.args.first c.args.words.now) + c.loop-at.room ≡ arguments_size (drop c.loop-at.at c.args.words.now) + most_arguments = c.loop-at.invariant in
    let over : most_arguments < arguments_size (drop c.args.first c.args.words.now) = omega (arith, more, kept, c.if-size-room.true) in
    sym (lt-leb _ _ over)

pub loop-at-preserved : goal.loop-at-preserved
loop-at-preserved c =
    let more = room_more c.args.words.now c.loop-at.at c.word_at.result.now c.word_at.ensures in
    let kept : arguments_size (drop c.args.first c.args.words.now) + c.loop-at.room ≡ arguments_size (drop c.loop-at.at c.args.words.now) + most_arguments = c.loop-at.invariant in
    omega (arith, more, kept, c.if-size-room.false)

pub returns : goal.returns
returns c =
    let kept : arguments_size (drop c.args.first c.args.words.now) + c.loop-at.room ≡ arguments_size (drop c.loop-at.at c.args.words.now) + most_arguments = c.loop-at.invariant in
    let none = ap arguments_size (drop_all c.loop-at.at c.args.words.now (omega (arith, c.loop-at-test.false, c.len-at-end.ensures))) in
    sym (le-leb _ _ (omega (arith, kept, none)))
