use Rattle.std.proofs.Common.{take, drop, sym, arith}
use Rattle.std.proofs.lemmas.Grind.{common_steps}
use Rattle.std.proofs.lemmas.List.{take-append-drop}
use Rattle.fc_base.proofs.memory_streams.MemSinkSink.write.Goals as goal

-- the front that was appended is what there was room for
pub returns-then-bytes-room_left-clause-front_appended : goal.returns-then-bytes-room_left-clause-front_appended
returns-then-bytes-room_left-clause-front_appended c =
    let room = c.args.self.now.room_left in
    let piece = c.args.bytes.now in
    (take room piece, (drop room piece, sym (take-append-drop room piece)), grind (arith, common_steps))
