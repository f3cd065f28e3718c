-- The source and the sink in memory, as contracts see them, and what a call leaves of them. This project's own.
use Rattle.std.specs.Prelude.{ℕ, ◌-◌, nat_lt, if◌then◌else◌, List, ◌++◌, length, take, drop, Option, unwrap_or}
use Rattle.std.specs.Option.{option_map}
use Rattle.fc_base.specs.Outside.{one_more}

-- the bytes not yet taken, how many of them are given before the source fails (none where it never fails), and how often it failed
pub record SourceState : Type 0 where
  pub left : List ℕ
  pub fails_after : Option ℕ
  pub faults : ℕ

-- how many bytes a read into a long buffer gives
abbrev pub available_in : SourceState → ℕ
available_in source = unwrap_or source.fails_after (length source.left)

-- the source after its first n bytes are taken
abbrev pub after_taking : SourceState → ℕ → SourceState
after_taking source n = record source { left = drop n source.left; fails_after = option_map (λ more. more - n) source.fails_after }

-- the source after a read that failed
abbrev pub after_fault : SourceState → SourceState
after_fault source = record source { faults = one_more source.faults }

-- the bytes written, how many more there is room for, and how often the sink failed
pub record SinkState : Type 0 where
  pub written : List ℕ
  pub room_left : ℕ
  pub faults : ℕ

-- the sink after a piece: as much of it as there is room for is appended, and a piece that passes the room is a fault
abbrev pub after_write : SinkState → List ℕ → SinkState
after_write sink piece = record {
  written = sink.written ++ take sink.room_left piece;
  room_left = sink.room_left - length piece;
  faults = if nat_lt sink.room_left (length piece) then one_more sink.faults else sink.faults;
}
