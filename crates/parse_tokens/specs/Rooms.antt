-- Room for heights and depths, over the highest tree, so that sums with them fit. This project's own.
use Rattle.std.specs.Prelude.{ℕ}

-- over each depth to which parts are read
abbrev pub depth_room : ℕ
depth_room = 1000

-- over each height of a part that was read to a depth
abbrev pub height_room : ℕ
height_room = 2000
