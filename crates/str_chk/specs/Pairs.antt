-- Two texts that are read side by side, as the code hands the outcome on.
use Rattle.std.specs.Prelude.{ℕ, List, Option, None, Some, Result, Ok, Err}
use Rattle.library_meaning.specs.Scan.{Pair, scan_both}
use Rattle.library_meaning.specs.Table.{order}
use Rattle.library_meaning.specs.OnBytes.{byte_look}
use Rattle.library_meaning.specs.declared.stops.HostStop.{HostStop}
use Rattle.library_meaning.specs.declared.stops.HostStop.TheVariants as host

-- the scan of two places, and the number that it gives
abbrev pub both_scan : List ℕ → List ℕ → Result Pair HostStop
both_scan xs ys = scan_both byte_look host.BadAddress xs ys

abbrev pub order_found : Result Pair HostStop → Result ℕ HostStop
order_found (Ok p) = Ok (order p.left p.right)
order_found (Err e) = Err e

-- the order that the front of two texts tells, or that of what stands behind it
abbrev pub order_or : Option ℕ → List ℕ → List ℕ → Result ℕ HostStop
order_or (Some order) xs ys = Ok order
order_or None xs ys = order_found (both_scan xs ys)
