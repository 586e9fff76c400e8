-- The places before this one are written; the others are still to be.
use Rattle.std.proofs.Common.{◌≡◌, ◌+◌, ◌-◌, ◌++◌, map, take, length}
use Rattle.std.specs.List.{range_with_len}
use Rattle.filling.specs.Filling.{shown}
use Rattle.filling.proofs.fill.show_each.Given as goal

abbrev pub invariant-loop-place : goal.invariant-loop-place
invariant-loop-place l =
    map (shown l.stands l.ended) (range_with_len 1 (length l.initial.values))
    ≡ take l.place l.values ++ map (shown l.stands l.ended) (range_with_len (l.place + 1) (length l.initial.values - l.place))
