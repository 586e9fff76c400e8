-- The places before this one are written; the others are still to be.
use Rattle.std.proofs.Common.{◌≡◌, ◌-◌, ◌++◌, map, take, length}
use Rattle.std.specs.List.{range_with_len}
use Rattle.rules.specs.Pairs.{alone}
use Rattle.pairing.proofs.stands.Stands.start.Given as goal

abbrev pub invariant-loop-variable : goal.invariant-loop-variable
invariant-loop-variable l =
    map (alone l.marks) (range_with_len 0 (length l.fn.row))
    ≡ take l.variable l.row ++ map (alone l.marks) (range_with_len l.variable (length l.fn.row - l.variable))
