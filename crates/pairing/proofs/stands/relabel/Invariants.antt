-- The places before this one have given way; the others are still to.
use Rattle.std.proofs.Common.{◌≡◌, ◌++◌, map, take, drop}
use Rattle.rules.specs.Pairs.{give_way}
use Rattle.pairing.proofs.stands.relabel.Given as goal

abbrev pub invariant-loop-place : goal.invariant-loop-place
invariant-loop-place l =
    map (give_way l.low l.high) l.initial.row ≡ take l.place-index l.row ++ map (give_way l.low l.high) (drop l.place-index l.row)
