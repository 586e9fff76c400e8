-- The places before this one are written; the others are as they were.
use Rattle.std.proofs.Common.{◌≡◌, ℕ, ◌*◌, ◌<◌, ◌≤◌, ◌++◌, map, take, drop, length, get_or}
use Rattle.rules.specs.Pairs.{replace}
use Rattle.pairing.proofs.stands.Stands.follow.Given as goal

abbrev pub invariant-loop-place : goal.invariant-loop-place
invariant-loop-place l = record {
  turned : map (replace l.self.row.now) l.initial.all ≡ take l.place-index l.all ++ map (replace l.self.row.now) (drop l.place-index l.all);
  inside : (k : ℕ) → l.place-index ≤ k → k < length l.all → get_or l.all k 0 < 2 * length l.self.row.now;
}
