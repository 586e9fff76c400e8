-- The places before this one are written; the others are as they were.
use Rattle.std.proofs.Common.{◌≡◌, ℕ, pos, ◌<◌, ◌≤◌, ◌++◌, map, take, drop, length, get_or}
use Rattle.tables.specs.Literal.{literal, var}
use Rattle.pairing.specs.Substitute.{substituted}
use Rattle.pairing.proofs.substitute.substitute.Given as goal

abbrev pub invariant-loop-place : goal.invariant-loop-place
invariant-loop-place l = record {
  turned : map (substituted l.stands.row.now) l.initial.row ≡ take l.place-index l.row ++ map (substituted l.stands.row.now) (drop l.place-index l.row);
  inside : (k : ℕ) → l.place-index ≤ k → k < length l.row → var (literal (get_or l.row k (pos 0))) < length l.stands.row.now;
}
