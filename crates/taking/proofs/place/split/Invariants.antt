-- The gates before this place are split.
use Rattle.taking.proofs.PlaceSteps.{Split}
use Rattle.taking.proofs.place.split.Given as goal

abbrev pub invariant-loop-place : goal.invariant-loop-place
invariant-loop-place l = Split l.marks l.fn.row l.row l.later l.place l.kept
