-- The row is read back to the place.
use Rattle.std.proofs.Common.{◌<◌}
use Rattle.patterns.specs.Index.{Heads, Links}
use Rattle.patterns.proofs.index.write.Given as goal

abbrev pub invariant-loop-place : goal.invariant-loop-place
invariant-loop-place l = record { heads : Heads l.row l.place l.key l.heads; links : Links l.row l.place l.links; within : l.key < 1024 }
