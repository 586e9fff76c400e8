-- No zero was met: the clause goes on.
use Rattle.std.proofs.Common.{◌≡◌, ◌+◌, drop}
use Rattle.tables.specs.LookUp.{clause_length}
use Rattle.tables.proofs.lookup.clause_length.Given as goal

abbrev pub invariant-loop-place : goal.invariant-loop-place
invariant-loop-place l = clause_length l.row ≡ l.place + clause_length (drop l.place l.row)
