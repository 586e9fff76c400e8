-- What is left of the check is the check from here on.
use Rattle.std.proofs.Common.{◌≡◌, drop}
use Rattle.tables.specs.Check.{check_from}
use Rattle.tables.proofs.check.check.Given as goal

abbrev pub invariant-loop-place : goal.invariant-loop-place
invariant-loop-place l =
    check_from l.n 0 0 0 l.table ≡ check_from l.n l.place l.literals l.zeros (drop l.place l.table)
