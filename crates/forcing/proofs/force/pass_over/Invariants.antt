-- What the clauses that are left force comes to the same as what all do.
use Rattle.std.proofs.Common.{◌≡◌}
use Rattle.std.specs.Bool.{OnFalse}
use Rattle.tables.specs.Clause.{clauses}
use Rattle.rules.specs.Forced.{pass}
use Rattle.forcing.proofs.force.pass_over.Given as goal

abbrev pub invariant-loop-clause : goal.invariant-loop-clause
invariant-loop-clause l =
    (pass (clauses l.row) l.fn.marks ≡ pass (clauses l.clause-iterator.rest.now) l.marks) × OnFalse l.grown (l.marks ≡ l.fn.marks)
