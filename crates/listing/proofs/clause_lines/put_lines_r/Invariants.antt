-- The clauses that are left are still to be looked at.
use Rattle.std.proofs.Common.{◌≡◌}
use Rattle.std.specs.List.{flat_map}
use Rattle.tables.specs.Clause.{clauses}
use Rattle.rules.specs.Circuit.{residue}
use Rattle.rules.specs.Listing.{line_r}
use Rattle.texts.specs.Laying.{laid, lay}
use Rattle.gates.specs.TakenGates.{gates_in}
use Rattle.listing.proofs.clause_lines.put_lines_r.Given as goal

abbrev pub invariant-loop-clause : goal.invariant-loop-clause
invariant-loop-clause l =
    lay (laid l.fn.laying) (flat_map line_r (residue (gates_in l.survey.evening.taken) (clauses l.survey.evening.taken.row.now)))
    ≡ lay (laid l.laying) (flat_map line_r (residue (gates_in l.survey.evening.taken) (clauses l.clause-iterator.rest.now)))
