-- No gates are in order.
use Rattle.circuits.proofs.Taken.{none_taken}
use Rattle.tables.specs.Clause.{clauses}
use Rattle.taking.proofs.offer.Taking.start.Goals as goal

pub invariant_of-result-clause-settled : goal.invariant_of-result-clause-settled
invariant_of-result-clause-settled c = ∣ c.requires.settled ∣₁

pub invariant_of-result-clause-taken : goal.invariant_of-result-clause-taken
invariant_of-result-clause-taken c = ∣ none_taken c.args.n (clauses c.args.index.row.now) ∣₁
