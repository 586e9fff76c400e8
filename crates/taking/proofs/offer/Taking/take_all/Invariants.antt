-- The clauses that the iterator has given are gone through.
use Rattle.tables.specs.Clause.{clauses}
use Rattle.taking.proofs.Rest.{Rest}
use Rattle.taking.proofs.offer.Taking.take_all.Given as goal

abbrev pub invariant-loop-clause : goal.invariant-loop-clause
invariant-loop-clause l = Rest l.fn.self l.self l.start (clauses l.clause-iterator.rest.now)
