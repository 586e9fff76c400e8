-- The clauses before the place are chained, and the row's part from there on has the others.
use Rattle.std.proofs.Common.{◌≡◌, drop}
use Rattle.tables.specs.Clause.{clauses}
use Rattle.pairing.proofs.ChainSteps.{Chained}
use Rattle.pairing.proofs.pair_chains.PairIndex.new.Given as goal

abbrev pub invariant-loop-clause : goal.invariant-loop-clause
invariant-loop-clause l = record {
  chained : Chained l.row l.head l.next l.start (clauses l.clause-iterator.rest.now);
  at : clauses (drop l.start l.row) ≡ clauses l.clause-iterator.rest.now;
}
