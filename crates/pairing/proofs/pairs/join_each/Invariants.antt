-- The pairs among the clauses so far are joined; those that are left are still to be.
use Rattle.std.proofs.Common.{◌≡◌, ℕ, ◌<◌, ◌||◌, not, eqb, length}
use Rattle.std.specs.List.{All, fold, filter}
use Rattle.tables.specs.Literal.{var}
use Rattle.tables.specs.Clause.{clauses}
use Rattle.rules.specs.Pairs.{pairs, join}
use Rattle.pairing.specs.Pairs.{paired_in}
use Rattle.pairing.proofs.pairs.join_each.Given as goal

abbrev pub invariant-loop-clause : goal.invariant-loop-clause
invariant-loop-clause l = record {
  joined : fold join l.fn.stands.row.now (pairs (clauses l.index.row.now))
      ≡ fold join l.stands.row.now (filter (paired_in (clauses l.index.row.now)) (clauses l.clause-iterator.rest.now));
  any : not (eqb (length (pairs (clauses l.index.row.now))) 0)
      ≡ (l.any || not (eqb (length (filter (paired_in (clauses l.index.row.now)) (clauses l.clause-iterator.rest.now))) 0));
  inside : All (All (λ (x : ℕ). var x < length l.fn.stands.row.now)) (clauses l.clause-iterator.rest.now);
  size : length l.stands.row.now ≡ length l.fn.stands.row.now;
}
