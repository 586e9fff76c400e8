-- The clauses of the anchor's key that are still to come are not yet seen.
use Rattle.std.proofs.Common.{◌≡◌, map, fold}
use Rattle.tables.specs.Literal.{literal}
use Rattle.tables.specs.Clause.{clauses}
use Rattle.patterns.specs.Seen.{see, seen}
use Rattle.patterns.specs.Chain.{to_come}
use Rattle.patterns.proofs.parity.patterns_seen.Given as goal

abbrev pub invariant-loop-clause : goal.invariant-loop-clause
invariant-loop-clause l = seen (clauses l.index.row.now) (map literal l.anchor) ≡ fold (see (map literal l.anchor)) l.seen (to_come l.clause-iterator)
