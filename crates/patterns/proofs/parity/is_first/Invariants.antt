-- None of the clauses that came is of the anchor's group.
use Rattle.std.proofs.Common.{◌≡◌, map}
use Rattle.tables.specs.Literal.{literal}
use Rattle.tables.specs.Clause.{clauses}
use Rattle.rules.specs.Patterns.{first_of, group}
use Rattle.patterns.specs.Chain.{to_come}
use Rattle.patterns.proofs.parity.is_first.Given as goal

abbrev pub invariant-loop-clause : goal.invariant-loop-clause
invariant-loop-clause l = first_of (group (map literal l.anchor)) (clauses l.index.row.now) ≡ first_of (group (map literal l.anchor)) (to_come l.clause-iterator)
