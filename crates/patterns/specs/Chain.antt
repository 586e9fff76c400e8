-- What a walk along a chain of the index still has to come to.
use Rattle.std.specs.Prelude.{ℕ, List, drop}
use Rattle.tables.specs.Clause.{clauses}
use Rattle.patterns.specs.declared.chain.Chain.{Chain}
use Rattle.patterns.specs.Index.{with_key}

-- The clauses of the chain's key from its place in the row on.
abbrev pub to_come : Chain → List (List ℕ)
to_come c = with_key c.key (clauses (drop c.at c.index.row.now))
