-- What the literals from here on force comes to the same as what all do.
use Rattle.std.proofs.Common.{◌≡◌, map, drop}
use Rattle.std.specs.List.{fold}
use Rattle.tables.specs.Literal.{literal}
use Rattle.rules.specs.Forced.{force_at}
use Rattle.forcing.proofs.force.force_clause.Given as goal

abbrev pub invariant-loop-entry : goal.invariant-loop-entry
invariant-loop-entry l =
    fold (force_at (map literal l.clause)) l.fn.marks (map literal l.clause)
    ≡ fold (force_at (map literal l.clause)) l.marks (map literal (drop l.entry-index l.clause))
