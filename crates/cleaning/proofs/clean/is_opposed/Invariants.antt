-- None was opposed; the others follow.
use Rattle.std.proofs.Common.{◌≡◌, map, drop}
use Rattle.tables.specs.Literal.{literal}
use Rattle.cleaning.specs.Neighbours.{opposed_from}
use Rattle.cleaning.proofs.clean.is_opposed.Given as goal

abbrev pub invariant-loop-entry : goal.invariant-loop-entry
invariant-loop-entry l = opposed_from 0 (map literal l.clause) ≡ opposed_from l.before (map literal (drop l.entry-index l.clause))
