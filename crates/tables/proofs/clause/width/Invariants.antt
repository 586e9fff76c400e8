-- So many literals have no equal behind them; the others are still to be counted.
use Rattle.std.proofs.Common.{◌≡◌, ◌+◌, ◌≤◌, map, drop}
use Rattle.tables.specs.Literal.{literal}
use Rattle.tables.specs.Clause.{width}
use Rattle.tables.proofs.clause.width.Given as goal

abbrev pub invariant-loop-place : goal.invariant-loop-place
invariant-loop-place l = (width (map literal l.clause) ≡ l.width + width (map literal (drop l.place l.clause))) × (l.width ≤ l.place)
