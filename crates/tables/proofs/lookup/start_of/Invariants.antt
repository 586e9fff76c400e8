-- So many clauses are passed; the others start behind them.
use Rattle.std.proofs.Common.{◌≡◌, ◌+◌, ◌-◌, ◌≤◌, length, drop}
use Rattle.tables.specs.LookUp.{start_of}
use Rattle.tables.proofs.lookup.start_of.Given as goal

abbrev pub invariant-loop-before : goal.invariant-loop-before
invariant-loop-before l = (start_of l.k l.row ≡ l.start + start_of (l.k - l._before) (drop l.start l.row)) × (l.start ≤ length l.row)
