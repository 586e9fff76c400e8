-- What is left of the table is laid behind what was laid.
use Rattle.std.proofs.Common.{◌≡◌, drop}
use Rattle.texts.specs.Laying.{laid, lay}
use Rattle.texts.specs.Writing.{clause_lines}
use Rattle.texts.proofs.writing.put_lines.Given as goal

abbrev pub invariant-loop-entry : goal.invariant-loop-entry
invariant-loop-entry l = lay (laid l.fn.laying) (clause_lines l.table) ≡ lay (laid l.laying) (clause_lines (drop l.entry-index l.table))
