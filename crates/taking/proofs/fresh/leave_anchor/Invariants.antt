-- What the entries from here on take out comes to the same as what all do.
use Rattle.std.proofs.Common.{◌≡◌, drop}
use Rattle.std.specs.List.{fold}
use Rattle.taking.specs.Fresh.{leave}
use Rattle.taking.proofs.fresh.leave_anchor.Given as goal

abbrev pub invariant-loop-entry : goal.invariant-loop-entry
invariant-loop-entry l = fold leave l.fn.fresh l.entry-items ≡ fold leave l.fresh (drop l.entry-index l.entry-items)
