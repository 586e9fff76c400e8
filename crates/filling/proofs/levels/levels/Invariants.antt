-- The gates before this one have their levels.
use Rattle.std.proofs.Common.{◌≡◌, ◌-◌, take, length}
use Rattle.rules.specs.Circuit.{levels}
use Rattle.gates.specs.Sites.{gates_of}
use Rattle.filling.proofs.levels.levels.Given as goal

abbrev pub invariant-loop-site : goal.invariant-loop-site
invariant-loop-site l = l.levels ≡ levels (length l.fn.levels - 1) (gates_of l.taken.row.now (take l.site-index l.taken.sites.now))
