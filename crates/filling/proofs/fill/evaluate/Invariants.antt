-- The gates from here on are still to be evaluated.
use Rattle.std.proofs.Common.{◌≡◌, drop}
use Rattle.rules.specs.Fill.{fill_gates}
use Rattle.gates.specs.Sites.{gates_of}
use Rattle.gates.specs.TakenGates.{gates_in}
use Rattle.filling.proofs.fill.evaluate.Given as goal

abbrev pub invariant-loop-site : goal.invariant-loop-site
invariant-loop-site l = fill_gates (gates_in l.taken) l.initial.values ≡ fill_gates (gates_of l.taken.row.now (drop l.site-index l.taken.sites.now)) l.values
