-- What the gates from here on mark comes to the same as what all do.
use Rattle.std.proofs.Common.{◌≡◌, drop, length, replicate}
use Rattle.gates.specs.Outputs.{with_outputs}
use Rattle.gates.proofs.outputs.mark_outputs.Given as goal

abbrev pub invariant-loop-site : goal.invariant-loop-site
invariant-loop-site l =
    with_outputs (replicate (length l.fn.marks) 0) l.sites ≡ with_outputs l.marks (drop l.site-index l.sites)
