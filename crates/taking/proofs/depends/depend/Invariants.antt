-- What the gates from here on mark comes to the same as what all do.
use Rattle.std.proofs.Common.{◌≡◌, drop}
use Rattle.std.specs.List.{fold}
use Rattle.rules.specs.Taking.{depend_step}
use Rattle.gates.specs.Sites.{gates_of}
use Rattle.taking.proofs.depends.depend.Given as goal

abbrev pub invariant-loop-site : goal.invariant-loop-site
invariant-loop-site l =
    fold depend_step l.fn.marks (gates_of l.row l.sites) ≡ fold depend_step l.marks (gates_of l.row (drop l.site-index l.sites))
