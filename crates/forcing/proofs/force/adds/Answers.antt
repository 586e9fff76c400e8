-- The first open literal tells.
use Rattle.std.proofs.Common.{sym, ◌∙◌}
use Rattle.forcing.proofs.ForceSteps.{adds_open, adds_all}
use Rattle.forcing.proofs.force.adds.Goals as goal

pub returns-in-Some : goal.returns-in-Some
returns-in-Some c = c.is_new.ensures ∙ sym (adds_open _ _ _ c.in-Some.ensures)

pub returns-in-None : goal.returns-in-None
returns-in-None c = c.has_unmarked.ensures ∙ sym (adds_all _ _ c.in-None.ensures)
