-- Each statement by its proof.
use Rattle.demands.proofs.Forced.{forced_closed, forced_least, contradiction_means}
use Rattle.demands.proofs.laws.forcing.Goals as goal

pub returns-clause-closed : goal.returns-clause-closed
returns-clause-closed c = forced_closed

pub returns-clause-least : goal.returns-clause-least
returns-clause-least c = forced_least

pub returns-clause-contradiction : goal.returns-clause-contradiction
returns-clause-contradiction c = contradiction_means
