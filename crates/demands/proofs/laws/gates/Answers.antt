-- Each statement by its proof.
use Rattle.demands.proofs.Demands.{levels_rise, none_shared, pattern_says, give_back_exact}
use Rattle.demands.proofs.laws.gates.Goals as goal

pub returns-clause-levels : goal.returns-clause-levels
returns-clause-levels c = levels_rise

pub returns-clause-patterns : goal.returns-clause-patterns
returns-clause-patterns c = none_shared

pub returns-clause-says : goal.returns-clause-says
returns-clause-says c = pattern_says

pub returns-clause-give_back : goal.returns-clause-give_back
returns-clause-give_back c = give_back_exact
