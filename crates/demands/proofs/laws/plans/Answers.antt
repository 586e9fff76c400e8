-- Each statement by its proof.
use Rattle.demands.proofs.Demands.{filled_satisfies, own_filling, others_ignored, none_possible, asked_is_filled}
use Rattle.demands.proofs.laws.plans.Goals as goal

pub returns-clause-filled : goal.returns-clause-filled
returns-clause-filled c = filled_satisfies

pub returns-clause-own : goal.returns-clause-own
returns-clause-own c = own_filling

pub returns-clause-ignored : goal.returns-clause-ignored
returns-clause-ignored c = others_ignored

pub returns-clause-impossible : goal.returns-clause-impossible
returns-clause-impossible c = none_possible

pub returns-clause-asked : goal.returns-clause-asked
returns-clause-asked c = asked_is_filled
