-- Each statement by its proof.
use Rattle.demands.proofs.Plans.{listed_circuit, impossible_plan, filled_plan, own_plan, asked_place}
use Rattle.demands.proofs.laws.calls.Goals as goal

pub returns-clause-listed : goal.returns-clause-listed
returns-clause-listed c = listed_circuit

pub returns-clause-impossible : goal.returns-clause-impossible
returns-clause-impossible c = impossible_plan

pub returns-clause-filled : goal.returns-clause-filled
returns-clause-filled c = filled_plan

pub returns-clause-own : goal.returns-clause-own
returns-clause-own c = own_plan

pub returns-clause-asked : goal.returns-clause-asked
returns-clause-asked c = asked_place
