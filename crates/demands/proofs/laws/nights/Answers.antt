-- Each statement by its proof.
use Rattle.demands.proofs.Night.{stack_held, stack_decides, take_back_undoes}
use Rattle.demands.proofs.laws.nights.Goals as goal

pub returns-clause-held : goal.returns-clause-held
returns-clause-held c = stack_held

pub returns-clause-decides : goal.returns-clause-decides
returns-clause-decides c = stack_decides

pub returns-clause-undoes : goal.returns-clause-undoes
returns-clause-undoes c = take_back_undoes
