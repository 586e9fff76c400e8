-- Each statement by its proof.
use Rattle.demands.proofs.Answers.{accepted_settles, four_is_contradiction, refusal_keeps}
use Rattle.demands.proofs.laws.answers.Goals as goal

pub returns-clause-accepted : goal.returns-clause-accepted
returns-clause-accepted c = accepted_settles

pub returns-clause-four : goal.returns-clause-four
returns-clause-four c = four_is_contradiction

pub returns-clause-refusal : goal.returns-clause-refusal
returns-clause-refusal c = refusal_keeps
