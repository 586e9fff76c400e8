-- Each statement by its proof.
use Rattle.demands.proofs.Demands.{settling_exact, rounds_bounded, refusal_bounded, links_to_roots, one_part_each}
use Rattle.demands.proofs.laws.settling.Goals as goal

pub returns-clause-exact : goal.returns-clause-exact
returns-clause-exact c = settling_exact

pub returns-clause-rounds : goal.returns-clause-rounds
returns-clause-rounds c = rounds_bounded

pub returns-clause-refusal : goal.returns-clause-refusal
returns-clause-refusal c = refusal_bounded

pub returns-clause-links : goal.returns-clause-links
returns-clause-links c = links_to_roots

pub returns-clause-parts : goal.returns-clause-parts
returns-clause-parts c = one_part_each
