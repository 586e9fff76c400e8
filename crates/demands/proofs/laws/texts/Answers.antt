-- Each statement by its proof.
use Rattle.demands.proofs.Texts.{reads_back, reads_back_into}
use Rattle.demands.proofs.laws.texts.Goals as goal

pub returns-clause-back : goal.returns-clause-back
returns-clause-back c = reads_back

pub returns-clause-back_into : goal.returns-clause-back_into
returns-clause-back_into c = reads_back_into
