-- Behind the words come the sizes.
use Rattle.std.proofs.Common.{sym, ◌∙◌}
use Rattle.texts.proofs.HeaderSteps.{p_ok, cnf_ok}
use Rattle.texts.proofs.header.header_line.Goals as goal

pub returns-clause-is : goal.returns-clause-is
returns-clause-is c = sym (p_ok _ _ _ c.in_ok-behind_p.ensures.is ∙ cnf_ok _ _ _ c.in_ok-behind_cnf.ensures.is ∙ sym c.sizes.ensures.is)
