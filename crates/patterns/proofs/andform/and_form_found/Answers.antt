-- The literals' test is that of the form's clauses.
use Rattle.std.proofs.Common.{◌∙◌}
use Rattle.patterns.proofs.Forms.{form_found}
use Rattle.patterns.proofs.andform.and_form_found.Goals as goal

pub returns : goal.returns
returns c = c.are_met.ensures ∙ form_found _ _ _ c.requires.stands
