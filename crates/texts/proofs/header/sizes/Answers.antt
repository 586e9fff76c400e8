-- Behind the sizes comes nothing.
use Rattle.std.proofs.Common.{refl, sym, ◌∙◌}
use Rattle.std.proofs.lemmas.Result.{err_from_is_err_and}
use Rattle.texts.specs.Header.{no_more}
use Rattle.texts.proofs.HeaderSteps.{v_ok, c_ok, c_err}
use Rattle.texts.proofs.header.sizes.Goals as goal

pub returns-in_err-clauses-clause-is : goal.returns-in_err-clauses-clause-is
returns-in_err-clauses-clause-is c =
    let back = err_from_is_err_and c.from_residual-in_err-clauses.result c.from_residual-in_err-clauses.ensures.1 in
    rw (back.1, back.2) (sym (v_ok _ _ _ c.in_ok-variables.ensures.is ∙ c_err _ _ _ _ c.in_err-clauses.ensures.is))

pub returns-in-None-clause-is : goal.returns-in-None-clause-is
unfolding no_more
returns-in-None-clause-is c =
    sym (v_ok _ _ _ c.in_ok-variables.ensures.is ∙ c_ok _ _ _ _ c.in_ok-clauses.ensures.is ∙ rw c.in-None.ensures.is refl)

pub returns-in-Some-clause-is : goal.returns-in-Some-clause-is
unfolding no_more
returns-in-Some-clause-is c =
    sym (v_ok _ _ _ c.in_ok-variables.ensures.is ∙ c_ok _ _ _ _ c.in_ok-clauses.ensures.is ∙ rw c.in-Some.ensures.is refl)
