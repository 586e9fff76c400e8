-- The rounds' answer as it crosses.
use Rattle.std.proofs.Common.{◌∙◌, sym, ap, arith}
use Rattle.boundary.specs.Answers.{accepted, refused}
use Rattle.tables.specs.Numbers.{answer_number, answer_place}
use Rattle.boundary.proofs.SettleSteps.{no_zero}
use Rattle.boundary.proofs.settled.choptimber_settle.Goals as goal

pub returns-in-Ok-clause-number : goal.returns-in-Ok-clause-number
unfolding accepted
returns-in-Ok-clause-number c =
    ap (λ a. a.number) c.accepted.ensures ∙ ap (λ v. answer_number v) (rw c.held_as.ensures at c.in-Ok.ensures.is)

pub returns-in-Ok-clause-place : goal.returns-in-Ok-clause-place
unfolding accepted
returns-in-Ok-clause-place c =
    ap (λ a. a.place) c.accepted.ensures ∙ ap (λ v. answer_place v) (rw c.held_as.ensures at c.in-Ok.ensures.is)

pub returns-in-Ok-clause-refused : goal.returns-in-Ok-clause-refused
unfolding accepted
returns-in-Ok-clause-refused c more =
    let none = ap (λ a. a.number) c.accepted.ensures in omega (arith, more, none)

pub returns-in-Ok-clause-settled : goal.returns-in-Ok-clause-settled
unfolding accepted
returns-in-Ok-clause-settled c _ =
    rw (c.accepted.ensures, sym c.held_as.ensures) c.in-Ok.ensures.settled

pub returns-in-Err-clause-number : goal.returns-in-Err-clause-number
unfolding refused
returns-in-Err-clause-number c =
    ap (λ a. a.number) c.refused.ensures ∙ ap (λ v. answer_number v) (rw c.held_as.ensures at c.in-Err.ensures.is)

pub returns-in-Err-clause-place : goal.returns-in-Err-clause-place
unfolding refused
returns-in-Err-clause-place c =
    ap (λ a. a.place) c.refused.ensures ∙ ap (λ v. answer_place v) (rw c.held_as.ensures at c.in-Err.ensures.is)

pub returns-in-Err-clause-settled : goal.returns-in-Err-clause-settled
unfolding refused
returns-in-Err-clause-settled c zero =
    absurd (no_zero c.in-Err.why (sym (ap (λ a. a.number) c.refused.ensures) ∙ zero))

pub returns-in-Err-clause-refused : goal.returns-in-Err-clause-refused
unfolding refused
returns-in-Err-clause-refused c _ = (ap (λ a. a.first) c.refused.ensures, ap (λ a. a.second) c.refused.ensures)
