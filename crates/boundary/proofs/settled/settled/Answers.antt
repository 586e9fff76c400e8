-- The rounds, test after test.
use Rattle.std.proofs.Common.{◌∙◌, sym, length, arith}
use Rattle.std.proofs.lemmas.Result.{err_from_is_err_and}
use Rattle.calls.proofs.Openings.{opened, room_of}
use Rattle.rounds.proofs.SettleSteps.{few_variables}
use Rattle.boundary.proofs.SettleSteps.{open_refuses, short_refuses, rounds_decide, rounds_judged, rounds_leave}
use Rattle.boundary.proofs.settled.settled.Goals as goal

pub returns-in_err-open-clause-is : goal.returns-in_err-open-clause-is
returns-in_err-open-clause-is c =
    let p = err_from_is_err_and c.from_residual.result c.from_residual.ensures.1 in
    rw (p.1, p.2) (sym (open_refuses c.args.n c.args.table.now c.args.book.now (length c.args.row.now) (length c.args.stands.now) c.in_err-open.field-0.0 (sym c.open.ensures ∙ c.in_err-open.was)))

pub overflow_add-result : goal.overflow_add-result
overflow_add-result c =
    let few = few_variables c.args.n c.args.table.now (opened c.args.n c.args.table.now c.args.book.now (length c.args.row.now) (sym c.open.ensures ∙ c.in_ok-open.was)).table in
    omega (arith, few)

pub returns-then-stands-n-clause-is : goal.returns-then-stands-n-clause-is
returns-then-stands-n-clause-is c =
    sym (short_refuses c.args.n c.args.table.now c.args.book.now (length c.args.row.now) (length c.args.stands.now) (sym c.open.ensures ∙ c.in_ok-open.was) c.if-stands-n.true)

pub run-requires-clause-few : goal.run-requires-clause-few
run-requires-clause-few c =
    few_variables c.args.n c.args.table.now (opened c.args.n c.args.table.now c.args.book.now (length c.args.row.now) (sym c.open.ensures ∙ c.in_ok-open.was)).table

pub run-requires-clause-table : goal.run-requires-clause-table
run-requires-clause-table c = (opened c.args.n c.args.table.now c.args.book.now (length c.args.row.now) (sym c.open.ensures ∙ c.in_ok-open.was)).table

pub run-requires-clause-pins : goal.run-requires-clause-pins
run-requires-clause-pins c =
    rw c.in_force.ensures (opened c.args.n c.args.table.now c.args.book.now (length c.args.row.now) (sym c.open.ensures ∙ c.in_ok-open.was)).pins

pub run-requires-clause-room : goal.run-requires-clause-room
run-requires-clause-room c =
    room_of (length c.args.row.now) (opened c.args.n c.args.table.now c.args.book.now (length c.args.row.now) (sym c.open.ensures ∙ c.in_ok-open.was)).room_is

pub returns-clause-is : goal.returns-clause-is
returns-clause-is c =
    rounds_judged c.args.n c.args.table.now c.in_force.result.now c.args.book.now c.run.new.row c.run.new.stands c.in_force.ensures c.run.result c.run.ensures
    ∙ sym (rounds_decide c.args.n c.args.table.now c.args.book.now (length c.args.row.now) (length c.args.stands.now) (sym c.open.ensures ∙ c.in_ok-open.was) c.if-stands-n.false)

pub returns-clause-settled : goal.returns-clause-settled
returns-clause-settled c =
    rounds_leave c.args.n c.args.table.now c.in_force.result.now c.args.book.now c.run.new.row c.run.new.stands c.in_force.ensures c.run.result c.run.ensures
