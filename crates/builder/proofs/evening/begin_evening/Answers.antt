-- The tests of the work buffer and the book, and the evening behind them.
use Rattle.std.proofs.Common.{◌∙◌, sym, length, arith}
use Rattle.std.proofs.lemmas.Result.{err_from_is_err_and}
use Rattle.rounds.proofs.SettleSteps.{few_variables}
use Rattle.builder.proofs.Tests.{tests_refused, comes_begins, work_fits, pins_fit}
use Rattle.builder.proofs.evening.begin_evening.Goals as goal

pub returns-in_err-open_book : goal.returns-in_err-open_book
returns-in_err-open_book c =
    let p = err_from_is_err_and c.from_residual.result c.from_residual.ensures.1 in
    rw (p.1, p.2) (tests_refused c.args.n c.args.table.now c.args.book.now (length c.args.work.now) c.in_err-open_book.field-0.0 (sym c.open_book.ensures ∙ c.in_err-open_book.was))

pub overflow_add-n : goal.overflow_add-n
overflow_add-n c = let few = few_variables c.args.n c.args.table.now c.requires.table in omega arith

pub split_at_mut-stands-requires : goal.split_at_mut-stands-requires
split_at_mut-stands-requires c = let few = few_variables c.args.n c.args.table.now c.requires.table in let room = c.requires.stands in omega (arith, few, room)

pub settle_evening-requires-clause-pins : goal.settle_evening-requires-clause-pins
settle_evening-requires-clause-pins c =
    rw c.in_force.ensures (pins_fit c.args.n c.args.table.now c.args.book.now (length c.args.work.now) (sym c.open_book.ensures ∙ c.in_ok-open_book.was) c.requires.table)

pub settle_evening-requires-clause-work : goal.settle_evening-requires-clause-work
settle_evening-requires-clause-work c = work_fits c.args.n c.args.table.now c.args.book.now (length c.args.work.now) (sym c.open_book.ensures ∙ c.in_ok-open_book.was) c.requires.table

pub settle_evening-requires-clause-sites : goal.settle_evening-requires-clause-sites
settle_evening-requires-clause-sites c = let few = few_variables c.args.n c.args.table.now c.requires.table in let room = c.requires.sites in omega (arith, few, room)

pub returns : goal.returns
returns c =
    comes_begins c.args.n c.args.table.now c.args.book.now (length c.args.work.now) (sym c.open_book.ensures ∙ c.in_ok-open_book.was) c.requires.table c.settle_evening.result
    (rw c.in_force.ensures at c.settle_evening.ensures)
