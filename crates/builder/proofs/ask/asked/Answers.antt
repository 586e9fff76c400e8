-- An ask, step after step.
use Rattle.std.proofs.Common.{◌∙◌, sym, length}
use Rattle.std.proofs.lemmas.Result.{err_from_is_err_and}
use Rattle.builder.proofs.AskSteps.{table_refuses, range_refuses, tests_refuse, ask_decided}
use Rattle.builder.proofs.ask.asked.Goals as goal

pub returns-in_err-check : goal.returns-in_err-check
returns-in_err-check c =
    let p = err_from_is_err_and c.from_residual.result c.from_residual.ensures.1 in
    rw (p.1, p.2) (table_refuses c.args.n c.args.table.now c.args.book.now (length c.args.work.now) c.args.given.now c.args.variable c.in_err-check.field-0.0 (sym c.check.ensures ∙ c.in_err-check.was))

pub returns-in_err-in_range : goal.returns-in_err-in_range
returns-in_err-in_range c =
    let p = err_from_is_err_and c.from_residual-in_err-in_range.result c.from_residual-in_err-in_range.ensures.1 in
    rw (p.1, p.2) (range_refuses c.args.n c.args.table.now c.args.book.now (length c.args.work.now) c.args.given.now c.args.variable (sym c.check.ensures ∙ c.in_ok-check.was) c.in_err-in_range.field-0.0 (sym c.in_range.ensures.is ∙ c.in_err-in_range.was))

pub returns-in_err-evening : goal.returns-in_err-evening
returns-in_err-evening c =
    let p = err_from_is_err_and c.from_residual-in_err-evening.result c.from_residual-in_err-evening.ensures.1 in
    rw (p.1, p.2) (tests_refuse c.args.n c.args.table.now c.args.book.now (length c.args.work.now) c.args.given.now c.args.variable (sym c.check.ensures ∙ c.in_ok-check.was) (sym c.in_range.ensures.is ∙ c.in_ok-in_range.was) c.in_err-evening.field-0.0 c.in_err-evening.ensures)

pub returns : goal.returns
returns c =
    let begun = c.in_ok-evening.ensures in
    ask_decided c.args.n c.args.table.now c.args.book.now (length c.args.work.now) c.args.given.now c.args.variable (sym c.check.ensures ∙ c.in_ok-check.was) (sym c.in_range.ensures.is ∙ c.in_ok-in_range.was) begun.0 c.in_ok-evening.evening begun.1 c.ask_evening.result c.ask_evening.ensures
