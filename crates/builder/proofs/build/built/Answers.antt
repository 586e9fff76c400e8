-- A build, step after step.
use Rattle.std.proofs.Common.{◌∙◌, sym, length}
use Rattle.std.proofs.lemmas.Result.{err_from_is_err_and}
use Rattle.builder.proofs.Tests.{table_refuses, tests_refuse}
use Rattle.builder.proofs.BuildSteps.{more, build_refused, build_decided}
use Rattle.builder.proofs.build.built.Goals as goal

pub returns-in_err-check : goal.returns-in_err-check
returns-in_err-check c =
    let p = err_from_is_err_and c.from_residual.result c.from_residual.ensures.1 in
    let w = table_refuses c.args.n c.args.table.now c.args.book.now (length c.args.work.now) (more c.args.n c.args.table.now c.args.book.now (length c.args.work.now) c.args.out.now) c.in_err-check.field-0.0 (sym c.check.ensures ∙ c.in_err-check.was) in
    let r = build_refused c.args.n c.args.table.now c.args.book.now (length c.args.work.now) c.args.out.now c.in_err-check.field-0.0 w in
    record { is = rw (p.1, p.2) r.0; listing = r.1 }

pub returns-in_err-evening : goal.returns-in_err-evening
returns-in_err-evening c =
    let p = err_from_is_err_and c.from_residual-in_err-evening.result c.from_residual-in_err-evening.ensures.1 in
    let w = tests_refuse c.args.n c.args.table.now c.args.book.now (length c.args.work.now) (more c.args.n c.args.table.now c.args.book.now (length c.args.work.now) c.args.out.now) (sym c.check.ensures ∙ c.in_ok-check.was) c.in_err-evening.field-0.0 c.in_err-evening.ensures in
    let r = build_refused c.args.n c.args.table.now c.args.book.now (length c.args.work.now) c.args.out.now c.in_err-evening.field-0.0 w in
    record { is = rw (p.1, p.2) r.0; listing = r.1 }

pub returns : goal.returns
returns c =
    let begun = c.in_ok-evening.ensures in
    let r = build_decided c.args.n c.args.table.now c.args.book.now (length c.args.work.now) c.args.out.now (sym c.check.ensures ∙ c.in_ok-check.was) begun.0 c.in_ok-evening.evening begun.1 c.list_evening.result c.list_evening.new.out c.list_evening.ensures.is c.list_evening.ensures.listing in
    record { is = r.0; listing = r.1 }
