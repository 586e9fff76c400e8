-- The build program, step after step.
use Rattle.std.proofs.Common.{◌∙◌, refl, sym, arith}
use Rattle.std.proofs.lemmas.Result.{err_from_is_err_and}
use Rattle.texts.proofs.Room.{entries_fit, table_is}
use Rattle.builder.proofs.ProgramSteps.{read_refused, build_refused, build_printed, bytes_fit}
use Rattle.builder.proofs.program.build_text.Goals as goal

pub returns-in_err-read : goal.returns-in_err-read
returns-in_err-read c =
    let p = err_from_is_err_and c.from_residual.result c.from_residual.ensures.1 in
    rw (p.1, p.2) (read_refused c.args.text.now c.in_err-read.field-0.0 (sym c.read.ensures.is ∙ c.in_err-read.was))

pub split_at-requires : goal.split_at-requires
split_at-requires c =
    let fits = entries_fit c.args.text.now c.in_ok-read.read (sym c.read.ensures.is ∙ c.in_ok-read.was) in let long = c.read.auto.row in omega (arith, fits, long)

pub returns-in_err-built : goal.returns-in_err-built
returns-in_err-built c =
    let p = err_from_is_err_and c.from_residual-in_err-built.result c.from_residual-in_err-built.ensures.1 in
    let ok = sym c.read.ensures.is ∙ c.in_ok-read.was in
    let table = table_is c.args.text.now c.in_ok-read.read ok _ c.read.new.row c.split_at.result.0.now refl c.read.ensures.written c.split_at.ensures.front in
    rw (p.1, p.2) (build_refused c.args.text.now c.in_ok-read.read ok c.in_err-built.field-0.0 (rw (table, c.new.ensures, c.requires) at (sym c.build.ensures.is ∙ c.in_err-built.was)))

pub returns : goal.returns
returns c =
    let ok = sym c.read.ensures.is ∙ c.in_ok-read.was in
    let table = table_is c.args.text.now c.in_ok-read.read ok _ c.read.new.row c.split_at.result.0.now refl c.read.ensures.written c.split_at.ensures.front in
    let built = rw (table, c.new.ensures, c.requires) at (sym c.build.ensures.is ∙ c.in_ok-built.was) in
    let out = rw (table, c.new.ensures) at c.build.ensures.listing in
    (rw out (build_printed c.args.text.now c.in_ok-read.read ok c.in_ok-built.built c.args.out.now c.requires built), (let fits = bytes_fit c.args.text.now c.in_ok-read.read c.in_ok-built.built built in let long = c.build.auto.out in omega (arith, fits, long, c.requires)))
