-- The text is read whole into the row, and the row's front is its table.
use Rattle.std.proofs.Common.{◌∙◌, refl, sym, arith, rules}
use Rattle.std.proofs.lemmas.Result.{err_from_is_err_and}
use Rattle.texts.proofs.Room.{reading_whole, verdict_is, entries_fit, table_is, written_within}
use Rattle.rewrite.proofs.rewrite.Goals as goal

pub returns-in_err-read-clause-is : goal.returns-in_err-read-clause-is
unfolding Rattle.rewrite.specs.Rewriting.rewriting Rattle.rewrite.specs.Rewriting.rewriting_of
returns-in_err-read-clause-is c =
    let p = err_from_is_err_and c.from_residual.result c.from_residual.ensures.1 in
    let e = sym (reading_whole c.args.text.now) ∙ sym c.read.ensures.is ∙ c.in_err-read.was in
    rw (p.1, p.2, e) refl

pub returns-in_err-read-clause-written : goal.returns-in_err-read-clause-written
unfolding Rattle.rewrite.specs.Rewriting.rewritten Rattle.rewrite.specs.Rewriting.rewritten_of
returns-in_err-read-clause-written c =
    let e = sym (reading_whole c.args.text.now) ∙ sym c.read.ensures.is ∙ c.in_err-read.was in rw e refl

pub split_at-requires : goal.split_at-requires
split_at-requires c =
    let fits = entries_fit c.args.text.now c.in_ok-read.read (sym c.read.ensures.is ∙ c.in_ok-read.was) in let long = c.read.auto.row in omega (arith, fits, long)

pub returns-clause-is : goal.returns-clause-is
unfolding Rattle.rewrite.specs.Rewriting.rewriting Rattle.rewrite.specs.Rewriting.rewriting_of
returns-clause-is c =
    let ok = sym c.read.ensures.is ∙ c.in_ok-read.was in
    let table = table_is c.args.text.now c.in_ok-read.read ok _ c.read.new.row c.split_at.result.0.now refl c.read.ensures.written c.split_at.ensures.front in
    rw (verdict_is c.args.text.now c.in_ok-read.read ok) (rw table at c.write.ensures.is)

pub returns-clause-written : goal.returns-clause-written
unfolding Rattle.rewrite.specs.Rewriting.rewritten Rattle.rewrite.specs.Rewriting.rewritten_of
returns-clause-written c =
    let ok = sym c.read.ensures.is ∙ c.in_ok-read.was in
    let table = table_is c.args.text.now c.in_ok-read.read ok _ c.read.new.row c.split_at.result.0.now refl c.read.ensures.written c.split_at.ensures.front in
    rw (verdict_is c.args.text.now c.in_ok-read.read ok) (rw table at c.write.ensures.written)

pub returns-clause-within : goal.returns-clause-within
returns-clause-within c = search (rules, written_within)
