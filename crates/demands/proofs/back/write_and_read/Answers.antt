-- What was written is the table's text, and reading it gives the table back.
use Rattle.std.proofs.Common.{◌≡◌, ◌∙◌, refl, sym, ap, subst, ℕ, ◌≤◌, List, length, take, drop, arith, Ok, Err, Result}
use Rattle.std.proofs.lemmas.List.{take_at}
use Rattle.tables.specs.declared.numbers.Refusal.{Refusal}
use Rattle.tables.proofs.Verdicts.{never}
use Rattle.texts.specs.Buffer.{front, leaves}
use Rattle.texts.specs.Writing.{written, writing, buffer_after}
use Rattle.texts.proofs.Room.{written_within, writing_is}
use Rattle.demands.proofs.Texts.{reads_back_into}
use Rattle.demands.proofs.WrittenBack.{value_is, front_written}
use Rattle.demands.proofs.back.write_and_read.Goals as goal

pub returns-in_err-bytes : goal.returns-in_err-bytes
returns-in_err-bytes c = λ good small room fits.
    never (length (written c.args.n c.args.table.now)) c.in_err-bytes.field-0.0 (sym (sym c.write.ensures.is ∙ c.in_err-bytes.was) ∙ writing_is c.args.n c.args.table.now (length c.args.out.now) good room)

pub split_at-requires : goal.split_at-requires
split_at-requires c =
    let w = written_within c.args.n c.args.table.now (length c.args.out.now) c.in_ok-bytes.bytes (sym c.write.ensures.is ∙ c.in_ok-bytes.was) in
    let same = c.write.auto.out in
    omega (arith, w, same)

pub returns : goal.returns
returns c = λ good small room fits.
    let ok = writing_is c.args.n c.args.table.now (length c.args.out.now) good room in
    let bytes : c.in_ok-bytes.bytes ≡ length (written c.args.n c.args.table.now) = value_is _ _ (sym (sym c.write.ensures.is ∙ c.in_ok-bytes.was) ∙ ok) in
    let text : c.split_at.result.0.now ≡ written c.args.n c.args.table.now =
    c.split_at.ensures.front ∙ front_written c.args.n c.args.table.now c.args.out.now c.write.new.out c.in_ok-bytes.bytes c.write.ensures.written ok bytes in
    let back = reads_back_into c.args.n c.args.table.now good small c.args.row.now fits in
    (rw text at c.read.ensures.is ∙ back.0, rw text at c.read.ensures.written ∙ back.1)
