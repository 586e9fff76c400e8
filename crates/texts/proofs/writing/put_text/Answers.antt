-- What is laid from the front on is the buffer in the end.
use Rattle.std.proofs.Common.{rules}
use Rattle.texts.specs.Writing.{written}
use Rattle.texts.proofs.LaySteps.{whole_counted, whole_laid, whole_lent}
use Rattle.texts.proofs.writing.put_text.Goals as goal

pub returns-clause-is : goal.returns-clause-is
returns-clause-is c = whole_counted c.put_written.new.laying _ c.args.out.now (written c.args.n c.args.table.now) c.put_written.ensures c.requires

pub returns-clause-laid : goal.returns-clause-laid
returns-clause-laid c =
    let same = whole_lent c.put_written.new.laying _ c.args.out.now (written c.args.n c.args.table.now) c.put_written.ensures c.requires in
    let over = whole_laid c.put_written.new.laying _ c.args.out.now (written c.args.n c.args.table.now) c.put_written.ensures c.requires in
    search rules
