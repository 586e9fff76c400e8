-- The rounds from the beginning.
use Rattle.std.proofs.Common.{length, take}
use Rattle.rounds.proofs.SettleSteps.{good_whole, settles_whole}
use Rattle.rounds.proofs.settle.settle.Goals as goal

pub run-requires-clause-good : goal.run-requires-clause-good
run-requires-clause-good c =
    good_whole c.args.n c.args.table.now c.args.pins.now (take (length c.args.table.now) c.begin.new.row) c.begin.new.all c.requires.table c.requires.pins
    c.begin.ensures.row c.begin.ensures.all

pub returns-clause-is : goal.returns-clause-is
returns-clause-is c =
    settles_whole c.args.n c.args.table.now c.args.pins.now (take (length c.args.table.now) c.begin.new.row) c.begin.new.all c.run.result c.run.new.all c.run.new.row
    c.begin.ensures.row c.begin.ensures.all c.run.ensures.is
