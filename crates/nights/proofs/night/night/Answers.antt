-- No move is to come.
use Rattle.std.proofs.Common.{length}
use Rattle.nights.specs.Moves.{as_move}
use Rattle.nights.proofs.Books.{night_book, night_stack}
use Rattle.nights.proofs.night.night.Goals as goal

pub returns-clause-book : goal.returns-clause-book
returns-clause-book c =
    night_book (as_move c.args.n c.args.table.now (length c.args.work.now)) c.args.moves.now c.loop-made.made-index c.loop-made.book c.loop-made-test.false c.loop-made.invariant

pub returns-clause-stack : goal.returns-clause-stack
returns-clause-stack c =
    night_stack (as_move c.args.n c.args.table.now (length c.args.work.now)) c.args.moves.now c.loop-made.made-index c.loop-made.book c.loop-made-test.false c.loop-made.invariant
