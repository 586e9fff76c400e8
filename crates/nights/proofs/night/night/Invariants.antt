-- The moves from here on leave the book that all do.
use Rattle.std.proofs.Common.{◌≡◌, map, drop, fold, length}
use Rattle.rules.specs.Pins.{empty_book}
use Rattle.nights.specs.Moves.{as_move}
use Rattle.nights.proofs.Books.{book_by}
use Rattle.nights.proofs.night.night.Given as goal

abbrev pub invariant-loop-made : goal.invariant-loop-made
invariant-loop-made l =
    fold book_by empty_book (map (as_move l.n l.table (length l.fn.work)) l.moves)
    ≡ fold book_by l.book (map (as_move l.n l.table (length l.fn.work)) (drop l.made-index l.moves))
