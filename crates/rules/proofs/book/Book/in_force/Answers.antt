-- A length above the places takes them all.
use Rattle.std.proofs.Common.{rules}
use Rattle.std.proofs.lemmas.List.{take_min}
use Rattle.rules.specs.Pins.{in_force}
use Rattle.rules.proofs.book.Book.in_force.Goals as goal

pub returns : goal.returns
unfolding in_force
returns c = search (rules, take_min)
