-- With no output before this one was the group allowed.
use Rattle.std.proofs.Common.{false}
use Rattle.rules.specs.Patterns.{parity}
use Rattle.taking.proofs.Walk.{Before}
use Rattle.taking.proofs.offer.Taking.offer_group.Given as goal

abbrev pub invariant-loop-entry : goal.invariant-loop-entry
invariant-loop-entry l = Before parity l.fn.self l.anchor l.entries l.self false l.entry-index
