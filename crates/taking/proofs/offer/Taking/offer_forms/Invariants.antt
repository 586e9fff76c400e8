-- No and-form before this one was found and allowed.
use Rattle.std.proofs.Common.{false}
use Rattle.rules.specs.Patterns.{and_form}
use Rattle.taking.proofs.Walk.{Before}
use Rattle.taking.proofs.offer.Taking.offer_forms.Given as goal

abbrev pub invariant-loop-entry : goal.invariant-loop-entry
invariant-loop-entry l = Before and_form l.fn.self l.anchor l.entry-items l.self false l.entry-index
