-- The gates before this one are placed.
use Rattle.filling.specs.Places.{IsPlacedTo}
use Rattle.filling.proofs.places.place_all.Given as goal

abbrev pub invariant-loop-place : goal.invariant-loop-place
invariant-loop-place l = IsPlacedTo l.sites l.place l.places
