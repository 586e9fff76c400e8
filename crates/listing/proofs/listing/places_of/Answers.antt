-- At first no variable has a place.
use Rattle.ways.proofs.Members.{get_or_same}
use Rattle.listing.proofs.listing.places_of.Goals as goal

pub place_all-requires-clause-empty : goal.place_all-requires-clause-empty
place_all-requires-clause-empty c = λ v. get_or_same 1025 v 0
