-- The listing of an evening.
use Rattle.std.specs.Prelude.{ℕ, List}
use Rattle.tables.specs.Clause.{clauses}
use Rattle.rules.specs.Listing.{listing}
use Rattle.gates.specs.TakenGates.{gates_in}
use Rattle.listing.specs.declared.evening.Evening.{Evening}

abbrev pub listing_of : Evening → List ℕ
listing_of e = listing e.n e.rounds e.stands.now (clauses e.taken.row.now) (gates_in e.taken)
