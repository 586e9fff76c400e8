-- The free variables of an evening whose values are neither 0 nor 1.
use Rattle.std.specs.Prelude.{ℕ, ◌-◌, Bool, ◌&&◌, List, get_or, ltb}
use Rattle.std.specs.List.{filter, range_with_len}
use Rattle.rules.specs.Circuit.{free}
use Rattle.gates.specs.TakenGates.{gates_in}
use Rattle.listing.specs.declared.evening.Evening.{Evening}

abbrev pub is_bad : Evening → List ℕ → ℕ → Bool
is_bad e given v = free e.stands.now (gates_in e.taken) v && ltb 1 (get_or given (v - 1) 0)

abbrev pub bad_in : Evening → List ℕ → List ℕ
bad_in e given = filter (is_bad e given) (range_with_len 1 e.n)
