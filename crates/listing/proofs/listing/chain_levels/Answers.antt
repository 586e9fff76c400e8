-- No level is above the number of gates.
use Rattle.std.proofs.Common.{◌≡◌, ℕ, ◌≤◌, ℤ, List, length, get_or, arith}
use Rattle.std.proofs.lemmas.List.{length-map}
use Rattle.rules.specs.Circuit.{levels}
use Rattle.circuits.proofs.Levels.{levels_low}
use Rattle.gates.specs.declared.site.Site.{Site}
use Rattle.gates.specs.Sites.{gate_of, gates_of}
use Rattle.listing.proofs.listing.chain_levels.Goals as goal

low : (n : ℕ) (row : List ℤ) (sites : List Site) (lv : List ℕ) → lv ≡ levels n (gates_of row sites) → length sites ≤ 1024 → (v : ℕ) → get_or lv v 0 ≤ 1024
low n row sites lv e few v = rw e (omega (arith, levels_low n (gates_of row sites) v, length-map sites (gate_of row)))

pub chain-requires-clause-low : goal.chain-requires-clause-low
chain-requires-clause-low c = let e = c.args.evening.now in low _ e.taken.row.now e.taken.sites.now c.levels.new.levels c.levels.ensures e.few_gates
