-- Asking for one variable: the circuit that is asked, the answers, and what is remembered of them.
use Rattle.std.specs.Prelude.{◌≡◌, ℕ, ◌≤◌, Bool, List, length, get_or, Option, None, Some}
use mathlib.Core.List.{Memᴰ}
use Rattle.tables.specs.Literal.{valued}
use Rattle.rules.specs.Patterns.{Gate}
use Rattle.rules.specs.Circuit.{levels}
use Rattle.rules.specs.Fill.{fill_gates}
use Rattle.circuits.proofs.Order.{Ordered}
use Rattle.gates.specs.declared.site.Site.{Site}
use Rattle.filling.specs.declared.ask.Circuit.{Circuit}
use Rattle.gates.specs.TakenGates.{gates_in}

-- The gates stand in an order of evaluation, and their outputs have values.
pub record IsCircuit (c : Circuit) : Type 0 where
  pub ordered : Ordered (gates_in c.taken)
  pub outputs : (g : Gate) → Memᴰ g (gates_in c.taken) → (1 ≤ g.output) × (g.output ≤ length c.given.now)

pub record IsTaken (c : Circuit) (site : Site) : Type 0 where
  pub member : Memᴰ site c.taken.sites.now

-- A variable's value in the end, and its level.
unfoldable pub ended : Circuit → ℕ → Bool
ended c v = valued (fill_gates (gates_in c.taken) c.given.now) v

unfoldable pub level : Circuit → ℕ → ℕ
level c v = get_or (levels (length c.given.now) (gates_in c.taken)) v 0

-- Every remembered answer is right.
pub record Remembers (c : Circuit) (memo : List (Option Bool)) : Type 0 where
  pub right : (v : ℕ) (b : Bool) → get_or memo v None ≡ Some b → b ≡ ended c v
