-- The lines of the chain from this variable on are still to be laid.
use Rattle.std.proofs.Common.{◌≡◌, ◌≤◌, get_or}
use Rattle.std.specs.List.{flat_map, range_with_len}
use Rattle.texts.specs.Laying.{laid, lay}
use Rattle.rules.specs.Circuit.{levels}
use Rattle.rules.specs.Listing.{line_g, gates_at}
use Rattle.gates.specs.TakenGates.{gates_in}
use Rattle.listing.proofs.ChainSteps.{left, distance}
use Rattle.listing.proofs.gate_lines.put_level.Given as goal

abbrev pub invariant-loop-variable : goal.invariant-loop-variable
invariant-loop-variable l =
    let e = l.survey.evening in
    let gs = gates_in e.taken in
    record {
      laid : lay (laid l.fn.laying) (flat_map (λ v. flat_map (line_g l.level) (gates_at e.n gs l.level v)) (range_with_len 1 e.n))
          ≡ lay (laid l.laying) (flat_map (λ v. flat_map (line_g l.level) (gates_at e.n gs l.level v)) (left e.n (levels e.n gs) l.level l.variable));
      on : (l.variable ≡ 0 → ⊥) → (l.variable ≤ e.n) × (get_or (levels e.n gs) l.variable 0 ≡ l.level);
    }

abbrev pub decreases-loop-variable : goal.decreases-loop-variable
decreases-loop-variable l = distance l.survey.evening.n l.variable
