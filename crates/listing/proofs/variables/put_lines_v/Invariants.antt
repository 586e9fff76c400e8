-- The lines of the variables from this one on are still to be laid.
use Rattle.std.proofs.Common.{◌≡◌, ◌+◌, ◌-◌, cond, [], filter}
use Rattle.std.specs.List.{flat_map, range_with_len}
use Rattle.texts.specs.Laying.{laid, lay}
use Rattle.rules.specs.Circuit.{free}
use Rattle.rules.specs.Listing.{line_v}
use Rattle.gates.specs.TakenGates.{gates_in}
use Rattle.listing.proofs.variables.put_lines_v.Given as goal

abbrev pub invariant-loop-variable : goal.invariant-loop-variable
invariant-loop-variable l =
    let e = l.survey.evening in
    lay (laid l.fn.laying) (flat_map line_v (filter (free e.stands.now (gates_in e.taken)) (range_with_len 1 e.n)))
    ≡ lay (laid l.laying) (flat_map (λ v. cond (free e.stands.now (gates_in e.taken) v) (line_v v) []) (range_with_len l.variable (e.n + 1 - l.variable)))
