-- What is left is still to be laid.
use Rattle.std.proofs.Common.{◌≡◌, ◌+◌, ◌-◌, length}
use Rattle.std.specs.List.{flat_map, range_with_len}
use Rattle.texts.specs.Laying.{laid, lay}
use Rattle.rules.specs.Listing.{line_g, gates_at}
use Rattle.gates.specs.TakenGates.{gates_in}
use Rattle.listing.proofs.gate_lines.put_lines_g.Given as goal

abbrev pub invariant-loop-level : goal.invariant-loop-level
invariant-loop-level l =
    lay (laid l.fn.laying) (flat_map (λ k. flat_map (λ v. flat_map (line_g k) (gates_at l.survey.evening.n (gates_in l.survey.evening.taken) k v)) (range_with_len 1 l.survey.evening.n)) (range_with_len 1 (length l.survey.evening.taken.sites.now)))
    ≡ lay (laid l.laying) (flat_map (λ k. flat_map (λ v. flat_map (line_g k) (gates_at l.survey.evening.n (gates_in l.survey.evening.taken) k v)) (range_with_len 1 l.survey.evening.n)) (range_with_len l.level (length l.survey.evening.taken.sites.now + 1 - l.level)))
