-- The clause is in no pattern of the gates with the variables before this one.
use Rattle.std.proofs.Common.{◌≡◌, drop, map}
use Rattle.std.specs.List.{list_any}
use Rattle.tables.specs.Literal.{literal, var}
use Rattle.rules.specs.Circuit.{in_pattern}
use Rattle.gates.specs.TakenGates.{gates_in}
use Rattle.filling.specs.Outputs.{in_pattern_at}
use Rattle.filling.proofs.residue.in_pattern.Given as goal

abbrev pub invariant-loop-entry : goal.invariant-loop-entry
invariant-loop-entry l =
    in_pattern (gates_in l.taken) (map literal l.clause)
    ≡ list_any (λ x. in_pattern_at l.taken.row.now l.taken.sites.now (map literal l.clause) (var x)) (map literal (drop l.entry-index l.clause))
