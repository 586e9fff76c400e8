-- The inputs that are left are still to be laid.
use Rattle.std.proofs.Common.{◌≡◌, map}
use Rattle.rules.specs.Listing.{input_field}
use Rattle.texts.specs.Laying.{laid, lay}
use Rattle.gates.specs.Sites.{gate_of}
use Rattle.gates.specs.Inputs.{to_come}
use Rattle.listing.specs.Fields.{fields}
use Rattle.listing.proofs.gate_lines.put_inputs.Given as goal

abbrev pub invariant-loop-input : goal.invariant-loop-input
invariant-loop-input l =
    lay (laid l.fn.laying) (fields (map (input_field l.fn.kind) (gate_of l.row l.fn.site).inputs))
    ≡ lay (laid l.laying) (fields (map (input_field l.fn.kind) (to_come l.input-iterator)))
