-- At first all inputs are left.
use Rattle.std.proofs.Common.{◌∙◌, ap}
use Rattle.texts.specs.Laying.{laid}
use Rattle.gates.specs.Inputs.{to_come}
use Rattle.listing.proofs.GateSteps.{inputs_begin}
use Rattle.listing.proofs.gate_lines.put_inputs.Goals as goal

pub loop-input-init : goal.loop-input-init
loop-input-init c =
    inputs_begin c.args.kind c.args.row.now c.args.site (laid c.args.laying.now) (to_come c.into_iter-input-iterator.result)
    (ap to_come c.into_iter-input-iterator.ensures.into_iter_gives ∙ c.inputs-input-items.ensures)
