-- Whatever row the gates stand in, their outputs are those of their sites.
use Rattle.std.proofs.Common.{◌∙◌, sym}
use Rattle.gates.proofs.OutputLaws.{output_any}
use Rattle.gates.proofs.outputs.is_output.Goals as goal

pub returns : goal.returns
returns c row = c.has_output.ensures ∙ sym (output_any row c.args.sites.now c.args.variable)
