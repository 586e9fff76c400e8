-- Each input is tested.
use Rattle.std.proofs.Common.{rules, tests}
use Rattle.std.proofs.lemmas.Iterator.Search.{all_from_yields_List}
use Rattle.tables.specs.Literal.{neg}
use Rattle.gates.proofs.InputSteps.{inputs_given}
use Rattle.gates.proofs.value.are_negative.Goals as goal

pub returns : goal.returns
returns c =
    all_from_yields_List neg _ _ _ c.all.ensures.ran (inputs_given c.args.row.now c.args.site c.inputs.result c.inputs.ensures) (λ x b q k. search (rules, tests))
