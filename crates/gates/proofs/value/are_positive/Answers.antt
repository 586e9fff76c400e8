-- Each input is tested.
use Rattle.std.proofs.Common.{not, rules, tests}
use Rattle.std.proofs.lemmas.Iterator.Search.{all_from_yields_List}
use Rattle.tables.specs.Literal.{neg}
use Rattle.gates.proofs.InputSteps.{inputs_given}
use Rattle.gates.proofs.value.are_positive.Goals as goal

pub returns : goal.returns
returns c =
    all_from_yields_List (λ l. not (neg l)) _ _ _ c.all.ensures.ran (inputs_given c.args.row.now c.args.site c.inputs.result c.inputs.ensures) (λ x b q k. search (rules, tests))
