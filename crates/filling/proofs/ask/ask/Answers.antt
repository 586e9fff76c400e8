-- At first no gate is placed and nothing is remembered.
use Rattle.std.proofs.Common.{ℕ}
use Rattle.ways.proofs.Members.{get_or_same}
use Rattle.tables.specs.declared.sizes.TheConstants.{VARIABLE_NUMBERS}
use Rattle.filling.proofs.AskSteps.{nothing_remembered}
use Rattle.filling.proofs.ask.ask.Goals as goal

pub place_all-requires-clause-empty : goal.place_all-requires-clause-empty
place_all-requires-clause-empty c v = get_or_same {X = ℕ} VARIABLE_NUMBERS v 0

pub variable_value-requires-clause-memo : goal.variable_value-requires-clause-memo
variable_value-requires-clause-memo c = nothing_remembered c.args.circuit.now VARIABLE_NUMBERS
