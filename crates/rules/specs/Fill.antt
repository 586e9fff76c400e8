-- Filling in all variables from a choice for the free ones.
use Rattle.std.specs.Prelude.{ℕ, ◌-◌, Bool, true, false, List, map, set}
use Rattle.std.specs.List.{fold, range_with_len}
use Rattle.tables.specs.Literal.{holds, valued}
use Rattle.rules.specs.Pairs.{stands}
use Rattle.rules.specs.Kinds.{rule}
use Rattle.rules.specs.Patterns.{Gate}

unfoldable pub bit : Bool → ℕ
bit true = 1
bit false = 0

-- Each gate in the order of evaluation gives its output the value that its kind's rule makes of its inputs.
unfoldable pub fill_step : List ℕ → Gate → List ℕ
fill_step values g = set values (g.output - 1) (bit (rule g.kind (valued values) g.inputs))

unfoldable pub fill_gates : List Gate → List ℕ → List ℕ
fill_gates gs given = fold fill_step given gs

-- "a fill n bytes 0 or 1 by variable": a fixed variable has its value, a linked one that of its root literal, and a root
-- its own. "Values given for variables that are not free are ignored."
unfoldable pub filled : ℕ → List ℕ → List Gate → List ℕ → List ℕ
filled n st gs given = map (λ v. bit (holds (valued (fill_gates gs given)) (stands st v))) (range_with_len 1 n)
