-- A variable's place in the filled-in row, from the values in the end.
use Rattle.std.specs.Prelude.{ℕ, List}
use Rattle.tables.specs.Literal.{holds, valued}
use Rattle.rules.specs.Pairs.{stands}
use Rattle.rules.specs.Fill.{bit}

unfoldable pub shown : List ℕ → List ℕ → ℕ → ℕ
shown st ended v = bit (holds (valued ended) (stands st v))
