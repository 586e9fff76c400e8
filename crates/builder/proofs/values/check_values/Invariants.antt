-- No variable before this one is bad.
use Rattle.std.proofs.Common.{◌≡◌, ◌≤◌, ◌<◌, ℕ, false}
use Rattle.builder.specs.Values.{is_bad}
use Rattle.builder.proofs.values.check_values.Given as goal

abbrev pub invariant-loop-variable : goal.invariant-loop-variable
invariant-loop-variable l = (v : ℕ) → 1 ≤ v → v < l.variable → is_bad l.evening l.given v ≡ false
