-- Each question goes one level down; and the inputs from here on are still to be counted.
use Rattle.std.proofs.Common.{◌≡◌, ◌+◌, ◌-◌, ◌*◌, ◌^◌, ◌<◌, ◌≤◌, ℕ, length}
use mathlib.Core.List.{Memᴰ}
use Rattle.std.specs.List.{count_by}
use Rattle.tables.specs.Literal.{var}
use Rattle.gates.specs.Counting.{counts}
use Rattle.gates.specs.Inputs.{inputs, to_come}
use Rattle.filling.specs.Asking.{Remembers, ended, level}
use Rattle.filling.proofs.ask.+asking.Given as goal

abbrev pub decreases-gate_value : goal.decreases-gate_value
decreases-gate_value l = 2 * level l.circuit.now (var l.site.output) - 1

abbrev pub decreases-variable_value : goal.decreases-variable_value
decreases-variable_value l = 2 * level l.circuit.now l.variable

abbrev pub invariant-gate_value-loop-input : goal.invariant-gate_value-loop-input
invariant-gate_value-loop-input l = record {
  memo : Remembers l.circuit l.memo;
  left : (x : ℕ) → Memᴰ x (to_come l.input-iterator) → Memᴰ x (inputs l.circuit.taken.row.now l.fn.site);
  counted : count_by (counts l.kind (ended l.circuit)) (inputs l.circuit.taken.row.now l.fn.site)
      ≡ l.trues + count_by (counts l.kind (ended l.circuit)) (to_come l.input-iterator);
  number : length (inputs l.circuit.taken.row.now l.fn.site) ≡ l.inputs + length (to_come l.input-iterator);
  few : length (inputs l.circuit.taken.row.now l.fn.site) < 2 ^ 64;
  low : l.trues ≤ l.inputs;
}
