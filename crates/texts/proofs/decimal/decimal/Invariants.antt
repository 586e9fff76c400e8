-- The digits of what is left stand before those that are written.
use Rattle.std.proofs.Common.{◌≡◌, ◌≤◌, ◌<◌, ◌^◌, ◌++◌, length, drop}
use Rattle.texts.specs.Decimal.{decimal}
use Rattle.texts.proofs.decimal.decimal.Given as goal

abbrev pub invariant-loop-rest : goal.invariant-loop-rest
invariant-loop-rest l = record {
  digits : decimal l.number ≡ decimal l.rest ++ drop l.first l.digits;
  room : l.rest < 10 ^ l.first;
  within : (1 ≤ l.first) × (l.first ≤ 20) × (length l.digits ≡ 20);
}

abbrev pub decreases-loop-rest : goal.decreases-loop-rest
decreases-loop-rest l = l.rest
