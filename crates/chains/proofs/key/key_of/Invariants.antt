-- What is left of the clause makes its key of the key so far.
use Rattle.std.proofs.Common.{◌≡◌, ◌<◌, map, drop}
use Rattle.std.specs.List.{fold}
use Rattle.tables.specs.Literal.{literal}
use Rattle.chains.specs.Key.{key_step, key}
use Rattle.chains.proofs.key.key_of.Given as goal

abbrev pub invariant-loop-entry : goal.invariant-loop-entry
invariant-loop-entry l = record {
  so_far : key (map literal l.clause) ≡ fold key_step l.key (map literal (drop l.entry-index l.clause));
  small : l.key < 2048;
}
