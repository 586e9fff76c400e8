-- The signs before the place are read; they have a bit for each entry.
use Rattle.std.proofs.Common.{◌≡◌, ◌^◌, ◌<◌, map}
use Rattle.tables.specs.Literal.{literal}
use Rattle.patterns.specs.Seen.{signs}
use Rattle.patterns.proofs.Ones.{read}
use Rattle.patterns.proofs.signs.signs.Given as goal

abbrev pub invariant-loop-entry : goal.invariant-loop-entry
invariant-loop-entry l = (signs (map literal l.clause) ≡ read l.signs l.entry-index l.clause) × (l.signs < 2 ^ l.entry-index)
