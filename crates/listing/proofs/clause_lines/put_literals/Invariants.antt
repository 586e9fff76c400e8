-- The literals that are left are laid behind those that are.
use Rattle.std.proofs.Common.{◌≡◌, map, drop}
use Rattle.tables.specs.Literal.{literal}
use Rattle.texts.specs.Decimal.{signed}
use Rattle.texts.specs.Laying.{laid, lay}
use Rattle.listing.specs.Fields.{fields}
use Rattle.listing.proofs.clause_lines.put_literals.Given as goal

abbrev pub invariant-loop-entry : goal.invariant-loop-entry
invariant-loop-entry l = lay (laid l.fn.laying) (fields (map signed (map literal l.clause))) ≡ lay (laid l.laying) (fields (map signed (map literal (drop l.entry-index l.clause))))
