-- The fields that are left are laid behind those that are.
use Rattle.std.proofs.Common.{◌≡◌, map, drop}
use Rattle.texts.specs.Decimal.{decimal}
use Rattle.texts.specs.Laying.{laid, lay}
use Rattle.listing.specs.Fields.{fields}
use Rattle.listing.proofs.fields.put_number_fields.Given as goal

abbrev pub invariant-loop-number : goal.invariant-loop-number
invariant-loop-number l = lay (laid l.fn.laying) (fields (map decimal l.numbers)) ≡ lay (laid l.laying) (fields (map decimal (drop l.number-index l.numbers)))
