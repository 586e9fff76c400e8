-- The digits that are left say the rest, and so many digits say no large number.
use Rattle.std.proofs.Common.{◌≡◌, ◌<◌, ◌^◌, drop}
use Rattle.texts.specs.Numbers.{digits}
use Rattle.texts.proofs.numerals.value_of.Given as goal

abbrev pub invariant-loop-byte : goal.invariant-loop-byte
invariant-loop-byte l = (digits 0 l.word ≡ digits l.value (drop l.byte-index l.word)) × (l.value < 10 ^ l.byte-index)
