-- What is left is laid behind what was laid.
use Rattle.std.proofs.Common.{◌≡◌, drop}
use Rattle.texts.specs.Laying.{laid, lay}
use Rattle.texts.proofs.pieces.Laying.put.Given as goal

abbrev pub invariant-loop-byte : goal.invariant-loop-byte
invariant-loop-byte l = lay (laid l.fn.self) l.bytes ≡ lay (laid l.self) (drop l.byte-index l.bytes)
