-- What is left of the lines before the header.
use Rattle.std.proofs.Common.{◌≡◌, ◌+◌, false, drop}
use Rattle.texts.specs.Header.{remarks}
use Rattle.texts.proofs.header.remarks.Given as goal

abbrev pub invariant-loop-place : goal.invariant-loop-place
invariant-loop-place l = remarks false l.text ≡ l.place + remarks l.inside (drop l.place l.text)
