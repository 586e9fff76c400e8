-- What is left to read goes into what is left of the row.
use Rattle.std.proofs.Common.{◌≡◌, ◌≤◌, length}
use Rattle.texts.specs.Tokens.{tokens_at}
use Rattle.texts.specs.Body.{entries}
use Rattle.texts.specs.Buffer.{overlay}
use Rattle.texts.proofs.body.read_body.Given as goal

abbrev pub invariant-loop-cell : goal.invariant-loop-cell
invariant-loop-cell l = record {
  laid : overlay l.initial.row 0 (entries (tokens_at l.from l.text)) ≡ overlay l.row l.cell-index (entries (tokens_at l.place l.text));
  within : l.place ≤ length l.text;
}
