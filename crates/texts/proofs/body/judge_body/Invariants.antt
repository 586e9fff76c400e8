-- What is left is judged like the whole, with what was counted; so many entries were passed.
use Rattle.std.proofs.Common.{◌≡◌, ◌+◌, ◌-◌, ◌≤◌, length}
use Rattle.texts.specs.Tokens.{tokens_at}
use Rattle.texts.specs.Body.{body_from}
use Rattle.texts.specs.Tally.{body_after}
use Rattle.texts.proofs.body.judge_body.Given as goal

abbrev pub invariant-loop-token : goal.invariant-loop-token
invariant-loop-token l = record {
  judged : body_from l.header.variables l.header.clauses (length l.text) 0 0 0 (tokens_at l.header.end l.text) ≡ body_after l.header (length l.text) l.tally (tokens_at l.place l.text);
  counted : length (tokens_at l.header.end l.text) ≡ l.tally.entries + length (tokens_at l.place l.text);
  within : l.place ≤ length l.text;
}

abbrev pub decreases-loop-token : goal.decreases-loop-token
decreases-loop-token l = length l.text - l.place
