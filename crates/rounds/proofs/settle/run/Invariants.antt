-- At the beginning of each round the row's front holds the clauses that are left, and the rounds from here on come to what
-- all of them come to.
use Rattle.std.proofs.Common.{◌+◌, take, length}
use Rattle.rules.specs.Rounds.{rounds, pinned}
use Rattle.rounds.proofs.SettleSteps.{Left}
use Rattle.rounds.proofs.settle.run.Given as goal

abbrev pub invariant-loop-number : goal.invariant-loop-number
invariant-loop-number l =
    Left l.n l.number l.all (rounds l.n (l.n + 1) 1 l.fn.all (pinned (take l.fn.entries l.fn.row) l.fn.pins)) (take l.entries l.row) l.pins l.entries (length l.row)
