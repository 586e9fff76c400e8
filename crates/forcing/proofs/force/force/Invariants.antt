-- The passes that are left come to the same as all.
use Rattle.std.proofs.Common.{◌≡◌, ◌-◌, length, replicate}
use Rattle.std.specs.Fn.{iterate}
use Rattle.rules.specs.Forced.{pass}
use Rattle.rules.specs.Rounds.{pinned}
use Rattle.forcing.proofs.force.force.Given as goal

abbrev pub invariant-loop-pass : goal.invariant-loop-pass
invariant-loop-pass l =
    iterate (pass (pinned l.row l.pins)) (length l.fn.marks) (replicate (length l.fn.marks) 0)
    ≡ iterate (pass (pinned l.row l.pins)) (length l.fn.marks - l._pass) l.marks
