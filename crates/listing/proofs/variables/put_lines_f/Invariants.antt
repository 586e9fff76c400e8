-- The lines of the variables from this one on are still to be laid.
use Rattle.std.proofs.Common.{◌≡◌, ◌+◌, ◌-◌, cond, [], filter}
use Rattle.std.specs.List.{flat_map, range_with_len}
use Rattle.texts.specs.Laying.{laid, lay}
use Rattle.rules.specs.Pairs.{fixed}
use Rattle.rules.specs.Listing.{line_f}
use Rattle.listing.proofs.variables.put_lines_f.Given as goal

abbrev pub invariant-loop-variable : goal.invariant-loop-variable
invariant-loop-variable l =
    lay (laid l.fn.laying) (flat_map (line_f l.stands) (filter (fixed l.stands) (range_with_len 1 l.n)))
    ≡ lay (laid l.laying) (flat_map (λ v. cond (fixed l.stands v) (line_f l.stands v) []) (range_with_len l.variable (l.n + 1 - l.variable)))
