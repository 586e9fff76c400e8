-- Also for the variables beyond the marks.
use Rattle.std.proofs.Common.{arith, rules}
use Rattle.listing.proofs.Outputs.{marked_all}
use Rattle.listing.proofs.listing.outputs_of.Goals as goal

pub returns : goal.returns
returns c =
    let e = c.args.evening.now in
    marked_all e.n e.taken.row.now e.taken.sites.now c.mark_outputs.new.marks 1025 (omega (arith, e.few)) (search rules) e.outputs (c.mark_outputs.ensures e.taken.row.now)
