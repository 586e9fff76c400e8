-- What is laid from the front on is the buffer in the end.
use Rattle.std.proofs.Common.{rules}
use Rattle.texts.proofs.LaySteps.{whole_counted, whole_laid, whole_lent}
use Rattle.listing.proofs.Sizes.{listing_short}
use Rattle.listing.proofs.listing.put_listing.Goals as goal

pub returns-clause-is : goal.returns-clause-is
returns-clause-is c =
    let e = c.args.evening.now in
    let short = listing_short e.n e.taken.row.now e.few e.short e.inside e.taken.sites.now e.few_gates e.outputs e.rounds e.stands.now e.few_rounds e.standing in
    whole_counted c.put_lines.new.laying _ c.args.out.now _ c.put_lines.ensures short

pub returns-clause-laid : goal.returns-clause-laid
returns-clause-laid c =
    let e = c.args.evening.now in
    let short = listing_short e.n e.taken.row.now e.few e.short e.inside e.taken.sites.now e.few_gates e.outputs e.rounds e.stands.now e.few_rounds e.standing in
    let same = whole_lent c.put_lines.new.laying _ c.args.out.now _ c.put_lines.ensures short in
    let over = whole_laid c.put_lines.new.laying _ c.args.out.now _ c.put_lines.ensures short in
    search rules
