-- The gates of its own variables tell.
use Rattle.std.proofs.Common.{map}
use Rattle.tables.specs.Literal.{literal}
use Rattle.filling.proofs.Spoken.{told}
use Rattle.filling.proofs.residue.in_pattern.Goals as goal

pub loop-entry-init : goal.loop-entry-init
loop-entry-init c = told c.args.taken.now.row.now c.args.taken.now.sites.now (map literal c.args.clause.now) c.requires.speaking
