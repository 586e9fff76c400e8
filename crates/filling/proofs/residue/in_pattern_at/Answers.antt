-- The gate stands in the row, and is the only one with its output.
use Rattle.std.proofs.Common.{◌∙◌, sym, map}
use Rattle.tables.specs.Literal.{literal}
use Rattle.gates.specs.Sites.{Within}
use Rattle.filling.proofs.Filled.{all_mem}
use Rattle.filling.proofs.Spoken.{at_none, at_gate}
use Rattle.filling.proofs.residue.in_pattern_at.Goals as goal

pub is_in-requires : goal.is_in-requires
is_in-requires c = all_mem (Within c.args.taken.now.row.now) c.args.taken.now.sites.now c.args.taken.now.within c.in-Some.site c.in-Some.ensures.0

pub returns-in-Some : goal.returns-in-Some
returns-in-Some c =
    c.is_in.ensures
    ∙ sym (at_gate c.args.taken.now.row.now c.args.taken.now.sites.now (map literal c.args.clause.now) c.args.variable c.in-Some.site c.requires.apart c.in-Some.ensures)

pub returns-in-None : goal.returns-in-None
returns-in-None c = sym (at_none c.args.taken.now.row.now c.args.taken.now.sites.now (map literal c.args.clause.now) c.args.variable c.in-None.ensures)
