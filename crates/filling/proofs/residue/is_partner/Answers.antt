-- Where it may not be, it is that of the output with no literal.
use Rattle.std.proofs.Common.{◌∙◌, sym}
use Rattle.filling.proofs.PatternParts.{no_side}
use Rattle.filling.proofs.residue.is_partner.Goals as goal

pub returns-else-may_be_side : goal.returns-else-may_be_side
returns-else-may_be_side c =
    c.if-may_be_side.false ∙ sym (no_side c.args.clause.now c.args.anchor.now c.args.output (sym c.may_be_side.ensures ∙ c.if-may_be_side.false))
