-- The rule's value from the two counts.
use Rattle.std.proofs.Common.{◌∙◌}
use Rattle.tables.specs.Literal.{valued}
use Rattle.gates.proofs.SiteGates.{value_counted}
use Rattle.gates.proofs.value.site_value.Goals as goal

pub returns : goal.returns
returns c =
    c.rule_of.ensures
    ∙ value_counted c.args.row.now c.args.site (valued c.args.values.now) _ _ _ c.site_kind-kind.ensures.is c.site_kind-kind.ensures.within c.true_count.ensures c.input_count.ensures
