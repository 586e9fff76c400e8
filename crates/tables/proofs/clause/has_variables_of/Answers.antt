-- The variables are compared pair by pair.
use Rattle.std.proofs.Common.{◌∙◌, eqb, rules, tests}
use Rattle.std.proofs.lemmas.Iterator.{YieldsList-from_slice, YieldsList-from_zip}
use Rattle.std.proofs.lemmas.Iterator.Search.{all_from_yields_List}
use Rattle.tables.specs.Literal.{literal, var}
use Rattle.tables.proofs.SameVariables.{vars_zip}
use Rattle.tables.proofs.clause.has_variables_of.Goals as goal

pub returns-then-clause-other-clause-is : goal.returns-then-clause-other-clause-is
returns-then-clause-other-clause-is c =
    all_from_yields_List (λ p. eqb (var (literal p.0)) (var (literal p.1))) c.all.new.self _ c.all.result c.all.ensures.ran
    (YieldsList-from_zip (YieldsList-from_slice c.args.clause.now (cc)) (YieldsList-from_slice c.args.other.now (cc)))
    (λ x b q k. search (rules, tests))
    ∙ vars_zip c.args.clause.now c.args.other.now c.if-clause-other.true
