-- The variables from 1 to n that pass the test.
use Rattle.std.proofs.Common.{◌+◌, rules, tests, arith}
use Rattle.std.proofs.lemmas.Iterator.{YieldsList-from_range}
use Rattle.std.proofs.lemmas.Iterator.Consumers.{YieldsList-from_filter, count_from_yields_List}
use Rattle.rules.specs.Pairs.{linked}
use Rattle.listing.proofs.variables.count_linked.Goals as goal

pub returns : goal.returns
returns c =
    count_from_yields_List c.filter.result c.count.result c.count.ensures.ran
    (YieldsList-from_filter _ (linked c.args.stands.now) (YieldsList-from_range 1 (c.args.n + 1) c.args.n c.filter.ensures.source (omega arith)) c.filter.ensures.closure (λ x r q k. search (rules, tests)))
