-- The variables from 1 to n that pass the test.
use Rattle.std.proofs.Common.{◌+◌, rules, tests, arith}
use Rattle.std.proofs.lemmas.Iterator.{YieldsList-from_range}
use Rattle.std.proofs.lemmas.Iterator.Consumers.{YieldsList-from_filter, count_from_yields_List}
use Rattle.rules.specs.Circuit.{free}
use Rattle.gates.specs.TakenGates.{gates_in}
use Rattle.listing.proofs.variables.count_free.Goals as goal

pub returns : goal.returns
returns c =
    let s = c.args.survey.now in
    count_from_yields_List c.filter.result c.count.result c.count.ensures.ran
    (YieldsList-from_filter _ (free s.evening.stands.now (gates_in s.evening.taken)) (YieldsList-from_range 1 (s.evening.n + 1) s.evening.n c.filter.ensures.source (omega arith)) c.filter.ensures.closure
    (λ x r q k. search (rules, tests)))
