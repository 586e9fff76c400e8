-- The gates taken in the end are the definition's, and no more than there are variables.
use Rattle.std.proofs.Common.{◌∙◌}
use Rattle.taking.proofs.Rest.{taken_in_the_end, few_in_the_end}
use Rattle.taking.proofs.take.take_gates.Goals as goal

pub returns-clause-gates : goal.returns-clause-gates
returns-clause-gates c =
    taken_in_the_end c.start-taking.result c.take_all.new.self c.args.n c.args.row.now c.finish.result.now (c.start-taking.ensures.row ∙ c.build.ensures) c.start-taking.ensures.n c.start-taking.ensures.gates
    c.take_all.ensures.row c.take_all.ensures.gates c.finish.ensures

pub returns-clause-few : goal.returns-clause-few
returns-clause-few c = few_in_the_end c.take_all.new.self c.args.n c.finish.result.now (c.take_all.ensures.n ∙ c.start-taking.ensures.n) c.finish.ensures
