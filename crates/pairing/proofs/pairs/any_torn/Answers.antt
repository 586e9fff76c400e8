use Rattle.std.proofs.Common.{◌∙◌, ◌&&◌, tests, rules}
use Rattle.std.proofs.lemmas.Iterator.Search.{any_from_yields_List}
use Rattle.tables.specs.Clause.{clauses}
use Rattle.tables.proofs.EndedClauses.{clauses_given}
use Rattle.rules.specs.Pairs.{pairs, torn}
use Rattle.pairing.specs.Pairs.{paired_in}
use Rattle.pairing.proofs.PairSteps.{any_pair}
use Rattle.pairing.proofs.pairs.any_torn.Goals as goal

pub returns : goal.returns
unfolding pairs
returns c =
    let cs = clauses c.args.index.now.row.now in
    any_from_yields_List (λ x. paired_in cs x && torn c.args.stands.now.row.now x) c.any.new.self _ _ c.any.ensures.ran
    (clauses_given c.clauses_of.result c.args.index.now.row.now c.clauses_of.ensures) (λ x b q k. search (rules, tests))
    ∙ any_pair (paired_in cs) (torn c.args.stands.now.row.now) cs
