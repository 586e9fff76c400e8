use Rattle.std.proofs.Common.{tests, rules}
use Rattle.std.proofs.lemmas.Iterator.Search.{any_from_yields_List}
use Rattle.std.proofs.lemmas.List.{length-map}
use Rattle.rules.specs.Forced.{empty}
use Rattle.tables.proofs.EndedClauses.{clauses_given}
use Rattle.forcing.proofs.contradiction.has_empty.Goals as goal

pub returns : goal.returns
unfolding empty
returns c =
    any_from_yields_List empty c.any.new.self _ _ c.any.ensures.ran
    (clauses_given c.clauses_of.result c.args.row.now c.clauses_of.ensures) (λ x b q k. search (rules, tests, length-map))
