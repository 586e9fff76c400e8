-- The clauses that are in no pattern.
use Rattle.std.proofs.Common.{◌≡◌, ◌∙◌, ap, not, rules, tests, arith, inl}
use Rattle.std.proofs.lemmas.Iterator.Consumers.{YieldsList-from_filter, count_from_yields_List}
use Rattle.std.specs.Iterator.Adapters.{filter_source}
use Rattle.tables.specs.declared.rows.Clauses.{Clauses}
use Rattle.tables.proofs.EndedClauses.{clauses_given}
use Rattle.rules.specs.Circuit.{in_pattern, residue}
use Rattle.gates.specs.TakenGates.{gates_in}
use Rattle.listing.proofs.Sizes.{clauses_few}
use Rattle.listing.proofs.clause_lines.count_residue.Goals as goal

pub count-requires-clause-fits : goal.count-requires-clause-fits
count-requires-clause-fits c =
    let taken = c.args.survey.now.evening.taken in
    let row : (filter_source c.filter.result).rest.now ≡ taken.row.now = ap (λ (s : Clauses). s.rest.now) c.filter.ensures.source ∙ c.clauses_of.ensures in
    inl (rw row (omega (arith, clauses_few taken.row.now, c.args.survey.now.evening.short)))

pub returns : goal.returns
unfolding residue
returns c =
    let taken = c.args.survey.now.evening.taken in
    count_from_yields_List c.filter.result c.count.result c.count.ensures.ran
    (YieldsList-from_filter _ (λ d. not (in_pattern (gates_in taken) d)) (clauses_given _ taken.row.now (ap (λ (s : Clauses). s.rest.now) c.filter.ensures.source ∙ c.clauses_of.ensures)) c.filter.ensures.closure (λ x r q k. search (rules, tests)))
