-- The rounds' answer, and what it says of the settled table.
use Rattle.std.proofs.Common.{◌≡◌, ◌∙◌, refl, sym, ap, take, arith}
use Rattle.std.proofs.lemmas.List.{length-take-le}
use Rattle.std.proofs.lemmas.Result.{err_from_is_err_and}
use Rattle.tables.specs.Clause.{clauses}
use Rattle.rounds.proofs.SettleSteps.{few_variables}
use Rattle.rounds.proofs.Outcomes.{accepted_outcome, refused_verdict}
use Rattle.rules.specs.Taking.{taken}
use Rattle.builder.proofs.Evenings.{left_proper, rounds_low, stands_inside, row_inside, sites_inside, sites_apart, sites_speak}
use Rattle.builder.proofs.evening.settle_evening.Goals as goal

pub returns-in_err-settled : goal.returns-in_err-settled
returns-in_err-settled c =
    let p = err_from_is_err_and c.from_residual.result c.from_residual.ensures.1 in
    rw (p.1, p.2) (sym (refused_verdict _ c.in_err-settled.field-0.0 c.settle.new.all c.settle.new.row (rw c.in_err-settled.was at c.settle.ensures.is)))

pub take_gates-requires-clause-few : goal.take_gates-requires-clause-few
take_gates-requires-clause-few c = few_variables c.args.n c.args.table.now c.requires.table

pub take_gates-requires-clause-short : goal.take_gates-requires-clause-short
take_gates-requires-clause-short c =
    rw c.split_at.ensures.front (omega (arith, length-take-le c.in_ok-settled.settled.entries c.settle.new.row c.in_ok-settled.ensures.within, c.in_ok-settled.ensures.short))

pub take_gates-requires-clause-settled : goal.take_gates-requires-clause-settled
take_gates-requires-clause-settled c =
    let w = accepted_outcome _ c.in_ok-settled.settled c.settle.new.all c.settle.new.row c.in_ok-settled.ensures.is in
    rw c.split_at.ensures.front (left_proper c.args.n c.args.table.now c.args.pins.now c.requires.table c.requires.pins _ _ _ w.0)

pub returns : goal.returns
returns c =
    let w = accepted_outcome _ c.in_ok-settled.settled c.settle.new.all c.settle.new.row c.in_ok-settled.ensures.is in
    let row : c.take_gates.result.row.now ≡ take c.in_ok-settled.settled.entries c.settle.new.row = c.take_gates.ensures.row ∙ c.split_at.ensures.front in
    record {
      variables = refl;
      comes = rw row w.0;
      gates = rw c.take_gates.ensures.row c.take_gates.ensures.gates;
      few = c.take_gates.ensures.few;
      ended = rw row w.1;
      short = rw row (omega (arith, length-take-le c.in_ok-settled.settled.entries c.settle.new.row c.in_ok-settled.ensures.within, c.in_ok-settled.ensures.short));
    }

pub invariant_of-result : goal.invariant_of-result
invariant_of-result c =
    let w = accepted_outcome _ c.in_ok-settled.settled c.settle.new.all c.settle.new.row c.in_ok-settled.ensures.is in
    let few = few_variables c.args.n c.args.table.now c.requires.table in
    let row : c.take_gates.result.row.now ≡ take c.in_ok-settled.settled.entries c.settle.new.row = c.take_gates.ensures.row ∙ c.split_at.ensures.front in
    let gates = c.take_gates.ensures.gates ∙ ap (λ r. taken c.args.n (clauses r)) c.split_at.ensures.front in
    record {
      few = few;
      few_rounds = rounds_low c.args.n c.args.table.now c.args.pins.now c.requires.table c.requires.pins _ _ _ w.0;
      short = rw row (omega (arith, length-take-le c.in_ok-settled.settled.entries c.settle.new.row c.in_ok-settled.ensures.within, c.in_ok-settled.ensures.short));
      few_gates = (let h = c.take_gates.ensures.few in omega (arith, few, h));
      standing = stands_inside c.args.n c.args.table.now c.args.pins.now c.requires.table c.requires.pins _ _ _ w.0;
      inside = row_inside c.args.n c.args.table.now c.args.pins.now c.requires.table c.requires.pins _ _ _ w.0 c.take_gates.result.row.now (ap clauses row) (rw row w.1);
      outputs = sites_inside c.args.n c.args.table.now c.args.pins.now c.requires.table c.requires.pins _ _ _ w.0 c.split_at.result.0.now c.take_gates.result.sites.now gates;
      apart = sites_apart c.args.n c.args.table.now c.args.pins.now c.requires.table c.requires.pins _ _ _ w.0 c.split_at.result.0.now c.take_gates.result.sites.now gates;
      speaking = rw c.take_gates.ensures.row (sites_speak c.args.n c.args.table.now c.args.pins.now c.requires.table c.requires.pins _ _ _ w.0 c.split_at.result.0.now c.take_gates.result.sites.now gates);
    }
