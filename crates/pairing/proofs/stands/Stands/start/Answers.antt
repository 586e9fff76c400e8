-- One place more is written; and the codes are within the row.
use Rattle.std.proofs.Common.{◌≤◌, ◌∙◌, ◌-◌, subst, length, arith, sym}
use Rattle.pairing.specs.Pairs.{Coded}
use Rattle.pairing.proofs.StandSteps.{start_turns, start_ends, starting_coded}
use Rattle.pairing.proofs.stands.Stands.start.Goals as goal

pub loop-variable-preserved : goal.loop-variable-preserved
loop-variable-preserved c =
    c.loop-variable.invariant
    ∙ rw c.alone.ensures.is (start_turns c.args.marks.now c.loop-variable.row c.loop-variable.variable (length c.args.row.now) c.loop-variable-test.true (sym c.loop-variable.auto.row))

pub invariant_of-result-clause-coded : goal.invariant_of-result-clause-coded
invariant_of-result-clause-coded c =
    let le : length c.args.row.now ≤ c.loop-variable.variable = omega arith in
    subst Coded
    (sym (start_ends c.args.marks.now c.loop-variable.row c.loop-variable.variable (length c.args.row.now) c.requires.some le (sym c.loop-variable.auto.row) c.loop-variable.invariant))
    (starting_coded (length c.args.row.now - 1) c.args.marks.now)
