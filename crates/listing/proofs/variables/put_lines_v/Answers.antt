-- One variable more is done.
use Rattle.std.proofs.Common.{◌∙◌, ℕ, sym, cond, [], arith}
use Rattle.texts.specs.Laying.{laid}
use Rattle.rules.specs.Circuit.{free}
use Rattle.rules.specs.Listing.{line_v}
use Rattle.gates.specs.TakenGates.{gates_in}
use Rattle.listing.proofs.Walks.{some_begins, range_on, range_ends}
use Rattle.listing.proofs.variables.put_lines_v.Goals as goal

pub loop-variable-init : goal.loop-variable-init
loop-variable-init c = let e = c.args.survey.now.evening in some_begins line_v (free e.stands.now (gates_in e.taken)) (laid c.args.laying.now) e.n

pub loop-variable-preserved : goal.loop-variable-preserved
loop-variable-preserved c =
    let e = c.args.survey.now.evening in
    let each = λ (v : ℕ). cond (free e.stands.now (gates_in e.taken) v) (line_v v) [] in
    c.loop-variable.invariant ∙ range_on each _ _ c.loop-variable.variable e.n (omega arith) c.put_free.ensures

pub returns : goal.returns
returns c =
    let e = c.args.survey.now.evening in
    let each = λ (v : ℕ). cond (free e.stands.now (gates_in e.taken) v) (line_v v) [] in
    sym (c.loop-variable.invariant ∙ range_ends each _ c.loop-variable.variable e.n (omega arith))
