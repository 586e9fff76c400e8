-- One level more.
use Rattle.std.proofs.Common.{◌∙◌, sym, ap, ℕ, ◌+◌, length, arith}
use Rattle.std.specs.List.{flat_map, range_with_len}
use Rattle.texts.specs.Laying.{laid, lay}
use Rattle.rules.specs.Listing.{line_g, gates_at}
use Rattle.gates.specs.TakenGates.{gates_in}
use Rattle.listing.proofs.Walks.{range_begins, range_on, range_ends}
use Rattle.listing.proofs.GateSteps.{levels_of}
use Rattle.listing.proofs.gate_lines.put_lines_g.Goals as goal

pub loop-level-init : goal.loop-level-init
loop-level-init c = range_begins (λ k. flat_map (λ v. flat_map (line_g k) (gates_at c.args.survey.now.evening.n (gates_in c.args.survey.now.evening.taken) k v)) (range_with_len 1 c.args.survey.now.evening.n)) (laid c.args.laying.now) (length c.args.survey.now.evening.taken.sites.now)

pub loop-level-preserved : goal.loop-level-preserved
loop-level-preserved c = c.loop-level.invariant ∙ range_on (λ k. flat_map (λ v. flat_map (line_g k) (gates_at c.args.survey.now.evening.n (gates_in c.args.survey.now.evening.taken) k v)) (range_with_len 1 c.args.survey.now.evening.n)) _ _ c.loop-level.level (length c.args.survey.now.evening.taken.sites.now) (omega arith) c.put_level.ensures

pub returns : goal.returns
returns c =
    let e = c.args.survey.now.evening in
    let each = λ (k : ℕ). flat_map (λ v. flat_map (line_g k) (gates_at e.n (gates_in e.taken) k v)) (range_with_len 1 e.n) in
    sym (c.loop-level.invariant ∙ range_ends each _ c.loop-level.level (length e.taken.sites.now) (omega arith))
    ∙ ap (lay (laid c.args.laying.now)) (levels_of e.n e.taken.row.now e.taken.sites.now)

-- The loop ends behind its last level.
pub returns-2 : goal.returns-2
returns-2 c =
    let e = c.args.survey.now.evening in
    let k = c.loop-level.level in
    let each = λ (k : ℕ). flat_map (λ v. flat_map (line_g k) (gates_at e.n (gates_in e.taken) k v)) (range_with_len 1 e.n) in
    sym
    (c.loop-level.invariant ∙ range_on each _ _ k (length e.taken.sites.now) (omega arith) c.put_level.ensures
    ∙ range_ends each _ (k + 1) (length e.taken.sites.now) (omega arith))
    ∙ ap (lay (laid c.args.laying.now)) (levels_of e.n e.taken.row.now e.taken.sites.now)
