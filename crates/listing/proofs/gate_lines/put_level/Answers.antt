-- One variable of the chain more.
use Rattle.std.proofs.Common.{◌∙◌, ℕ, sym, ap, arith}
use Rattle.std.specs.List.{flat_map}
use Rattle.texts.specs.Laying.{laid, lay}
use Rattle.rules.specs.Circuit.{levels}
use Rattle.rules.specs.Listing.{line_g, gates_at}
use Rattle.gates.specs.TakenGates.{gates_in}
use Rattle.listing.proofs.ChainSteps.{first_behind, next_behind, nearer}
use Rattle.listing.proofs.GateSteps.{level_only, chain_on, chain_ends}
use Rattle.listing.proofs.gate_lines.put_level.Goals as goal

pub loop-variable-init : goal.loop-variable-init
loop-variable-init c =
    let e = c.args.survey.now.evening in
    let gs = gates_in e.taken in
    let k = c.args.level in
    let f = λ (v : ℕ). flat_map (line_g k) (gates_at e.n gs k v) in
    let b = first_behind e.n (levels e.n gs) k c.place_of-variable.result (c.place_of-variable.ensures ∙ c.args.survey.now.chained.first k c.requires) in
    record {
      laid = ap (lay (laid c.args.laying.now)) (level_only e.n k gs ∙ ap (flat_map f) b.rest);
      on = λ d. let h = b.on d in (h.1, h.2);
    }

pub put_gate-requires : goal.put_gate-requires
put_gate-requires c = (c.loop-variable.invariant.on c.loop-variable-test.true).1

pub loop-variable-preserved : goal.loop-variable-preserved
loop-variable-preserved c =
    let e = c.args.survey.now.evening in
    let gs = gates_in e.taken in
    let k = c.args.level in
    let f = λ (v : ℕ). flat_map (line_g k) (gates_at e.n gs k v) in
    let v = c.loop-variable.variable in
    let at = c.loop-variable.invariant.on c.loop-variable-test.true in
    let b = next_behind e.n (levels e.n gs) k v c.place_of-variable-in-loop-variable.result at.0 at.1 (c.place_of-variable-in-loop-variable.ensures ∙ c.args.survey.now.chained.next v (omega arith) at.0) in
    record {
      laid = c.loop-variable.invariant.laid ∙ chain_on f _ _ e.n (levels e.n gs) k v c.place_of-variable-in-loop-variable.result c.loop-variable-test.true b c.put_gate.ensures;
      on = λ d. let h = b.on d in (h.1, h.2);
    }

pub loop-variable-smaller : goal.loop-variable-smaller
loop-variable-smaller c =
    let e = c.args.survey.now.evening in
    let gs = gates_in e.taken in
    let k = c.args.level in
    let v = c.loop-variable.variable in
    let at = c.loop-variable.invariant.on c.loop-variable-test.true in
    let b = next_behind e.n (levels e.n gs) k v c.place_of-variable-in-loop-variable.result at.0 at.1 (c.place_of-variable-in-loop-variable.ensures ∙ c.args.survey.now.chained.next v (omega arith) at.0) in
    nearer e.n v c.place_of-variable-in-loop-variable.result c.loop-variable-test.true at.0 (λ d. (b.on d).0)

pub returns : goal.returns
returns c =
    let e = c.args.survey.now.evening in
    let gs = gates_in e.taken in
    let k = c.args.level in
    let f = λ (v : ℕ). flat_map (line_g k) (gates_at e.n gs k v) in
    sym (c.loop-variable.invariant.laid ∙ chain_ends f _ e.n (levels e.n gs) k c.loop-variable.variable c.loop-variable-test.false)
