-- Asking goes down the levels, and every answer is right.
use Rattle.std.proofs.Common.{◌≡◌, ◌-◌, ◌*◌, ◌<◌, cond, [], ◌∷◌, length, refl, sym, ap, subst, ◌∙◌, arith, rules}
use mathlib.Core.List.{Memᴰ}
use Rattle.tables.specs.Literal.{var}
use Rattle.gates.specs.Inputs.{inputs, to_come}
use Rattle.gates.proofs.InputSteps.{few_come}
use Rattle.filling.specs.Asking.{IsTaken, ended, level}
use Rattle.gates.proofs.SiteGates.{value_counted}
use Rattle.filling.proofs.AskSteps.{site_within, count_more, count_all, low_turn, gate_ended, gate_level, input_falls, remembers_more, given_ended, found, missing}
use Rattle.filling.proofs.ask.+asking.Goals as goal
use Rattle.filling.proofs.ask.+asking.Goals.{variable_value-in-Some-gate_for, variable_value-in-None}

pub gate_value-site_kind-kind-requires : goal.gate_value-site_kind-kind-requires
gate_value-site_kind-kind-requires t c = site_within c.args.circuit.now c.requires.circuit c.args.site c.requires.site

pub gate_value-inputs-input-items-requires : goal.gate_value-inputs-input-items-requires
gate_value-inputs-input-items-requires t c = site_within c.args.circuit.now c.requires.circuit c.args.site c.requires.site

pub gate_value-loop-input-init : goal.gate_value-loop-input-init
gate_value-loop-input-init t c =
    let e : to_come c.into_iter-input-iterator.result ≡ inputs c.args.circuit.now.taken.row.now c.args.site = cc in
    record {
      memo = c.requires.memo;
      left = λ x i. subst (Memᴰ x) e i;
      counted = rw (e) (omega arith);
      number = rw (e) (omega arith);
      few = omega (arith, few_come c.inputs-input-items.result, ap length c.inputs-input-items.ensures);
      low = omega arith;
    }

pub gate_value-loop-input-preserved : goal.gate_value-loop-input-preserved
gate_value-loop-input-preserved t c =
    let e : to_come c.loop-input.input-iterator ≡ c.in-Some.input ∷ to_come c.next.new.self = c.in-Some.ensures.steps in
    let one : c.from-trues.result ≡ cond c.is_counted.result 1 0 = search rules in
    record {
      memo = c.variable_value-value.ensures.memo;
      left = λ x i. c.loop-input.invariant.left x (subst (Memᴰ x) (sym e) (Memᴰ.tail i));
      counted = count_more (ended c.args.circuit.now) c.site_kind-kind.result _ c.loop-input.trues c.from-trues.result c.in-Some.input c.variable_value-value.result c.is_counted.result _ _ e
          (c.variable_value-value.ensures.is ∙ ap (ended c.args.circuit.now) c.var.ensures) c.is_counted.ensures one c.loop-input.invariant.counted;
      number = omega (arith, ap length e);
      few = c.loop-input.invariant.few;
      low = low_turn c.loop-input.trues c.loop-input.inputs c.from-trues.result c.is_counted.result one c.loop-input.invariant.low;
    }

pub gate_value-variable_value-value-requires : goal.gate_value-variable_value-value-requires
gate_value-variable_value-value-requires t c =
    let e : to_come c.loop-input.input-iterator ≡ c.in-Some.input ∷ to_come c.next.new.self = c.in-Some.ensures.steps in
    let r : 2 * level c.args.circuit.now c.var.result < t = omega (
      arith,
      input_falls c.args.circuit.now c.requires.circuit c.args.site c.requires.site c.in-Some.input c.var.result (c.loop-input.invariant.left c.in-Some.input (subst (Memᴰ c.in-Some.input) (sym e) (Memᴰ.head refl))) c.var.ensures,
    ) in
    (r, (c.requires.circuit, (c.requires.placed, c.loop-input.invariant.memo)))

pub gate_value-returns-clause-is : goal.gate_value-returns-clause-is
gate_value-returns-clause-is t c =
    let e : to_come c.loop-input.input-iterator ≡ [] = c.in-None.ensures.steps.0 in
    c.rule_of.ensures
    ∙ value_counted c.args.circuit.now.taken.row.now c.args.site (ended c.args.circuit.now) _ _ _ c.site_kind-kind.ensures.is c.site_kind-kind.ensures.within
    (count_all _ _ c.loop-input.trues _ e c.loop-input.invariant.counted)
    (omega (arith, ap length e, c.loop-input.invariant.number))
    ∙ gate_ended c.args.circuit.now c.requires.circuit c.args.site c.requires.site

pub variable_value-gate_value-value-requires : goal.variable_value-gate_value-value-requires
variable_value-gate_value-value-requires t c =
    let (member, at) = found c.args.circuit.now.taken.sites.now c.args.variable c.gate_for.result c.in-Some-gate_for.site c.gate_for.ensures c.in-Some-gate_for.is in
    let taken : IsTaken c.args.circuit.now c.in-Some-gate_for.site = record { member = member } in
    let r : 2 * level c.args.circuit.now (var c.in-Some-gate_for.site.output) - 1 < t = omega (arith, gate_level c.args.circuit.now c.requires.circuit c.in-Some-gate_for.site taken, ap (level c.args.circuit.now) at) in
    (r, (c.requires.circuit, (taken, (c.requires.placed, c.requires.memo))))

pub variable_value-returns-clause-is : goal.variable_value-returns-clause-is
variable_value-returns-clause-is t c =
    elim c.match-gate_for.branch [
      | variable_value-in-Some-gate_for w ↦ (
          w.value-is ∙ w.gate_value-value.ensures.is
          ∙ ap (ended c.args.circuit.now) (found c.args.circuit.now.taken.sites.now c.args.variable c.gate_for.result w.in-Some-gate_for.site c.gate_for.ensures w.in-Some-gate_for.is).1
          )
      | variable_value-in-None w ↦ w.value-is ∙ w.is_set-value.ensures ∙ given_ended c.args.circuit.now c.requires.circuit c.args.variable (missing c.args.circuit.now.taken.sites.now c.args.variable c.gate_for.result c.gate_for.ensures w.in-None.is)
    ]

pub variable_value-returns-clause-memo : goal.variable_value-returns-clause-memo
variable_value-returns-clause-memo t c =
    rw c.remember.ensures (remembers_more c.args.circuit.now c.match-gate_for.memo c.args.variable c.match-gate_for.value
    (elim c.match-gate_for.branch [
      | variable_value-in-Some-gate_for w ↦ rw w.memo-is w.gate_value-value.ensures.memo
      | variable_value-in-None w ↦ rw w.memo-is c.requires.memo
    ])
    (variable_value-returns-clause-is t c))
