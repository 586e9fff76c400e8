-- The form is not found, or it is offered.
use Rattle.std.proofs.Common.{◌∙◌, sym, subst, true, false}
use Rattle.rules.specs.Patterns.{and_form}
use Rattle.circuits.proofs.Taken.{Valid}
use Rattle.gates.specs.Sites.{gate_of}
use Rattle.taking.specs.Anchors.{literals}
use Rattle.taking.specs.Offered.{row, table}
use Rattle.taking.proofs.Walk.{form_here, form_valid, form_offered, not_found}
use Rattle.taking.proofs.offer.Taking.offer_form.Goals as goal

pub returns-then-not-and_form_found : goal.returns-then-not-and_form_found
returns-then-not-and_form_found c =
    let t = c.args.self.now in
    not_found t (and_form (literals (row t) c.args.anchor) c.args.output)
    (form_here (table t) (row t) c.args.anchor c.entries.result.now c.args.output false c.entries.ensures (sym c.if-not-and_form_found.true ∙ c.and_form_found.ensures))

pub offer-requires-clause-valid : goal.offer-requires-clause-valid
offer-requires-clause-valid c =
    let t = c.args.self.now in
    let f = form_here (table t) (row t) c.args.anchor c.entries.result.now c.args.output true c.entries.ensures (sym c.if-not-and_form_found.false ∙ c.and_form_found.ensures) in
    subst (λ s. ∥ Valid t.n (table t) (gate_of (row t) s) ∥₁) (sym c.form.ensures) (form_valid t c.args.anchor c.args.output c.requires.clause c.requires.output f)

pub returns : goal.returns
returns c =
    let t = c.args.self.now in
    let f = form_here (table t) (row t) c.args.anchor c.entries.result.now c.args.output true c.entries.ensures (sym c.if-not-and_form_found.false ∙ c.and_form_found.ensures) in
    form_offered t c.offer.new.self c.offer.result c.args.anchor c.args.output c.form.result c.form.ensures f c.offer.ensures
