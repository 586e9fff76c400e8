-- One and-form more is offered.
use Rattle.std.proofs.Common.{◌≡◌, ◌+◌, sym, subst, true, false, get_or, pos, rules}
use mathlib.Core.List.{Memᴰ}
use Rattle.tables.specs.Literal.{literal}
use Rattle.rules.specs.Patterns.{and_form}
use Rattle.taking.specs.Anchors.{literals}
use Rattle.taking.specs.Offered.{row}
use Rattle.taking.proofs.Offers.{offered_none}
use Rattle.taking.proofs.Walk.{literal_in, before_more, before_done}
use Rattle.taking.proofs.offer.Taking.offer_forms.Goals as goal

pub loop-entry-init : goal.loop-entry-init
loop-entry-init c = offered_none c.args.self.now

pub offer_form-requires-clause-output : goal.offer_form-requires-clause-output
offer_form-requires-clause-output c =
    let s = c.args.self.now in
    let is : c.literal.result ≡ literal (get_or c.entries-entry-items.result.now c.loop-entry.entry-index (pos 0)) = search rules in
    subst (λ r. Memᴰ c.literal.result (literals r c.args.anchor)) (sym c.loop-entry.invariant.row)
    (literal_in (row s) c.args.anchor c.entries-entry-items.result.now c.loop-entry.entry-index c.literal.result c.entries-entry-items.ensures c.loop-entry-test.true is)

pub returns-then-offer_form : goal.returns-then-offer_form
returns-then-offer_form c =
    let s = c.args.self.now in
    let entries = c.entries-entry-items.result.now in
    let is : c.literal.result ≡ literal (get_or entries c.loop-entry.entry-index (pos 0)) = search rules in
    before_done and_form s c.args.anchor entries c.entries-entry-items.ensures c.offer_form.new.self (c.loop-entry.entry-index + 1)
    (before_more and_form s c.args.anchor entries c.loop-entry.self c.offer_form.new.self true c.loop-entry.entry-index c.literal.result c.loop-entry-test.true is c.loop-entry.invariant c.if-offer_form.ensures)

pub loop-entry-preserved : goal.loop-entry-preserved
loop-entry-preserved c =
    let s = c.args.self.now in
    let entries = c.entries-entry-items.result.now in
    let is : c.literal.result ≡ literal (get_or entries c.loop-entry.entry-index (pos 0)) = search rules in
    before_more and_form s c.args.anchor entries c.loop-entry.self c.offer_form.new.self false c.loop-entry.entry-index c.literal.result c.loop-entry-test.true is c.loop-entry.invariant c.if-offer_form.ensures
