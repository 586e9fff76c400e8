-- The group is not found, or with one output more it is offered.
use Rattle.std.proofs.Common.{◌≡◌, ◌+◌, sym, subst, true, false, get_or, pos, rules}
use mathlib.Core.List.{Memᴰ}
use Rattle.tables.specs.Literal.{literal}
use Rattle.rules.specs.Patterns.{parity}
use Rattle.circuits.proofs.Taken.{Valid}
use Rattle.gates.specs.Sites.{gate_of}
use Rattle.taking.specs.Anchors.{IsClause, literals}
use Rattle.taking.specs.Offered.{Offered, row, table}
use Rattle.taking.proofs.Offers.{offered_none}
use Rattle.taking.proofs.Walk.{Whole, literal_in, before_more, before_done, before_all, whole_here, groups_whole, groups_none, group_offered, group_valid}
use Rattle.taking.proofs.offer.Taking.offer_group.Goals as goal

pub returns-then-not-parity_found : goal.returns-then-not-parity_found
returns-then-not-parity_found c =
    let s = c.args.self.now in
    subst (Offered s s false) (sym (groups_none (row s) c.args.anchor c.entries-entries.result.now c.parity_found.result c.entries-entries.ensures c.if-not-parity_found.true c.parity_found.ensures))
    (offered_none s)

pub loop-entry-init : goal.loop-entry-init
loop-entry-init c = offered_none c.args.self.now

pub offer-requires-clause-valid : goal.offer-requires-clause-valid
offer-requires-clause-valid c =
    let s = c.args.self.now in
    let t = c.loop-entry.self in
    let entries = c.entries-entries.result.now in
    let is : c.literal.result ≡ literal (get_or entries c.loop-entry.entry-index (pos 0)) = search rules in
    let at : Memᴰ c.literal.result (literals (row s) c.args.anchor) = literal_in (row s) c.args.anchor entries c.loop-entry.entry-index c.literal.result c.entries-entries.ensures c.loop-entry-test.true is in
    let whole = whole_here (row s) c.args.anchor entries c.parity_found.result c.entries-entries.ensures c.if-not-parity_found.false c.parity_found.ensures in
    let there = sym c.loop-entry.invariant.row in
    subst (λ g. ∥ Valid t.n (table t) (gate_of (row t) g) ∥₁) (sym c.group.ensures)
    (group_valid t c.args.anchor c.literal.result (subst (λ r. IsClause r c.args.anchor) there c.requires.clause) (subst (λ r. Memᴰ c.literal.result (literals r c.args.anchor)) there at)
    (subst (λ r. Whole r c.args.anchor) there whole))

pub returns-then-offer : goal.returns-then-offer
returns-then-offer c =
    let s = c.args.self.now in
    let t = c.loop-entry.self in
    let entries = c.entries-entries.result.now in
    let is : c.literal.result ≡ literal (get_or entries c.loop-entry.entry-index (pos 0)) = search rules in
    let whole = whole_here (row s) c.args.anchor entries c.parity_found.result c.entries-entries.ensures c.if-not-parity_found.false c.parity_found.ensures in
    let there = subst (λ r. Whole r c.args.anchor) (sym c.loop-entry.invariant.row) whole in
    subst (Offered s c.offer.new.self true) (sym (groups_whole (row s) c.args.anchor whole))
    (before_done parity s c.args.anchor entries c.entries-entries.ensures c.offer.new.self (c.loop-entry.entry-index + 1)
    (before_more parity s c.args.anchor entries t c.offer.new.self true c.loop-entry.entry-index c.literal.result c.loop-entry-test.true is c.loop-entry.invariant
    (group_offered t c.offer.new.self true c.args.anchor c.literal.result c.group.result c.group.ensures there c.if-offer.ensures)))

pub loop-entry-preserved : goal.loop-entry-preserved
loop-entry-preserved c =
    let s = c.args.self.now in
    let t = c.loop-entry.self in
    let entries = c.entries-entries.result.now in
    let is : c.literal.result ≡ literal (get_or entries c.loop-entry.entry-index (pos 0)) = search rules in
    let whole = whole_here (row s) c.args.anchor entries c.parity_found.result c.entries-entries.ensures c.if-not-parity_found.false c.parity_found.ensures in
    let there = subst (λ r. Whole r c.args.anchor) (sym c.loop-entry.invariant.row) whole in
    before_more parity s c.args.anchor entries t c.offer.new.self false c.loop-entry.entry-index c.literal.result c.loop-entry-test.true is c.loop-entry.invariant
    (group_offered t c.offer.new.self false c.args.anchor c.literal.result c.group.result c.group.ensures there c.if-offer.ensures)

pub returns : goal.returns
returns c =
    let s = c.args.self.now in
    let entries = c.entries-entries.result.now in
    let whole = whole_here (row s) c.args.anchor entries c.parity_found.result c.entries-entries.ensures c.if-not-parity_found.false c.parity_found.ensures in
    subst (Offered s c.loop-entry.self false) (sym (groups_whole (row s) c.args.anchor whole))
    (before_all parity s c.args.anchor entries c.entries-entries.ensures c.loop-entry.self c.loop-entry.entry-index c.loop-entry-test.false c.loop-entry.invariant)
