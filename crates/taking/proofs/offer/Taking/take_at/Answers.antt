-- The clause is too narrow, its group is taken, or its and-forms are offered.
use Rattle.taking.proofs.Turn.{at_narrow, at_group, at_forms}
use Rattle.taking.proofs.offer.Taking.take_at.Goals as goal

pub returns-then-entries-lt-LEAST_WIDTH-clause-gates : goal.returns-then-entries-lt-LEAST_WIDTH-clause-gates
returns-then-entries-lt-LEAST_WIDTH-clause-gates c = at_narrow c.args.self.now c.args.anchor c.entries.result.now c.entries.ensures c.if-entries-lt-LEAST_WIDTH.true

pub returns-then-offer_group-clause-gates : goal.returns-then-offer_group-clause-gates
returns-then-offer_group-clause-gates c = at_group c.args.self.now c.args.anchor c.entries.result.now c.entries.ensures c.if-entries-lt-LEAST_WIDTH.false c.offer_group.new.self c.if-offer_group.ensures

pub returns-clause-gates : goal.returns-clause-gates
returns-clause-gates c =
    at_forms c.args.self.now c.args.anchor c.entries.result.now c.entries.ensures c.if-entries-lt-LEAST_WIDTH.false c.offer_group.new.self c.offer_forms.new.self c.offer_forms.result c.if-offer_group.ensures
    c.offer_forms.ensures
