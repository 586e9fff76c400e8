-- One clause more is gone through.
use Rattle.std.proofs.Common.{rules}
use Rattle.taking.proofs.Rest.{clause_ends, rest_clause, rest_goes}
use Rattle.taking.proofs.offer.Taking.take_all.Goals as goal

pub overflow_add-end : goal.overflow_add-end
overflow_add-end c =
    let l = c.loop-clause in
    let end = clause_ends c.args.self.now l.self l.start c.in-Some.clause.now _ _ l.invariant c.in-Some.ensures.steps in
    search rules

pub take_at-requires : goal.take_at-requires
take_at-requires c =
    let l = c.loop-clause in
    rest_clause c.args.self.now l.self l.start c.in-Some.clause.now _ _ l.invariant c.in-Some.ensures.steps

pub overflow_add-start : goal.overflow_add-start
overflow_add-start c =
    let l = c.loop-clause in
    let end = clause_ends c.args.self.now l.self l.start c.in-Some.clause.now _ _ l.invariant c.in-Some.ensures.steps in
    search rules

pub loop-clause-preserved : goal.loop-clause-preserved
loop-clause-preserved c =
    let l = c.loop-clause in
    rest_goes c.args.self.now l.self l.start c.in-Some.clause.now _ _ l.invariant c.in-Some.ensures.steps c.take_at.new.self c.take_at.ensures.row c.take_at.ensures.n c.take_at.ensures.gates
