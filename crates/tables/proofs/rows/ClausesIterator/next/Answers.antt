use Rattle.std.proofs.Common.{length, ap, rules}
use Rattle.tables.proofs.EndedClauses.{first_lent}
use Rattle.tables.proofs.rows.ClausesIterator.next.Goals as goal

pub returns-clause-steps : goal.returns-clause-steps
returns-clause-steps c = first_lent c.args.self.now.rest.now c.in_ok-end.end (search rules) (search rules) (search rules)

pub returns-clause-goes : goal.returns-clause-goes
returns-clause-goes c =
    let shorter = ap length (first_lent c.args.self.now.rest.now c.in_ok-end.end (search rules) (search rules) (search rules)) in
    search rules
