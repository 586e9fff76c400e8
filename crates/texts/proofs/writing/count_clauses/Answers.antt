-- As many as zeros.
use Rattle.std.proofs.Common.{rules}
use Rattle.texts.proofs.WriteSteps.{clauses_counted}
use Rattle.texts.proofs.writing.count_clauses.Goals as goal

pub returns-clause-is : goal.returns-clause-is
returns-clause-is c = rw clauses_counted (search rules)
