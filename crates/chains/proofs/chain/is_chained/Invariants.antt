-- What is left of the chain tells.
use Rattle.std.proofs.Common.{◌<◌, map}
use Rattle.tables.specs.Literal.{literal}
use Rattle.chains.proofs.Walks.{Walk, Stop}
use Rattle.chains.proofs.chain.is_chained.Given as goal

abbrev pub invariant-loop-cell : goal.invariant-loop-cell
invariant-loop-cell l = record {
  walk : Walk l.row l.links (map literal l.clause) l.cell;
  stop : 0 < l.cell → Stop l.row l.links (map literal l.clause) l.cell;
}

abbrev pub decreases-loop-cell : goal.decreases-loop-cell
decreases-loop-cell l = l.cell
