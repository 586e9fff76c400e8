-- What is left of the chain tells.
use Rattle.std.proofs.Common.{◌-◌, ◌<◌, length, get_or}
use Rattle.pairing.proofs.ChainSteps.{Walk}
use Rattle.pairing.proofs.pair_chains.PairIndex.has_clause.Given as goal

abbrev pub invariant-loop-cell : goal.invariant-loop-cell
invariant-loop-cell l = record {
  walk : Walk l.self.row.now l.self.next.now l.x l.y l.cell;
  inside : 0 < l.cell → l.cell < length l.self.row.now;
  falls : 0 < l.cell → get_or l.self.next.now (l.cell - 1) 0 < l.cell;
}

abbrev pub decreases-loop-cell : goal.decreases-loop-cell
decreases-loop-cell l = l.cell
