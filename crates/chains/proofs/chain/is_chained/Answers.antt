-- The walk along the chain of the clause's key.
use Rattle.std.proofs.Common.{◌≡◌, ◌∙◌, sym, ap, ◌-◌, false, map, get_or, arith}
use Rattle.ways.specs.Ways.{same}
use Rattle.tables.specs.Literal.{literal}
use Rattle.chains.specs.Key.{key}
use Rattle.chains.specs.Links.{clause_at}
use Rattle.chains.proofs.Walks.{Walk, walk_begins, stop, walk_turns, walk_ends}
use Rattle.chains.proofs.chain.is_chained.Goals as goal

pub loop-cell-init : goal.loop-cell-init
loop-cell-init c =
    let row = c.args.row.now in
    let links = c.args.links.now in
    let d = map literal c.args.clause.now in
    let e : c.cell_at-cell.result ≡ get_or c.args.heads.now (key d) 0 = c.cell_at-cell.ensures ∙ ap (λ k. get_or c.args.heads.now k 0) c.key_of.ensures.is in
    let w : Walk row links d c.cell_at-cell.result = rw e (walk_begins row c.args.heads.now links d c.requires (rw (← c.key_of.ensures.is) c.key_of.ensures.within)) in
    record { walk = w; stop = stop row links d c.cell_at-cell.result w }

pub loop-cell-preserved : goal.loop-cell-preserved
loop-cell-preserved c =
    let row = c.args.row.now in
    let links = c.args.links.now in
    let d = map literal c.args.clause.now in
    let s = c.loop-cell.invariant.stop c.loop-cell-test.true in
    let other : same d (clause_at row (c.loop-cell.cell - 1)) ≡ false = sym c.stands_at.ensures ∙ c.if-stands_at.false in
    let w : Walk row links d c.cell_at-cell-in-loop-cell.result = rw (c.cell_at-cell-in-loop-cell.ensures) (walk_turns row links d c.loop-cell.cell s other) in
    record { walk = w; stop = stop row links d c.cell_at-cell-in-loop-cell.result w }

pub returns : goal.returns
returns c = sym (walk_ends c.args.row.now c.args.links.now (map literal c.args.clause.now) c.loop-cell.cell c.loop-cell.invariant.walk (omega arith))
