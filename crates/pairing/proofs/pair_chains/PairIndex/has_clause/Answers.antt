-- The walk along the chain.
use Rattle.std.proofs.Common.{◌≡◌, sym, ◌∙◌, arith, get_or, pos}
use Rattle.std.proofs.lemmas.Grind.{common_steps}
use Rattle.tables.specs.Literal.{literal}
use Rattle.pairing.proofs.ChainSteps.{Walk, walk_begins, walk_inside, walk_falls, walk_finds, walk_turns, walk_ends}
use Rattle.pairing.proofs.pair_chains.PairIndex.has_clause.Goals as goal

pub loop-cell-init : goal.loop-cell-init
loop-cell-init c =
    let row = c.args.self.now.row.now in
    let next = c.args.self.now.next.now in
    let w : Walk row next c.args.x c.args.y c.cell_at-cell.result =
    rw c.cell_at-cell.ensures (walk_begins row c.args.self.now.head.now next c.args.x c.args.y c.args.self.now.indexed) in
    record { walk = w; inside = walk_inside row next c.args.x c.args.y c.cell_at-cell.result w; falls = walk_falls row next c.args.x c.args.y c.cell_at-cell.result w }

pub loop-cell-preserved : goal.loop-cell-preserved
loop-cell-preserved c =
    let row = c.args.self.now.row.now in
    let next = c.args.self.now.next.now in
    let r : c.literal.result ≡ literal (get_or row c.loop-cell.cell (pos 0)) = grind (arith, common_steps) in
    let e : c.args.y ≡ literal (get_or row c.loop-cell.cell (pos 0)) → ⊥ = λ q. c.if-y-literal.false (q ∙ sym r) in
    let w : Walk row next c.args.x c.args.y c.cell_at-cell-in-loop-cell.result =
    rw c.cell_at-cell-in-loop-cell.ensures (walk_turns row next c.args.x c.args.y c.loop-cell.cell c.loop-cell.invariant.walk c.loop-cell-test.true e) in
    record { walk = w; inside = walk_inside row next c.args.x c.args.y c.cell_at-cell-in-loop-cell.result w; falls = walk_falls row next c.args.x c.args.y c.cell_at-cell-in-loop-cell.result w }

pub returns-then-y-literal : goal.returns-then-y-literal
returns-then-y-literal c =
    let e : c.args.y ≡ literal (get_or c.args.self.now.row.now c.loop-cell.cell (pos 0)) = grind (arith, common_steps) in
    sym (walk_finds c.args.self.now.row.now c.args.self.now.next.now c.args.x c.args.y c.loop-cell.cell c.loop-cell.invariant.walk c.loop-cell-test.true e)

pub returns : goal.returns
returns c = sym (walk_ends c.args.self.now.row.now c.args.self.now.next.now c.args.x c.args.y c.loop-cell.cell c.loop-cell.invariant.walk (omega arith))
