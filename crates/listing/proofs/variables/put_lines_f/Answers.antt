-- One variable more is done.
use Rattle.std.proofs.Common.{◌∙◌, sym, cond, [], arith}
use Rattle.texts.specs.Laying.{laid}
use Rattle.rules.specs.Pairs.{fixed}
use Rattle.rules.specs.Listing.{line_f}
use Rattle.listing.proofs.Walks.{some_begins, range_on, range_ends}
use Rattle.listing.proofs.variables.put_lines_f.Goals as goal

pub loop-variable-init : goal.loop-variable-init
loop-variable-init c = some_begins (line_f c.args.stands.now) (fixed c.args.stands.now) (laid c.args.laying.now) c.args.n

pub loop-variable-preserved : goal.loop-variable-preserved
loop-variable-preserved c =
    let st = c.args.stands.now in
    c.loop-variable.invariant ∙ range_on (λ v. cond (fixed st v) (line_f st v) []) _ _ c.loop-variable.variable c.args.n (omega arith) c.put_fixed.ensures

pub returns : goal.returns
returns c =
    let st = c.args.stands.now in
    sym (c.loop-variable.invariant ∙ range_ends (λ v. cond (fixed st v) (line_f st v) []) _ c.loop-variable.variable c.args.n (omega arith))
