-- Where none of the gates is marked, the new one is behind them all.
use Rattle.std.proofs.Common.{◌∙◌, sym, ap, take}
use Rattle.std.proofs.lemmas.Bool.{not-true}
use Rattle.gates.specs.Sites.{gates_of}
use Rattle.taking.proofs.Behind.{placed_behind}
use Rattle.taking.proofs.Placed.{gates_placed}
use Rattle.taking.proofs.put.put.Goals as goal

pub returns-then-none_depends-clause-parts : goal.returns-then-none_depends-clause-parts
returns-then-none_depends-clause-parts c =
    placed_behind c.args.marks.now c.args.sites.now c.args.count c.args.site c.requires.room (not-true _ (sym c.none_depends.ensures ∙ c.if-none_depends.true))

pub returns-then-none_depends-clause-order : goal.returns-then-none_depends-clause-order
returns-then-none_depends-clause-order c row n e =
    let parts = placed_behind c.args.marks.now c.args.sites.now c.args.count c.args.site c.requires.room (not-true _ (sym c.none_depends.ensures ∙ c.if-none_depends.true)) in
    ap (gates_of row) parts ∙ gates_placed row n c.args.marks.now (take c.args.count c.args.sites.now) c.args.site e
