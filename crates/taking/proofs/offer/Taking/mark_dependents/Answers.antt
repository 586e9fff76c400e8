-- No gate taken speaks of the variable: it is no output, and nothing but itself depends on it.
use Rattle.std.proofs.Common.{◌∙◌, sym, ap, not, take, set, replicate}
use Rattle.taking.specs.Offered.{row}
use Rattle.taking.proofs.LeftOut.{no_output, only_own}
use Rattle.taking.proofs.offer.Taking.mark_dependents.Goals as goal

pub returns-then-is_marked-clause-is : goal.returns-then-is_marked-clause-is
returns-then-is_marked-clause-is c =
    let t = c.args.self.now in
    sym (ap not (no_output (row t) t.fresh c.args.output (sym c.is_marked.ensures ∙ c.if-is_marked.true) (take t.count t.sites.now) t.out))

pub returns-then-is_marked-clause-walked : goal.returns-then-is_marked-clause-walked
returns-then-is_marked-clause-walked c =
    let t = c.args.self.now in
    c.alone.ensures ∙ ap (λ k. set (replicate k 0) c.args.output 1) c.requires.marks
    ∙ only_own (row t) t.fresh c.args.output (sym c.is_marked.ensures ∙ c.if-is_marked.true) t.n (take t.count t.sites.now) t.out
