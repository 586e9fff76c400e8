-- One entry more is read back: a zero, or another.
use Rattle.std.proofs.Common.{◌≡◌, ◌∙◌, ap, get_or, pos, arith, rules}
use Rattle.tables.specs.Literal.{literal, var}
use Rattle.tables.proofs.Entries.{is_end, no_end}
use Rattle.patterns.proofs.Chains.{heads_end, heads_on}
use Rattle.patterns.proofs.index.read_back.Goals as goal

pub offset_bounds-heads-key : goal.offset_bounds-heads-key
offset_bounds-heads-key c = let k = c.requires.heads.keys in omega arith

pub bounds-heads-key : goal.bounds-heads-key
bounds-heads-key c = let k = c.requires.heads.keys in omega arith

pub returns-then-row-place-eq0-clause-heads : goal.returns-then-row-place-eq0-clause-heads
returns-then-row-place-eq0-clause-heads c =
    heads_end c.args.row.now c.args.place c.args.key c.args.heads.now c.requires.inside c.requires.heads c.requires.small (is_end _ (search rules) c.if-row-place-eq0.true)

pub returns-else-row-place-eq0-clause-heads : goal.returns-else-row-place-eq0-clause-heads
returns-else-row-place-eq0-clause-heads c =
    let v : c.var.result ≡ var (literal (get_or c.args.row.now c.args.place (pos 0))) = c.var.ensures ∙ ap var (c.literal.ensures ∙ ap literal (search rules)) in
    rw (c.key_with.ensures.is, v) (heads_on c.args.row.now c.args.place c.args.key c.args.heads.now c.requires.inside c.requires.heads (no_end _ c.if-row-place-eq0.false))
