-- One entry more is read.
use Rattle.std.proofs.Common.{◌≡◌, ◌∙◌, sym, ap, ◌^◌, ◌*◌, ◌+◌, ◌<◌, get_or, pos, arith, rules}
use Rattle.tables.specs.Literal.{literal, neg}
use Rattle.patterns.proofs.Ones.{one_if, below_32, one_byte, one_if_below, read, read_more}
use Rattle.patterns.proofs.signs.signs.Goals as goal

pub loop-entry-preserved : goal.loop-entry-preserved
loop-entry-preserved c =
    let i = c.loop-entry.invariant in
    let b : c.from.result ≡ one_if (neg (literal (get_or c.args.clause.now c.loop-entry.entry-index (pos 0)))) =
    c.from.ensures ∙ one_byte c.is_negative.result ∙ ap one_if (c.is_negative.ensures ∙ ap neg (c.literal.ensures ∙ ap literal (search rules))) in (
      i.0 ∙ read_more c.args.clause.now c.loop-entry.signs c.loop-entry.entry-index (omega arith) ∙ ap (λ n. read (2 * c.loop-entry.signs + n) (c.loop-entry.entry-index + 1) c.args.clause.now) (sym b),
      let w : 2 * c.loop-entry.signs + one_if (neg (literal (get_or c.args.clause.now c.loop-entry.entry-index (pos 0)))) < 2 ^ (c.loop-entry.entry-index + 1) = one_if_below _ _ _ i.1 in rw (b) w,
    )

pub returns-clause-within : goal.returns-clause-within
returns-clause-within c = below_32 c.loop-entry.signs c.loop-entry.entry-index c.loop-entry.invariant.1 (omega arith)
