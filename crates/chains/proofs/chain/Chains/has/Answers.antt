-- The row's clauses are those of the covered entries, which are chained, and those behind them.
use Rattle.std.proofs.Common.{◌≡◌, ◌∙◌, sym, ap, ◌||◌, map, drop, take}
use Rattle.ways.specs.Ways.{among}
use Rattle.tables.specs.Literal.{literal}
use Rattle.tables.specs.Clause.{clauses}
use Rattle.chains.proofs.Growing.{covered_has}
use Rattle.chains.proofs.chain.Chains.has.Goals as goal

pub returns-then-is_chained : goal.returns-then-is_chained
returns-then-is_chained c =
    let row = c.args.row.now in
    let covered = c.args.self.now.covered in
    let d = map literal c.args.clause.now in
    let a : c.is_chained.result ≡ among d (clauses (take covered row)) = c.is_chained.ensures ∙ ap (λ zs. among d (clauses zs)) c.split_at.ensures.front in
    c.if-is_chained.true ∙ sym (covered_has row covered d c.requires.ended ∙ ap (λ b. b || among d (clauses (drop covered row))) (sym a ∙ c.if-is_chained.true))

pub returns-else-is_chained : goal.returns-else-is_chained
returns-else-is_chained c =
    let row = c.args.row.now in
    let covered = c.args.self.now.covered in
    let d = map literal c.args.clause.now in
    let a : c.is_chained.result ≡ among d (clauses (take covered row)) = c.is_chained.ensures ∙ ap (λ zs. among d (clauses zs)) c.split_at.ensures.front in
    c.is_one_of.ensures ∙ ap (λ zs. among d (clauses zs)) c.split_at.ensures.back
    ∙ sym (covered_has row covered d c.requires.ended ∙ ap (λ b. b || among d (clauses (drop covered row))) (sym a ∙ c.if-is_chained.false))
