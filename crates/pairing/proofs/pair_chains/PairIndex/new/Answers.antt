-- One clause more: of two literals, or another.
use Rattle.std.proofs.Common.{◌≡◌, ◌∙◌, refl, ◌<◌, length, get_or, pos, subst, arith, rules}
use Rattle.std.proofs.lemmas.Grind.{common_steps}
use Rattle.tables.specs.Literal.{literal}
use Rattle.pairing.proofs.ChainSteps.{Chained, chained_same, clause_within, left_at, first_at, chain_links_at, chain_passes_at}
use Rattle.pairing.proofs.pair_chains.PairIndex.new.Goals as goal
use Rattle.pairing.proofs.pair_chains.PairIndex.new.Goals.{then-clause-eq2, else-clause-eq2}

pub link-requires-clause-first_in : goal.link-requires-clause-first_in
link-requires-clause-first_in c =
    let row = c.args.row.now in
    let start = c.loop-clause.start in
    let at = c.loop-clause.invariant.at ∙ c.in-Some.ensures.steps in
    let w = clause_within row c.in-Some.clause.now start _ at in
    let f = first_at row c.in-Some.clause.now start _ at c.if-clause-eq2.true in
    let r : c.literal.result ≡ literal (get_or c.in-Some.clause.now 0 (pos 0)) = grind (arith, common_steps) in
    let below = c.requires.inside start (pos 0) (omega arith) in
    omega (arith, f, r, below, c.loop-clause.auto.head)

pub link-requires-clause-start_in : goal.link-requires-clause-start_in
link-requires-clause-start_in c =
    let w = clause_within c.args.row.now c.in-Some.clause.now c.loop-clause.start _ (c.loop-clause.invariant.at ∙ c.in-Some.ensures.steps) in
    omega (arith, w, c.requires.room, c.loop-clause.auto.next)

pub link-requires-clause-fits : goal.link-requires-clause-fits
link-requires-clause-fits c =
    let w = clause_within c.args.row.now c.in-Some.clause.now c.loop-clause.start _ (c.loop-clause.invariant.at ∙ c.in-Some.ensures.steps) in
    omega (arith, w, c.requires.short)

pub overflow_add-start-in-loop-clause : goal.overflow_add-start-in-loop-clause
overflow_add-start-in-loop-clause c =
    let w = clause_within c.args.row.now c.in-Some.clause.now c.loop-clause.start _ (c.loop-clause.invariant.at ∙ c.in-Some.ensures.steps) in search rules

pub loop-clause-preserved : goal.loop-clause-preserved
loop-clause-preserved c =
    let row = c.args.row.now in
    let clause = c.in-Some.clause.now in
    let start = c.loop-clause.start in
    let head = c.loop-clause.head in
    let next = c.loop-clause.next in
    let at = c.loop-clause.invariant.at ∙ c.in-Some.ensures.steps in
    let w = clause_within row clause start _ at in
    let chained = subst (λ cs. Chained row head next start cs) c.in-Some.ensures.steps c.loop-clause.invariant.chained in
    record {
      chained = elim c.if-clause-eq2.branch [
        | then-clause-eq2 v ↦
            let r : v.literal.result ≡ literal (get_or clause 0 (pos 0)) = grind (arith, common_steps) in
            let f = first_at row clause start _ at v.if-clause-eq2.true in
            let below = c.requires.inside start (pos 0) (omega arith) in
            let there : start < length next = omega (arith, w, c.requires.room, c.loop-clause.auto.next) in
            let first : literal (get_or clause 0 (pos 0)) < length head = omega (arith, f, below, c.loop-clause.auto.head) in
            chained_same row _ _ _ _ _ _ _ _ (cc) (cc) refl refl (chain_links_at row clause start _ at v.if-clause-eq2.true head next chained there first)
        | else-clause-eq2 v ↦ chained_same row _ _ _ _ _ _ _ _ v.head-is v.next-is refl refl (chain_passes_at row clause start _ at head next chained v.if-clause-eq2.false)
      ];
      at = left_at row clause start _ at;
    }
