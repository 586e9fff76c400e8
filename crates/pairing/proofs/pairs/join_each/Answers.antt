-- One clause more: a pair, or another.
use Rattle.std.proofs.Common.{◌≡◌, ◌∙◌, ℕ, ◌<◌, refl, sym, ap, length, rules}
use Rattle.std.specs.List.{fold}
use Rattle.tables.specs.Literal.{var}
use Rattle.tables.specs.Clause.{clauses}
use Rattle.tables.proofs.EndedClauses.{all_literals}
use Rattle.rules.specs.Pairs.{join}
use Rattle.pairing.proofs.StandSteps.{join_size}
use Rattle.pairing.proofs.PairSteps.{pairs_are, kept_pair, kept_other, inside_clause, inside_rest}
use Rattle.pairing.proofs.pairs.join_each.Goals as goal

pub loop-clause-init : goal.loop-clause-init
loop-clause-init c =
    let row = c.args.index.now.row.now in
    let at : c.into_iter-clause-iterator.result.rest.now ≡ row = cc in
    let e = pairs_are (clauses row) (clauses c.into_iter-clause-iterator.result.rest.now) (ap clauses at) in
    record {
      joined = ap (fold join c.args.stands.now.row.now) e;
      any = rw e refl;
      inside = rw at (all_literals (λ (x : ℕ). var x < length c.args.stands.now.row.now) row c.requires.inside);
      size = refl;
    }

pub join-requires-clause-inside : goal.join-requires-clause-inside
join-requires-clause-inside c =
    rw c.loop-clause.invariant.size (inside_clause (length c.args.stands.now.row.now) _ c.in-Some.clause.now _ c.in-Some.ensures.steps c.loop-clause.invariant.inside)

pub loop-clause-preserved-then-is_pair : goal.loop-clause-preserved-then-is_pair
loop-clause-preserved-then-is_pair c =
    let i = c.loop-clause.invariant in
    let k = kept_pair _ _ _ _ c.in-Some.ensures.steps (sym c.is_pair.ensures ∙ c.if-is_pair.true) in
    record {
      joined = rw c.join.ensures (i.joined ∙ ap (fold join c.loop-clause.stands.row.now) k);
      any = search (rules, k);
      inside = inside_rest _ _ _ _ c.in-Some.ensures.steps i.inside;
      size = ap length c.join.ensures ∙ join_size _ _ ∙ i.size;
    }

pub loop-clause-preserved : goal.loop-clause-preserved
loop-clause-preserved c =
    let i = c.loop-clause.invariant in
    let k = kept_other _ _ _ _ c.in-Some.ensures.steps (sym c.is_pair.ensures ∙ c.if-is_pair.false) in
    record {
      joined = i.joined ∙ ap (fold join c.loop-clause.stands.row.now) k;
      any = search (rules, k);
      inside = inside_rest _ _ _ _ c.in-Some.ensures.steps i.inside;
      size = i.size;
    }
