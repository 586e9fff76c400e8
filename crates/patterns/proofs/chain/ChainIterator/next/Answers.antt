-- The clause at the place comes, and then those from its link on.
use Rattle.std.proofs.Common.{◌≡◌, ◌∙◌, ap, sym, ◌≤◌, ◌∷◌, map, length, drop, get_or, arith, rules}
use Rattle.tables.specs.Literal.{literal}
use Rattle.tables.specs.Clause.{clauses}
use Rattle.patterns.specs.Index.{with_key}
use Rattle.patterns.proofs.Steps.{none_left, none_come, is_inside, next_begins, next_comes}
use Rattle.patterns.proofs.chain.ChainIterator.next.Goals as goal

pub returns-in_err-rest-clause-steps : goal.returns-in_err-rest-clause-steps
returns-in_err-rest-clause-steps c =
    let s = c.args.self.now in
    let n : length s.index.row.now ≤ s.at = let l = c.in_err-rest.ensures.cases in omega arith in
    let e = none_come s.key (clauses (drop s.at s.index.row.now)) (none_left s.index.row.now s.at n) in
    rw (c.from_residual.ensures) (e, e)

pub returns-in_err-clause-clause-steps : goal.returns-in_err-clause-clause-steps
returns-in_err-clause-clause-steps c =
    let s = c.args.self.now in
    let d : c.clauses_of.result.rest.now ≡ drop s.at s.index.row.now = c.clauses_of.ensures ∙ c.in_ok-rest.ensures.cases.2 in
    let e = none_come s.key (clauses (drop s.at s.index.row.now)) (ap clauses (sym d) ∙ c.in_err-clause.ensures.steps.0) in
    rw (c.from_residual-in_err-clause.ensures) (e, e)

pub bounds-self-self : goal.bounds-self-self
bounds-self-self c =
    let s = c.args.self.now in
    let d : c.clauses_of.result.rest.now ≡ drop s.at s.index.row.now = c.clauses_of.ensures ∙ c.in_ok-rest.ensures.cases.2 in
    let i = is_inside s.index.row.now s.at _ _ (ap clauses (sym d) ∙ c.in_ok-clause.ensures.steps) in
    let r = s.index.indexed.room in
    omega arith

pub invariant_of-self : goal.invariant_of-self
invariant_of-self c =
    let s = c.args.self.now in
    let d : c.clauses_of.result.rest.now ≡ drop s.at s.index.row.now = c.clauses_of.ensures ∙ c.in_ok-rest.ensures.cases.2 in
    let l : c.from-self.result ≡ get_or s.index.links.now s.at 0 = search rules in
    record { begins = rw (l) (next_begins s.index.row.now _ _ s.index.indexed s.key s.at s.begins _ _ (ap clauses (sym d) ∙ c.in_ok-clause.ensures.steps)) }

pub returns-clause-steps : goal.returns-clause-steps
returns-clause-steps c =
    let s = c.args.self.now in
    let d : c.clauses_of.result.rest.now ≡ drop s.at s.index.row.now = c.clauses_of.ensures ∙ c.in_ok-rest.ensures.cases.2 in
    let l : c.from-self.result ≡ get_or s.index.links.now s.at 0 = search rules in
    rw (l) (next_comes s.index.row.now _ _ s.index.indexed s.key s.at s.begins _ _ (ap clauses (sym d) ∙ c.in_ok-clause.ensures.steps))

pub returns-clause-goes : goal.returns-clause-goes
returns-clause-goes c =
    let s = c.args.self.now in
    let d : c.clauses_of.result.rest.now ≡ drop s.at s.index.row.now = c.clauses_of.ensures ∙ c.in_ok-rest.ensures.cases.2 in
    let l : c.from-self.result ≡ get_or s.index.links.now s.at 0 = search rules in
    let e : with_key s.key (clauses (drop s.at s.index.row.now)) ≡ map literal c.in_ok-clause.clause.now ∷ with_key s.key (clauses (drop c.from-self.result s.index.row.now)) =
    rw (l) (next_comes s.index.row.now _ _ s.index.indexed s.key s.at s.begins _ _ (ap clauses (sym d) ∙ c.in_ok-clause.ensures.steps)) in
    let f = ap length e in
    search (rules, arith)
