-- The gate is not allowed; or it is, there is room for it, and it is in its place.
use Rattle.std.proofs.Common.{◌∙◌, refl, sym, ap, subst, take, arith}
use Rattle.std.specs.List.{All}
use Rattle.std.proofs.lemmas.Bool.{OnTrue_from}
use Rattle.tables.specs.Literal.{var}
use Rattle.rules.specs.Forced.{marked}
use Rattle.gates.specs.Sites.{Within, gate_of}
use Rattle.taking.specs.Offered.{row, table, gates}
use Rattle.taking.specs.Placing.{placed}
use Rattle.taking.specs.Fresh.{IsOut}
use Rattle.taking.proofs.Placed.{all_placed}
use Rattle.taking.proofs.LeftOut.{all_out, none_depends}
use Rattle.taking.proofs.Offers.{one_passed, one_taken, next_fits, still_taken}
use Rattle.taking.proofs.offer.Taking.offer.Goals as goal

pub returns-then-not-is_allowed : goal.returns-then-not-is_allowed
returns-then-not-is_allowed c =
    let t = c.args.self.now in
    one_passed (gate_of (row t) c.args.site) t (sym c.is_allowed.ensures.is ∙ c.if-not-is_allowed.true)

pub put-requires-clause-room : goal.put-requires-clause-room
put-requires-clause-room c =
    let t = c.args.self.now in
    omega (arith, next_fits t (gate_of (row t) c.args.site) c.requires.valid (sym c.is_allowed.ensures.is ∙ c.if-not-is_allowed.false))

pub put-requires-clause-last : goal.put-requires-clause-last
put-requires-clause-last c =
    let t = c.args.self.now in
    OnTrue_from _ _ (λ e. none_depends (row t) t.fresh (var c.args.site.output) (ap (marked t.fresh) (sym c.var.ensures) ∙ sym c.is_marked-last.ensures ∙ e) t.n (take t.count t.sites.now) t.out _ c.if-not-is_allowed.ensures.walked)

pub invariant_of-self-clause-few : goal.invariant_of-self-clause-few
invariant_of-self-clause-few c =
    let t = c.args.self.now in
    omega (arith, next_fits t (gate_of (row t) c.args.site) c.requires.valid (sym c.is_allowed.ensures.is ∙ c.if-not-is_allowed.false))

pub invariant_of-self-clause-within : goal.invariant_of-self-clause-within
invariant_of-self-clause-within c =
    let t = c.args.self.now in
    subst (All (Within (row t))) (sym c.put.ensures.parts) (all_placed (Within (row t)) c.is_allowed.new.marks (take t.count t.sites.now) c.args.site t.within c.requires.within)

pub invariant_of-self-clause-out : goal.invariant_of-self-clause-out
invariant_of-self-clause-out c =
    let t = c.args.self.now in
    subst (All (IsOut (row t) c.leave_all.new.fresh)) (sym c.put.ensures.parts)
    (subst (λ m. All (IsOut (row t) m) (placed c.is_allowed.new.marks (take t.count t.sites.now) c.args.site)) (sym c.leave_all.ensures)
    (all_out (row t) t.fresh c.args.site c.is_allowed.new.marks (take t.count t.sites.now) t.out))

pub invariant_of-self-clause-taken : goal.invariant_of-self-clause-taken
invariant_of-self-clause-taken c =
    let t = c.args.self.now in
    still_taken t.n (table t) (gates t) _ (gate_of (row t) c.args.site) t.taken c.requires.valid (sym c.is_allowed.ensures.is ∙ c.if-not-is_allowed.false)
    (c.put.ensures.order (row t) t.n c.if-not-is_allowed.ensures.walked)

pub returns : goal.returns
returns c =
    let t = c.args.self.now in
    one_taken (gate_of (row t) c.args.site) t _ refl refl (sym c.is_allowed.ensures.is ∙ c.if-not-is_allowed.false) (c.put.ensures.order (row t) t.n c.if-not-is_allowed.ensures.walked)
