-- The codes stay within the row.
use Rattle.std.proofs.Common.{◌≡◌, map, arith}
use Rattle.std.proofs.lemmas.Grind.{common_steps}
use Rattle.tables.specs.Literal.{literal}
use Rattle.rules.specs.Pairs.{join}
use Rattle.pairing.proofs.StandSteps.{two_sides, joined_coded}
use Rattle.pairing.proofs.stands.Stands.join.Goals as goal

pub invariant_of-self-clause-coded : goal.invariant_of-self-clause-coded
unfolding join
invariant_of-self-clause-coded c =
    let s = c.args.self.now.row.now in
    let clause = c.args.clause.now in
    let e : c.meet.new.row ≡ join s (map literal clause) = grind (arith, common_steps, two_sides) in
    joined_coded s c.meet.new.row clause c.requires.two c.requires.inside c.args.self.now.coded e
