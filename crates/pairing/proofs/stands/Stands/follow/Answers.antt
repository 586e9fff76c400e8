-- The literals stay within the row that was followed.
use Rattle.std.proofs.Common.{◌*◌, ◌<◌, ◌≤◌, ◌∙◌, subst, ℕ, List, length, arith}
use Rattle.std.specs.List.{All}
use Rattle.rules.specs.Pairs.{replace}
use Rattle.pairing.proofs.StandSteps.{map_ends, followed_coded}
use Rattle.pairing.proofs.stands.Stands.follow.Goals as goal

pub returns-clause-still_inside : goal.returns-clause-still_inside
returns-clause-still_inside c =
    let r = c.args.self.now.row.now in
    let le : length c.loop-place.all ≤ c.loop-place.place-index = omega arith in
    subst (λ (s : List ℕ). All (λ l. l < 2 * length r) s)
    (c.loop-place.invariant.turned ∙ map_ends (replace r) c.loop-place.all c.loop-place.place-index le)
    (followed_coded r c.args.all.now c.args.self.now.coded c.requires)
