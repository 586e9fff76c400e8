-- Every place is written.
use Rattle.std.proofs.Common.{◌≡◌, ◌∙◌, sym, ap, map, arith}
use Rattle.tables.specs.Clause.{clauses}
use Rattle.pairing.specs.Substitute.{substituted}
use Rattle.pairing.proofs.StandSteps.{map_ends}
use Rattle.pairing.proofs.SubstituteSteps.{clauses_substituted, row_inside}
use Rattle.pairing.proofs.substitute.substitute.Goals as goal

pub returns-clause-is : goal.returns-clause-is
returns-clause-is c =
    let s = c.args.stands.now.row.now in
    let all : map (substituted s) c.args.row.now ≡ c.loop-place.row = c.loop-place.invariant.turned ∙ map_ends (substituted s) c.loop-place.row c.loop-place.place-index (omega arith) in
    ap clauses (sym all) ∙ clauses_substituted s c.args.row.now c.requires.live

pub returns-clause-still_inside : goal.returns-clause-still_inside
returns-clause-still_inside c =
    let s = c.args.stands.now.row.now in
    let all : map (substituted s) c.args.row.now ≡ c.loop-place.row = c.loop-place.invariant.turned ∙ map_ends (substituted s) c.loop-place.row c.loop-place.place-index (omega arith) in
    row_inside s c.args.row.now c.loop-place.row c.args.stands.now.coded c.requires.inside c.requires.live (sym all)
