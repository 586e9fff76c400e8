-- The gate stands between the two parts; and so the gates of the sites stand in the rules' order of evaluation.
use Rattle.std.proofs.Common.{◌≡◌, ◌∙◌, ap, take, drop, length, arith, length-append}
use Rattle.std.proofs.lemmas.List.{length-take-le, length-drop}
use Rattle.gates.specs.Sites.{gates_of}
use Rattle.taking.proofs.PlaceSteps.{laid}
use Rattle.taking.proofs.Placed.{gates_placed}
use Rattle.taking.proofs.place.place.Goals as goal

pub returns-clause-parts : goal.returns-clause-parts
returns-clause-parts c =
    let sites = c.args.sites.now in
    let n : length (take c.args.count sites) ≡ c.args.count = length-take-le c.args.count sites (omega (arith, c.requires.room)) in
    laid c.split-kept.new.row (drop c.args.count sites) c.split-kept.new.later c.copy_from_slice.new.self c.args.site c.args.count c.split-kept.result (length (take c.args.count sites)) _ _
    (omega (arith, n, c.split-kept.ensures.within, c.split-kept.auto.row)) (omega (arith, n, c.split-kept.ensures.within))
    (omega (arith, n, c.requires.room, c.split-kept.auto.row, length-append c.split-kept.new.row (drop c.args.count sites), length-drop c.args.count sites))
    (omega (arith, c.requires.few, c.split-kept.auto.later)) n c.copy_from_slice.ensures.after c.split-kept.ensures.staying c.split-kept.ensures.later

pub returns-clause-order : goal.returns-clause-order
returns-clause-order c row n e = ap (gates_of row) (returns-clause-parts c) ∙ gates_placed row n c.args.marks.now (take c.args.count c.args.sites.now) c.args.site e
